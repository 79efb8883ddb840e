use Rattle.std.proofs.lemmas.Result.{err_from_is_err_and}
use Rattle.std.proofs.Common.{refl, length-take-le}
use Rattle.hozbantir.specs.Exports.{room_in}
use Rattle.hozbantir.proofs.AnswerLaws.{err_refused}
use Rattle.hozbantir.proofs.ReadingLaws.{reads_refused, both_listed, reads_done}
use Rattle.hozbantir.proofs.SendLaws.{sent_refusal}
use Rattle.hozbantir.proofs.exports.read_back_into.Goals as goal

pub returns-in_err-n : goal.returns-in_err-n
returns-in_err-n c = let p = err_from_is_err_and c.from_residual.result c.from_residual.ensures.1 in rw (p.1, p.2) (rw (reads_refused c.in_err-n.ensures (room_in c.args.bytes.now) (err_refused _)) (sent_refusal (λ x. x) _ _))

pub columns_of-requires : goal.columns_of-requires
columns_of-requires c = both_listed c.in_ok-n.ensures refl

pub bounds_into-requires : goal.bounds_into-requires
bounds_into-requires c = let q = c.columns_of.ensures in let l = both_listed c.in_ok-n.ensures refl in rw (q.1, q.2) (l.bases, l.increments)

pub returns : goal.returns
returns c =
    let e = c.in_ok-n.ensures in
    let q = c.columns_of.ensures in
    rw (reads_done e refl (room_in c.args.bytes.now)) (rw (q.0, q.1, q.2, length-take-le _ c.judged.new.served (both_listed e refl).marks_all) at c.bounds_into.ensures)
