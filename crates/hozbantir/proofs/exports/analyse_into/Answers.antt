use Rattle.std.proofs.lemmas.Result.{err_from_is_err_and}
use Rattle.std.proofs.Common.{refl, of_z}
use Rattle.std.specs.Int.{w32}
use Rattle.hozbantir.specs.Exports.{room_in}
use Rattle.hozbantir.proofs.AnswerLaws.{err_refused}
use Rattle.hozbantir.proofs.SlacksLaws.{analysis_refused, clocked_paired, analysis_by}
use Rattle.hozbantir.proofs.SendLaws.{sent_refusal}
use Rattle.hozbantir.proofs.exports.analyse_into.Goals as goal

pub returns-in_err-n : goal.returns-in_err-n
returns-in_err-n c = let p = err_from_is_err_and c.from_residual.result c.from_residual.ensures.1 in rw (p.1, p.2) (rw (analysis_refused c.in_err-n.ensures (room_in c.args.bytes.now) (err_refused _)) (sent_refusal (of_z w32) _ _))

pub times_of-requires : goal.times_of-requires
times_of-requires c = clocked_paired c.in_ok-n.ensures refl

pub slacks_into-requires : goal.slacks_into-requires
slacks_into-requires c = let q = c.times_of.ensures in rw (q.0, q.1) (clocked_paired c.in_ok-n.ensures refl).narrow

pub returns : goal.returns
returns c = let q = c.times_of.ensures in rw (analysis_by c.in_ok-n.ensures refl (room_in c.args.bytes.now)) (rw (q.0, q.1) at c.slacks_into.ensures)
