use Rattle.std.proofs.lemmas.Result.{err_from_is_err_and}
use Rattle.std.proofs.Common.{rules}
use Rattle.results.specs.Result.{bounds_read}
use Rattle.results.specs.Bounds.{length-read}
use Rattle.hozbantir.specs.Spreading.{puts_laid}
use Rattle.hozbantir.proofs.SendLaws.{sent_short, sent_done}
use Rattle.hozbantir.proofs.exports.bounds_into.Goals as goal

pub returns-in_err-check_room : goal.returns-in_err-check_room
returns-in_err-check_room c =
    let p = err_from_is_err_and c.from_residual.result c.from_residual.ensures.1 in
    let q = c.in_err-check_room.ensures.short in
    rw (p.1, p.2, q.1) (sent_short (λ x. x) _ (rw c.room_of.ensures at q.0))

pub returns : goal.returns
returns c =
    let k = c.args.columns in
    sent_done (λ x. x) _ (rw c.room_of.ensures at c.in_ok-check_room.ensures.fits)
    (puts_laid (λ x. x) 0 (bounds_read k.served.now k.bases.now k.increments.now) c.put_numbers.ensures (length-read k.served.now k.bases.now k.increments.now) (λ i x h p. search rules))
