use Rattle.std.proofs.lemmas.Result.{err_from_is_err_and}
use Rattle.std.proofs.Common.{rules, pos, of_z}
use Rattle.std.specs.Int.{w32}
use Rattle.hozbantir.specs.Slacks.{slacks_by}
use Rattle.hozbantir.specs.Spreading.{puts_laid}
use Rattle.hozbantir.proofs.SlacksLaws.{length-by, slack_by}
use Rattle.hozbantir.proofs.SendLaws.{sent_short, sent_done}
use Rattle.hozbantir.proofs.exports.slacks_into.Goals as goal

pub returns-in_err-check_room : goal.returns-in_err-check_room
returns-in_err-check_room c =
    let p = err_from_is_err_and c.from_residual.result c.from_residual.ensures.1 in
    let q = c.in_err-check_room.ensures.short in
    rw (p.1, p.2, q.1) (sent_short (of_z w32) _ (rw c.room_of.ensures at q.0))

pub returns : goal.returns
returns c =
    let t = c.args.times in
    sent_done (of_z w32) _ (rw c.room_of.ensures at c.in_ok-check_room.ensures.fits)
    (puts_laid (of_z w32) (pos 0) (slacks_by t.arrivals.now t.required.now) c.put_numbers.ensures (length-by t.arrivals.now t.required.now) (λ i x h p. rw (← slack_by t.arrivals.now t.required.now i h) (search rules)))
