use Rattle.std.proofs.lemmas.Result.{err_from_is_err_and}
use Rattle.std.proofs.Common.{refl, length-take-le}
use Rattle.hozbantir.proofs.AnswerLaws.{room_short, room_enough}
use Rattle.hozbantir.proofs.SlacksLaws.{length-by}
use Rattle.hozbantir.proofs.analysis.slacks_in.Goals as goal

pub returns-in_err-check_room : goal.returns-in_err-check_room
returns-in_err-check_room c =
    let p = err_from_is_err_and c.from_residual.result c.from_residual.ensures.1 in
    let q = c.in_err-check_room.ensures.short in
    rw (p.1, p.2, q.1) (room_short _ _ _ _ q.0)

pub returns : goal.returns
returns c = let h = c.in_ok-check_room.ensures.fits in room_enough _ _ _ _ h (length-by _ _) (rw (c.slacks_in.ensures, length-take-le _ c.args.out.now h) refl)
