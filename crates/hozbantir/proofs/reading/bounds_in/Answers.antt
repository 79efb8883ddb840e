use Rattle.std.proofs.lemmas.Result.{err_from_is_err_and}
use Rattle.std.proofs.Common.{refl}
use Rattle.hozbantir.proofs.AnswerLaws.{room_short, room_enough}
use Rattle.results.specs.Bounds.{length-read}
use Rattle.hozbantir.proofs.reading.bounds_in.Goals as goal

pub returns-in_err-check_room : goal.returns-in_err-check_room
returns-in_err-check_room c =
    let p = err_from_is_err_and c.from_residual.result c.from_residual.ensures.1 in
    let q = c.in_err-check_room.ensures.short in
    rw (p.1, p.2, q.1) (room_short _ _ _ _ q.0)

pub returns : goal.returns
returns c = room_enough _ _ _ _ c.in_ok-check_room.ensures.fits (length-read _ _ _) (rw c.bounds_in.ensures refl)
