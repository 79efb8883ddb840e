use Rattle.std.proofs.Common.{arith}
use Rattle.std.proofs.lemmas.Result.{err_from_is_err_and}
use Rattle.netlists.specs.ReadLaws.{reading_starts, reading_ends, reading_stops, reading_refused, reading_next}
use Rattle.netlists.proofs.read_records.Goals.{else-loop-test, then-loop-test+in_ok-next+in_default}
use Rattle.netlists.proofs.read_records.Goals as goal

pub loop-init : goal.loop-init
loop-init c = let (e, (f, (g, h))) = c.default-st.ensures in reading_starts (omega arith) e f g h

pub returns-in_err-next : goal.returns-in_err-next
returns-in_err-next c =
    let p = err_from_is_err_and c.from_residual.result c.from_residual.ensures.1 in
    rw (p.1, p.2) (reading_refused c.loop.invariant (omega arith) c.step.ensures c.in_err-next.was)

pub loop-preserved : goal.loop-preserved
loop-preserved c = reading_next c.loop.invariant (omega arith) c.step.ensures (rw c.in-Some.is at c.in_ok-next.was)

pub returns : goal.returns
returns c =
    elim c.loop-test.branch [
      | else-loop-test w ↦ rw w.decoded-is (reading_ends c.loop.invariant (omega arith) c.ended.ensures)
      | then-loop-test+in_ok-next+in_default w ↦ rw w.decoded-is (reading_stops c.loop.invariant (omega arith) w.step.ensures (rw w.in_default.is at w.in_ok-next.was) c.ended.ensures)
    ]
