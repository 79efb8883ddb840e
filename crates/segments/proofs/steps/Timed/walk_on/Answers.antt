use Rattle.std.proofs.Common.{sym, ◌∙◌, arith}
use Rattle.segments.specs.Walk.{onward_next}
use Rattle.segments.proofs.steps.Timed.walk_on.Goals as goal

pub loop-e-preserved : goal.loop-e-preserved
loop-e-preserved c = onward_next c.loop-e.invariant (omega arith) (sym c.in-Some.is ∙ (rw c.from.ensures at c.next.ensures))
