use Rattle.std.proofs.Common.{sym, ◌∙◌, rules}
use Rattle.segments.specs.Walk.{backing_next}
use Rattle.segments.proofs.steps.Timed.walk_back.Goals as goal

pub loop-q-preserved : goal.loop-q-preserved
loop-q-preserved c = backing_next c.loop-q.invariant (search rules) (sym c.in-Some.is ∙ (rw c.from.ensures at c.previous.ensures))
