use Rattle.std.proofs.Common.{rules}
use Rattle.segments.specs.Choice.{best_next, best_starts}
use Rattle.segments.proofs.choice.choose.Goals as goal

pub loop-x-init : goal.loop-x-init
loop-x-init c = best_starts _ _ _

pub loop-x-preserved : goal.loop-x-preserved
loop-x-preserved c = rw (← best_next _ _ _ c.loop-x-test.true c.loop-x.invariant) (search rules)
