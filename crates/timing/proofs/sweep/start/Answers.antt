use Rattle.std.proofs.Common.{arith, tests}
use Rattle.std.proofs.lemmas.Int.{to_z-of_z}
use Rattle.circuit.specs.Times.{anchor}
use Rattle.timing.specs.Fill.{filling_starts, filling_next}
use Rattle.timing.proofs.sweep.start.Goals.{then-circuit-x, else-circuit-x}
use Rattle.timing.proofs.sweep.start.Goals as goal

pub loop-x-init : goal.loop-x-init
loop-x-init g c = filling_starts _

pub loop-x-preserved : goal.loop-x-preserved
unfolding anchor
loop-x-preserved g c = filling_next _ c.loop-x.invariant (omega arith) (elim c.if-circuit-x.branch [
  | then-circuit-x w ↦ grind (arith, tests, to_z-of_z)
  | else-circuit-x w ↦ grind (arith, tests, to_z-of_z)
])
