use Rattle.std.proofs.Common.{arith}
use Rattle.std.proofs.lemmas.Int.{to_z-of_z}
use Rattle.timing.specs.Fill.{filling_starts, filling_next}
use Rattle.timing.proofs.Times.slacks_in.Goals as goal

pub loop-x-init : goal.loop-x-init
loop-x-init c = filling_starts _

pub loop-x-preserved : goal.loop-x-preserved
loop-x-preserved c = filling_next _ c.loop-x.invariant (omega arith) (grind (arith, to_z-of_z))
