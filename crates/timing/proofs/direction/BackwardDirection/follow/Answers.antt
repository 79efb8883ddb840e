use Rattle.std.proofs.Common.{arith}
use Rattle.std.proofs.lemmas.Int.{to_z-of_z}
use Rattle.whole.specs.Whole.{min_z}
use Rattle.circuit.specs.Times.{step}
use Rattle.timing.proofs.direction.BackwardDirection.follow.Goals as goal

pub returns : goal.returns
unfolding step min_z
returns c = grind (arith, to_z-of_z)
