use Rattle.timing.specs.Sweep.{back_at}
use Rattle.timing.proofs.direction.BackwardDirection.nth.Goals as goal

pub returns-clause-is : goal.returns-clause-is
returns-clause-is c = back_at _ _ c.requires
