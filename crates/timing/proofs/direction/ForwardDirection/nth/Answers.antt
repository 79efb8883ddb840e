use Rattle.timing.specs.Sweep.{order_at}
use Rattle.timing.proofs.direction.ForwardDirection.nth.Goals as goal

pub returns-clause-is : goal.returns-clause-is
returns-clause-is c = order_at _ _ c.requires
