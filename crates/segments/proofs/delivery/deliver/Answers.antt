use Rattle.std.proofs.Common.{arith, rules}
use Rattle.segments.specs.Delivery.{giving_next}
use Rattle.segments.proofs.delivery.deliver.Goals as goal

pub loop-i-preserved : goal.loop-i-preserved
loop-i-preserved c = giving_next c.loop-i.invariant (omega arith) (search rules) (search rules)
