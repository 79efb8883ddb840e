use Rattle.segments.specs.Delivery.{Giving}
use Rattle.segments.proofs.delivery.deliver.Given as goal

abbrev pub invariant-loop-i : goal.invariant-loop-i
invariant-loop-i l = Giving l.seg l.s l.fn.d l.d l.i l.left
