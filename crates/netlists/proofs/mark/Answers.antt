use Rattle.std.proofs.Common.{arith}
use Rattle.netlists.specs.MarkLaws.{marking_ends, marking_next, marking_starts}
use Rattle.netlists.proofs.mark.Goals as goal

pub loop-x-init : goal.loop-x-init
loop-x-init c = marking_starts (c.fill.ensures.after (λ y e. e))

pub loop-x-preserved : goal.loop-x-preserved
loop-x-preserved c = marking_next c.loop-x.invariant (c.requires.each c.loop-x.x-index (omega arith)) (rw c.from.ensures)

pub returns : goal.returns
returns c = marking_ends c.loop-x.invariant (omega arith)
