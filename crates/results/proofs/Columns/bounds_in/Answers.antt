use Rattle.std.proofs.Common.{rules, sym, ◌∙◌}
use Rattle.results.specs.Bounds.{length-read}
use Rattle.whole.specs.Fill.{filling_starts, filling_next}
use Rattle.results.proofs.Columns.bounds_in.Goals as goal

pub loop-x-init : goal.loop-x-init
loop-x-init c = filling_starts (length-read _ _ _ ∙ sym c.requires.2)

pub loop-x-preserved : goal.loop-x-preserved
loop-x-preserved c = filling_next 0 c.loop-x.invariant (rw length-read (search rules)) c.bound.ensures
