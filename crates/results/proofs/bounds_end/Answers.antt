use Rattle.std.proofs.Common.{rules, arith}
use Rattle.results.specs.Judging.{reading_next}
use Rattle.results.proofs.bounds_end.Goals as goal

pub loop-x-preserved : goal.loop-x-preserved
loop-x-preserved c = (search rules, reading_next c.loop-x.invariant.1 (omega arith) (omega arith) c.in_ok-bound.ensures)
