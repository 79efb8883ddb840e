use Rattle.std.proofs.Common.{◌≡◌, length}
use Rattle.results.specs.Judging.{Reading}
use Rattle.results.proofs.bounds_end.Given as goal

abbrev pub invariant-loop-x : goal.invariant-loop-x
invariant-loop-x l = (length l.increments ≡ length l.initial.increments) × Reading l.s l.served l.bases l.x l.at l.increments
