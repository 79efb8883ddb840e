use Rattle.std.proofs.Common.{length}
use Rattle.netlists.specs.MarkLaws.{Marking}
use Rattle.netlists.proofs.mark.Given as goal

abbrev pub invariant-loop-x : goal.invariant-loop-x
invariant-loop-x l = Marking l.l (length l.fn.met) l.met l.x-index
