use Rattle.whole.specs.Fill.{Filling}
use Rattle.rounds.specs.Increments.{rises_of}
use Rattle.rounds.proofs.increments.increments_in.Given as goal

abbrev pub invariant-loop-x : goal.invariant-loop-x
invariant-loop-x l = Filling (rises_of l.finals l.bases) l.fn.incs l.incs l.x
