use Rattle.std.proofs.Common.{◌≡◌, length}
use Rattle.circuit.specs.Lists.{below}
use Rattle.circuit.specs.Rounds.{choice_of}
use Rattle.segments.proofs.choice.choose.Given as goal

abbrev pub invariant-loop-x : goal.invariant-loop-x
invariant-loop-x l = l.best ≡ below (length l.served) (choice_of l.served l.times.arrivals.now l.times.required.now l.x)
