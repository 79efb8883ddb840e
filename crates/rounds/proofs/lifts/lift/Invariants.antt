use Rattle.whole.specs.Fill.{Filling}
use Rattle.circuit.specs.Share.{lifted}
use Rattle.rounds.proofs.lifts.lift.Given as goal

abbrev pub invariant-loop-x : goal.invariant-loop-x
invariant-loop-x l = Filling (lifted l.served l.t l.base) l.fn.d l.d l.x
