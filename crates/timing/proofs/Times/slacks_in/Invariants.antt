use Rattle.circuit.specs.Times.{slack_at}
use Rattle.timing.specs.Fill.{Filling}
use Rattle.timing.proofs.Times.slacks_in.Given as goal

abbrev pub invariant-loop-x : goal.invariant-loop-x
invariant-loop-x l = Filling (slack_at l.self.arrivals.now l.self.required.now) l.fn.out l.out l.x
