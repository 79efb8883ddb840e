use Rattle.circuit.specs.Columns.{netlist_of}
use Rattle.rounds.specs.Sharing.{Descending}
use Rattle.rounds.proofs.cases.Case.share.Given as goal

abbrev pub invariant-loop-k : goal.invariant-loop-k
invariant-loop-k l = Descending (netlist_of l.self.circuit) l.self.served.now l.self.base.now l.t l.k
