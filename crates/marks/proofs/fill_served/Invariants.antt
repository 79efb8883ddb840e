use Rattle.circuit.specs.Netlist.{served_of}
use Rattle.whole.specs.Fill.{Filling}
use Rattle.marks.proofs.fill_served.Given as goal

abbrev pub invariant-loop-i : goal.invariant-loop-i
invariant-loop-i l = Filling (served_of l.kinds) l.initial.served l.served l.i
