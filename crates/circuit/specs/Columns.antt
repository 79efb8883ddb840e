-- A netlist lent as columns.
use Rattle.circuit.specs.Netlist.{Netlist, netlist}
use Rattle.circuit.specs.declared.Circuit.{Circuit}

-- the netlist that stands in the columns
abbrev pub netlist_of : Circuit → Netlist
netlist_of c = netlist c.kinds.now c.times.now c.from.now c.to.now
