use Rattle.std.proofs.Common.{rules, sym, ◌∙◌}
use Rattle.std.proofs.Math.ListN.{get_or-map}
use Rattle.circuit.specs.Netlist.{mark}
use Rattle.circuit.proofs.ServedLaws.{length-served}
use Rattle.whole.specs.Fill.{filling_next}
use Rattle.marks.proofs.fill_served.Goals as goal

pub loop-i-preserved : goal.loop-i-preserved
loop-i-preserved c = filling_next 0 c.loop-i.invariant (rw length-served (search rules)) (c.mark_of.ensures ∙ sym (get_or-map mark c.args.kinds.now c.loop-i.i 0))
