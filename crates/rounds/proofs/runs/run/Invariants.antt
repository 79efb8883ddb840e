use Rattle.circuit.specs.Columns.{netlist_of}
use Rattle.circuit.proofs.RunLaws.{positives}
use Rattle.rounds.specs.Run.{Running}
use Rattle.rounds.specs.Work.{Kept}
use Rattle.rounds.proofs.runs.run.Given as goal

abbrev pub invariant-loop-count : goal.invariant-loop-count
invariant-loop-count l = record { running : Running (netlist_of l.circuit) l.fn.work.delays.now l.work.delays.now l.count; kept : Kept l.fn.work l.work }

abbrev pub decreases-loop-count : goal.decreases-loop-count
decreases-loop-count l = positives (netlist_of l.circuit) l.work.delays.now
