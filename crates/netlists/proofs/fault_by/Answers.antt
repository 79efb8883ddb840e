use Rattle.netlists.specs.MarkLaws.{fault_is}
use Rattle.netlists.proofs.fault_by.Goals as goal

pub returns : goal.returns
returns c = fault_is _ _ _ c.lowest_fault.ensures c.mark.ensures c.requires.0
