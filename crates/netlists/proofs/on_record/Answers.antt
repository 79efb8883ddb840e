use Rattle.std.proofs.Common.{arith}
use Rattle.netlists.specs.ReadLaws.{record_component, record_connection, record_other}
use Rattle.netlists.proofs.on_record.Goals as goal

pub returns-in-1 : goal.returns-in-1
returns-in-1 c = record_component _ _ _ (omega arith) c.on_component.ensures.took

pub returns-in-2 : goal.returns-in-2
returns-in-2 c = record_connection _ _ _ (omega arith) c.on_connection.ensures.took

pub returns-in_default : goal.returns-in_default
returns-in_default c = record_other _ _ _ (omega arith) (omega arith)
