use Rattle.netlists.specs.MarkLaws.{fault_least}
use Rattle.netlists.proofs.fault_of.Goals.{in_default-via-in-Some+in_default, in_default-via-in_default}
use Rattle.netlists.proofs.fault_of.Goals as goal

pub returns-in-Some-Some : goal.returns-in-Some-Some
returns-in-Some-Some c =
    let f = fault_least _ _ _ c.fault_by-i.ensures c.fault_by-o.ensures in
    rw c.min.ensures (rw (c.in-Some-Some.is-0, c.in-Some-Some.is-1) at f)

pub returns-in_default : goal.returns-in_default
returns-in_default c =
    let f = fault_least _ _ _ c.fault_by-i.ensures c.fault_by-o.ensures in
    elim c.in_default.branch [
      | in_default-via-in-Some+in_default w ↦ rw (c.or.ensures, w.in_default.is-0) (rw (w.in_default.is-0, w.in_default.is-1) at f)
      | in_default-via-in_default w ↦ rw (c.or.ensures, w.in_default.is-0) (rw w.in_default.is-0 at f)
    ]
