use Rattle.std.proofs.Common.{◌+◌, ◌∙◌, ap, sym, arith}
use Rattle.netlists.specs.HeldLaws.{connection_full, connection_goes, connection_outside, connection_sized}
use Rattle.netlists.specs.RuleLaws.{wiring_is}
use Rattle.netlists.proofs.on_connection.Goals as goal

pub returns-then-p-ne4-clause-took : goal.returns-then-p-ne4-clause-took
returns-then-p-ne4-clause-took c = connection_sized _ _ c.requires c.if-p-ne4.true

pub returns-then-st-ge4096-clause-took : goal.returns-then-st-ge4096-clause-took
returns-then-st-ge4096-clause-took c = connection_full _ _ c.requires (omega arith) (omega arith)

pub returns-then-not-wiring_ok-clause-took : goal.returns-then-not-wiring_ok-clause-took
returns-then-not-wiring_ok-clause-took c =
    connection_outside _ _ c.requires (omega arith) (omega arith) c.read_connection-w.ensures (sym c.wiring_ok.ensures ∙ c.if-not-wiring_ok.true)

pub overflow_add-result-2 : goal.overflow_add-result-2
overflow_add-result-2 c =
    let w = wiring_is _ _ _ _ (sym c.wiring_ok.ensures ∙ c.if-not-wiring_ok.false) in
    omega (arith, w.target, c.key_of.ensures)

pub returns-clause-took : goal.returns-clause-took
returns-clause-took c =
    connection_goes _ _ c.requires (omega arith) (omega arith) c.read_connection-w.ensures (sym c.wiring_ok.ensures ∙ c.if-not-wiring_ok.false)
    c.put_connection.ensures.one (ap (λ k. k + 1) c.key_of.ensures)
