use Rattle.std.proofs.Common.{◌∙◌, sym, arith}
use Rattle.netlists.specs.HeldLaws.{component_full, component_goes, component_late, component_outside, component_sized}
use Rattle.netlists.specs.RuleLaws.{fields_is}
use Rattle.netlists.proofs.on_component.Goals.{then-p-ne9-via-then-p-ne9, then-p-ne9-via-else-p-ne9+then-st-ne0}
use Rattle.netlists.proofs.on_component.Goals as goal

pub returns-then-p-ne9-clause-took : goal.returns-then-p-ne9-clause-took
returns-then-p-ne9-clause-took c =
    elim c.then-p-ne9.branch [
      | then-p-ne9-via-then-p-ne9 w ↦ component_sized _ _ c.requires w.if-p-ne9.true
      | then-p-ne9-via-else-p-ne9+then-st-ne0 w ↦ component_late _ _ c.requires (omega arith) w.if-st-ne0.true
    ]

pub returns-then-st-ge1024-clause-took : goal.returns-then-st-ge1024-clause-took
returns-then-st-ge1024-clause-took c = component_full _ _ c.requires (omega arith) (omega arith) (omega arith)

pub returns-then-not-fields_ok-clause-took : goal.returns-then-not-fields_ok-clause-took
returns-then-not-fields_ok-clause-took c =
    component_outside _ _ c.requires (omega arith) (omega arith) (omega arith) c.read_component-c.ensures (sym c.fields_ok.ensures ∙ c.if-not-fields_ok.true)

pub put_component-requires : goal.put_component-requires
put_component-requires c =
    let f = fields_is _ _ _ (sym c.fields_ok.ensures ∙ c.if-not-fields_ok.false) in
    (omega arith, f.most)

pub returns-clause-took : goal.returns-clause-took
returns-clause-took c =
    component_goes _ _ c.requires (omega arith) (omega arith) (omega arith) c.read_component-c.ensures (sym c.fields_ok.ensures ∙ c.if-not-fields_ok.false)
    c.put_component.ensures.one
