-- What was stored is held.
use Rattle.std.specs.Prelude.{◌≡◌, true, false, List, [], ◌∷◌, ◌++◌, ℕ, ◌+◌, ◌≤◌, ◌<◌, length, take, Ok, Err}
use Rattle.std.proofs.Common.{refl, ◌∙◌, length-append, arith}
use Rattle.whole.specs.Pick.{if_yes, if_no}
use Rattle.netlists.specs.declared.Fault.TheVariants.{Tag, Size, Field, Wiring}
use Rattle.netlists.specs.declared.State.{State}
use Rattle.netlists.specs.declared.Component.{Component}
use Rattle.netlists.specs.declared.Connection.{Connection}
use Rattle.netlists.specs.declared.Decoded.{Decoded}
use Rattle.netlists.specs.Judge.{with_component, with_connection, key, fields_ok, wiring_ok, Go, on_component, on_connection}
use Rattle.netlists.specs.Held.{held, OneComponent, OneConnection, Room, component_of, connection_of, Took}

one_more : {A : Type 0} (xs : List A) (v : A) {ys : List A} {i : ℕ} → length xs ≡ i → ys ≡ xs ++ (v ∷ []) → length ys ≡ i + 1
one_more xs v h e = rw (e, length-append xs (v ∷ []), h) refl

-- the state after one more component, and after one more connection
abbrev pub one_component : State → (next : ℕ) → State
one_component st next = record { at = next; comps = st.comps + 1; conns = st.conns; least = st.least }

abbrev pub one_connection : State → (next least : ℕ) → State
one_connection st next least = record { at = next; comps = st.comps; conns = st.conns + 1; least = least }

module _ {st : State} {a x : Decoded} (room : Room st a) (next : ℕ) where
  component_held : {c : Component} → OneComponent a x st.comps c → (Go (held (one_component st next) x) ≡ Go (with_component (held st a) next c.kind c.base c.time)) × Room (one_component st next) x
  component_held {c} o = (
    rw (o.kinds, o.bases, o.times, o.from, o.to) refl,
    record { comps = one_more (take st.comps a.kinds) c.kind room.comps o.kinds; conns = rw o.from room.conns },
  )

  connection_held : {w : Connection} {least : ℕ} → OneConnection a x st.conns w → least ≡ key w.from w.to + 1
      → (Go (held (one_connection st next least) x) ≡ Go (with_connection (held st a) next w.from w.to)) × Room (one_connection st next least) x
  connection_held {w} o e = (
    rw (o.kinds, o.bases, o.times, o.from, o.to, e) refl,
    record { comps = rw o.kinds room.comps; conns = one_more (take st.conns a.from) w.from room.conns o.from },
  )

module _ (p : List ℕ) (next : ℕ) {st : State} {a : Decoded} (room : Room st a) where
  -- ---- the ways through a component's record

  pub component_sized : (length p ≡ 9 → ⊥) → Took (Err (Tag st.at)) a a (on_component p (held st a) next)
  unfolding on_component
  component_sized h₁ = record { turned = (if_no _ _ h₁ refl, refl) }

  pub component_late : length p ≡ 9 → (st.conns ≡ 0 → ⊥) → Took (Err (Tag st.at)) a a (on_component p (held st a) next)
  unfolding on_component
  component_late h₁ h₂ = record { turned = (if_yes _ _ h₁ (if_no _ _ (omega arith) refl), refl) }

  pub component_full : length p ≡ 9 → st.conns ≡ 0 → 1024 ≤ st.comps → Took (Err (Size st.at)) a a (on_component p (held st a) next)
  unfolding on_component
  component_full h₁ h₂ h₃ =
      record { turned = (if_yes _ _ h₁ (if_yes _ _ (omega arith) (if_no _ _ (omega arith) refl)), refl) }

  module _ {c : Component} (h₁ : length p ≡ 9) (h₂ : st.conns ≡ 0) (h₃ : st.comps < 1024) (read : c ≡ component_of p) where
    pub component_outside : fields_ok c.kind c.base c.time ≡ false → Took (Err (Field st.at)) a a (on_component p (held st a) next)
    unfolding on_component
    component_outside h₄ =
        record { turned = (if_yes _ _ h₁ (if_yes _ _ (omega arith) (if_yes _ _ (omega arith) (if_no _ _ (rw read at h₄) refl))), refl) }

    pub component_goes : {x : Decoded} → fields_ok c.kind c.base c.time ≡ true → OneComponent a x st.comps c
        → Took (Ok (one_component st next)) a x (on_component p (held st a) next)
    unfolding on_component
    component_goes h₄ o =
        let (e, r) = component_held room next o in
        record { turned = (if_yes _ _ h₁ (if_yes _ _ (omega arith) (if_yes _ _ (omega arith) (if_yes _ _ (rw read at h₄) (e ∙ rw read refl)))), r) }

  -- ---- and through a connection's

  pub connection_sized : (length p ≡ 4 → ⊥) → Took (Err (Tag st.at)) a a (on_connection p (held st a) next)
  unfolding on_connection
  connection_sized h₁ = record { turned = (if_no _ _ h₁ refl, refl) }

  pub connection_full : length p ≡ 4 → 4096 ≤ st.conns → Took (Err (Size st.at)) a a (on_connection p (held st a) next)
  unfolding on_connection
  connection_full h₁ h₂ = record { turned = (if_yes _ _ h₁ (if_no _ _ (omega arith) refl), refl) }

  module _ {w : Connection} (h₁ : length p ≡ 4) (h₂ : st.conns < 4096) (read : w ≡ connection_of p) where
    pub connection_outside : wiring_ok w.from w.to st.comps st.least ≡ false → Took (Err (Wiring st.at)) a a (on_connection p (held st a) next)
    unfolding on_connection
    connection_outside h₃ =
        record { turned = (if_yes _ _ h₁ (if_yes _ _ (omega arith) (if_no _ _ (rw room.comps (rw read at h₃)) refl)), refl) }

    pub connection_goes : {x : Decoded} {least : ℕ} → wiring_ok w.from w.to st.comps st.least ≡ true → OneConnection a x st.conns w → least ≡ key w.from w.to + 1
        → Took (Ok (one_connection st next least)) a x (on_connection p (held st a) next)
    unfolding on_connection
    connection_goes h₃ o e₁ =
        let (e, r) = connection_held room next o e₁ in
        record { turned = (if_yes _ _ h₁ (if_yes _ _ (omega arith) (if_yes _ _ (rw room.comps (rw read at h₃)) (e ∙ rw read refl))), r) }
