-- One turn of the code's loop is one turn of the judge.
use Rattle.std.specs.Prelude.{◌≡◌, refl, List, ℕ, zero, suc, ◌≤◌, ◌<◌, length, Option, Some, None, Result, Ok, Err}
use Rattle.std.proofs.Common.{ap, ◌∙◌, arith}
use Rattle.whole.specs.Pick.{eq, if_yes, if_no}
use Rattle.records.specs.declared.Record.{Record}
use Rattle.records.specs.declared.Broken as R
use Rattle.records.specs.Record.{record_at, part_of}
use Rattle.netlists.specs.declared.Fault.{Fault}
use Rattle.netlists.specs.declared.Fault.TheVariants.{Broken, Tag}
use Rattle.netlists.specs.declared.State.{State}
use Rattle.netlists.specs.declared.Decoded.{Decoded}
use Rattle.netlists.specs.Judge.{Verdict, Board, empty, on_component, on_connection, on_record, finish, step_of, read_from, records_of, board_of}
use Rattle.netlists.specs.Held.{held, Room, ended_at, Took, OneStep, Decodes, Read}
use Rattle.netlists.specs.BoardLaws.{Final}
use Rattle.netlists.specs.FuelLaws.{board_fine}

-- ---- one record

module _ (p : List ℕ) (b : Board) (next : ℕ) {r : Result State Fault} {e x : Decoded} where
  pub record_component : {tag : ℕ} → tag ≡ 1 → Took r e x (on_component p b next) → Took r e x (on_record tag p b next)
  unfolding on_record
  record_component {tag} h o = record { turned = rw (← if_yes (eq tag 1) _ h refl) o.turned }

  pub record_connection : {tag : ℕ} → tag ≡ 2 → Took r e x (on_connection p b next) → Took r e x (on_record tag p b next)
  unfolding on_record
  record_connection {tag} h o = record { turned = rw (← if_no (eq tag 1) _ (λ u. omega arith) (if_yes (eq tag 2) _ h refl)) o.turned }

pub record_other : (p : List ℕ) (st : State) (next : ℕ) {tag : ℕ} {a : Decoded} → (tag ≡ 1 → ⊥) → (tag ≡ 2 → ⊥) → Took (Err (Tag st.at)) a a (on_record tag p (held st a) next)
unfolding on_record
record_other p st next h g = record { turned = (if_no _ _ h (if_no _ _ g refl), refl) }

-- ---- one step

module _ {s : List ℕ} {st : State} {f : Result (Option Record) R.Broken} {a : Decoded} (found : f ≡ record_at s st.at) where
  pub step_ends : f ≡ Ok None → OneStep (Ok None) s st a a
  unfolding step_of
  step_ends e₁ = record { stepped = (rw (← found, e₁) refl, refl) }

  pub step_broken : {k : R.Broken} → f ≡ Err k → OneStep (Err (Broken st.at)) s st a a
  unfolding step_of
  step_broken e₁ = record { stepped = (rw (← found, e₁) refl, refl) }

  module _ {r : Record} {q : List ℕ} {t : Result State Fault} {x : Decoded} (e₁ : f ≡ Ok (Some r)) (e₂ : q ≡ part_of s r.start r.len) (o : Took t a x (on_record r.tag q (held st a) r.next)) where
    pub step_goes : {next : State} → t ≡ Ok next → OneStep (Ok (Some next)) s st a x
    unfolding step_of
    step_goes g = record { stepped = rw (← found, e₁, ← e₂) (rw g at o.turned) }

    pub step_refused : {k : Fault} → t ≡ Err k → OneStep (Err k) s st a x
    unfolding step_of
    step_refused g = record { stepped = rw (← found, e₁, ← e₂) (rw g at o.turned) }

-- ---- the loop

-- what is left to read from here gives what the whole file gives
pub record Reading (s : List ℕ) (left : ℕ) (st : State) (a : Decoded) : Type 0 where
  pub room : Room st a
  pub rest : read_from left s (held st a) ≡ read_from (length s) s empty

-- a verdict that says what it must of the board that is held has that board in the arrays
decoded : (v : Verdict) {st : State} {a : Decoded} → Room st a → Final (held st a) v → Decodes v (held st a) a
decoded (Ok e) room f =
    let p : e.components ≡ _ = f.0 ∙ room.comps in
    let q : e.connections ≡ _ = f.1 ∙ room.conns in
    rw (p, q) (record { kinds = refl; bases = refl; times = refl; froms = refl; tos = refl })
decoded (Err k) room f = tt

module _ {s : List ℕ} where
  pub reading_starts : {n : ℕ} {st : State} {a : Decoded} → n ≡ length s → st.at ≡ 0 → st.comps ≡ 0 → st.conns ≡ 0 → st.least ≡ 0 → Reading s n st a
  reading_starts n e f g h = record { room = record { comps = rw f refl; conns = rw g refl }; rest = rw (n, e, f, g, h) refl }

  -- it was read to here
  here : {v : Verdict} {st : State} {a : Decoded} → Room st a → (v, held st a) ≡ read_from (length s) s empty → Read s v a
  unfolding records_of board_of
  here {v} room e = record { judged = ap (λ (q : Verdict × Board). q.0) e; decodes = rw (board_of, ← e) (decoded v room (rw (board_of, records_of, ← e) at (board_fine s).1)) }

  -- and the file ends here
  over : {st : State} {v : Verdict} {a : Decoded} → Room st a → (finish s (held st a), held st a) ≡ read_from (length s) s empty → v ≡ ended_at (length s) st.comps st.conns → Read s v a
  unfolding finish
  over {st} {v} {a} room h e =
      let f : v ≡ finish s (held st a) = rw (room.comps, room.conns) e in
      here room (rw f h)

  pub reading_ends : {n : ℕ} {st : State} {v : Verdict} {a : Decoded} → Reading s n st a → n ≤ 0 → v ≡ ended_at (length s) st.comps st.conns → Read s v a
  reading_ends {n = zero} i h e = over i.room i.rest e
  reading_ends {n = suc n} i h e = absurd (omega arith)

  pub reading_stops : {n : ℕ} {st : State} {r : Result (Option State) Fault} {v : Verdict} {e x : Decoded} → Reading s n st e → 0 < n → OneStep r s st e x → r ≡ Ok None
      → v ≡ ended_at (length s) st.comps st.conns → Read s v x
  reading_stops {n = zero} i h d q g = absurd (omega arith)
  reading_stops {n = suc n} i h d q g =
      let (t, u) = rw q at d.stepped in
      rw u (over i.room (rw (← t) at i.rest) g)

  pub reading_refused : {n : ℕ} {st : State} {r : Result (Option State) Fault} {k : Fault} {e x : Decoded} → Reading s n st e → 0 < n → OneStep r s st e x → r ≡ Err k → Read s (Err k) x
  reading_refused {n = zero} i h d q = absurd (omega arith)
  reading_refused {n = suc n} i h d q =
      let (t, u) = rw q at d.stepped in
      rw u (here i.room (rw (← t) at i.rest))

  pub reading_next : {n m : ℕ} {st st' : State} {r : Result (Option State) Fault} {e x : Decoded} → Reading s n st e → n ≡ suc m → OneStep r s st e x → r ≡ Ok (Some st') → Reading s m st' x
  reading_next i h d q =
      let (t, room) = rw q at d.stepped in
      record { room = room; rest = rw (← t) at (rw h at i.rest) }
