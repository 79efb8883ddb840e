-- The marks mark just the served, and an accepted netlist has one.
use Rattle.std.specs.Prelude.{◌≡◌, ◌⊎◌, true, false, List, ℕ, ◌<◌, ◌≤◌, length, get_or}
use Rattle.std.proofs.Common.{inl, inr, arith, ne_eqb}
use Rattle.std.proofs.Math.Decide.{ℕ_discrete}
use Rattle.std.proofs.lemmas.Bool.{both_ways}
use Rattle.std.proofs.lemmas.List.{length-map, get_or_past}
use Rattle.std.proofs.Math.ListN.{get_or-map}
use Rattle.circuit.specs.Circuit.{Served}
use Rattle.circuit.specs.Netlist.{Netlist, parts, wires, kind, from, to, net_of, mark, served_of, serves, Judged}

pub length-served : (ks : List ℕ) → length (served_of ks) ≡ length ks
length-served ks = length-map ks mark

-- the mark at x is the mark of the kind at x, past the end too
mark_at : (ks : List ℕ) (x : ℕ) → get_or (served_of ks) x 0 ≡ mark (get_or ks x 0)
mark_at ks x = get_or-map mark ks x 0

module _ (n : Netlist) where
  pub serves_no : (x : ℕ) → kind n x ≡ 0 → serves n x ≡ false
  serves_no x e = rw (mark_at n.kinds x, e)

  pub serves_yes : (x : ℕ) → (kind n x ≡ 0 → ⊥) → serves n x ≡ true
  serves_yes x h = rw (mark_at n.kinds x, ne_eqb (kind n x) 0 h)

  -- a marked number is no input, and a component: past its end a list of kinds has 0
  pub serves_kind : (x : ℕ) → serves n x ≡ true → kind n x ≡ 0 → ⊥
  serves_kind x h e = both_ways (serves n x) (serves_no x e) h

  pub serves_part : (x : ℕ) → serves n x ≡ true → x < parts n
  serves_part x h = let inside : parts n ≤ x → ⊥ = λ l. serves_kind x h (get_or_past n.kinds x 0 l) in omega arith

  pub serves_is : (x : ℕ) → serves n x ≡ true → Served (net_of n) x
  serves_is x h = record { part = serves_part x h; counts = λ s. serves_kind x h s.1 }

  pub is_serves : (x : ℕ) → Served (net_of n) x → serves n x ≡ true
  is_serves x s = serves_yes x (λ e. s.counts (s.part, e))

  -- the target of a connection is served
  pub target_served : Judged n → (j : ℕ) → j < wires n → serves n (to n j) ≡ true
  target_served q j h = serves_yes (to n j) (q.not_in j h)

  -- someone is: component 0 is no input, or a connection leaves it
  pub some_served : Judged n → (x : ℕ) × (serves n x ≡ true)
  some_served q = by (ℕ_discrete (kind n 0) 0) (q.left 0 q.some)
    where
      by : Dec (kind n 0 ≡ 0) → (kind n 0 ≡ 2) ⊎ ((j : ℕ) × (j < wires n) × (from n j ≡ 0)) → (x : ℕ) × (serves n x ≡ true)
      by (no e) l = (0, serves_yes 0 e)
      by (yes e) (inl l) = absurd (omega arith)
      by (yes e) (inr l) = (to n l.0, target_served q l.0 l.1)
