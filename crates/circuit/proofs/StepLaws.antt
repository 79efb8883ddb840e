-- The steps of the walks: `after` gives the lowest-numbered fan-out, and `before` the lowest-numbered served fan-in, for which both walk
-- equalities hold, and the component count exactly where there is none. Of how components are numbered nothing is asked: the connections
-- rise by (to, from), so the first that passes has the lowest number.
use Rattle.std.specs.Prelude.{◌≡◌, Bool, true, ◌&&◌, List, ℕ, ◌+◌, ◌<◌, ◌≤◌, eqb, ℤ, length, refl}
use Rattle.std.proofs.Common.{arith, ⊎_elim, eq-or-lt_of_le, eqb-true, eq-eqb}
use Rattle.std.proofs.lemmas.Bool.{both_ways, and_parts, and_from}
use Rattle.whole.specs.Whole.{eq_is, eq_yes}
use Rattle.circuit.specs.Circuit.{into, Tight}
use Rattle.circuit.specs.Lists.{at}
use Rattle.circuit.proofs.ListLaws.{First, found, missing, first_of_lem}
use Rattle.circuit.specs.Netlist.{Netlist, parts, wires, from, to, circuit_of, marked, Wired, Sorted}
use Rattle.circuit.specs.Rounds.{level, leads, after, feeds, before}

-- P holds of y, and of no lower number
pub record Lowest (P : ℕ → Type 0) (y : ℕ) : Type 0 where
  pub holds : P y
  pub lowest : (z : ℕ) → P z → y ≤ z

-- ---- the first connection that passes

-- What both searches are, through connections numbered below m, for components of which P holds: one that passes f has such a component at
-- its end g, each such component is at the end of one that passes, and along those that pass the ends rise. e is past all ends.
record Search (f : ℕ → Bool) (g : ℕ → ℕ) (m e : ℕ) (P : ℕ → Type 0) : Type 0 where
  only : (j : ℕ) → j < m → f j ≡ true → P (g j)
  all : (y : ℕ) → P y → (j : ℕ) × (j < m) × (f j ≡ true) × (g j ≡ y)
  rise : (i j : ℕ) → i < j → j < m → f i ≡ true → f j ≡ true → g i ≤ g j
  inside : (j : ℕ) → g j < e

-- g at the first that passes is no more than at any other
le_at : (g : ℕ → ℕ) (j i : ℕ) → (i < j → ⊥) → (j < i → g j ≤ g i) → g j ≤ g i
le_at g j i h f = ⊎_elim (λ e. rw e (omega arith)) f (eq-or-lt_of_le (omega arith))

module _ {f : ℕ → Bool} {g : ℕ → ℕ} {m e : ℕ} {P : ℕ → Type 0} (s : Search f g m e P) where
  -- what is found is no higher than any component of which P holds
  low : {x : ℕ} → First f g 0 (0 + m) e x → (y : ℕ) → P y → x ≤ y
  low (found j k l t u v) y p =
      let (i, b, h, q) = s.all y p in
      omega (arith, le_at g j i (λ c. both_ways (f i) (v i (omega arith) c) h) (λ c. s.rise j i c b t h))
  low (missing u v) y p =
      let (i, b, h, q) = s.all y p in
      absurd (both_ways (f i) (v i (omega arith) (omega arith)) h)

  -- what is found is the lowest of which P holds
  search_is : {b x : ℕ} → First f g 0 (0 + m) e x → e ≡ b → x < b → Lowest P x
  search_is (found j k l t u v) q h = record { holds = rw u (s.only j (omega arith) t); lowest = low (found j k l t u v) }
  search_is (missing u v) q h = absurd (omega arith)

  -- where nothing is found, P holds of none
  search_none : {b x : ℕ} → First f g 0 (0 + m) e x → e ≡ b → b ≤ x → (y : ℕ) → P y → ⊥
  search_none c r h y p =
      let (i, b, t, q) = s.all y p in
      omega (arith, low c y p, s.inside i)

-- ---- the steps

module _ (n : Netlist) (d a r : List ℤ) where
  abbrev Joined : ℕ → ℕ → Type 0
  Joined = Tight (circuit_of n) (at d) (at a) (at r)

  abbrev taut : ℕ → Bool
  taut j = level d r (from n j) (to n j) && level d a (from n j) (to n j)

  -- both tests of connection j pass exactly if its wire has both equalities
  taut_is : {x y : ℕ} (j : ℕ) → j < wires n → from n j ≡ x → to n j ≡ y → taut j ≡ true → Joined x y
  unfolding level into
  taut_is j l e f h =
      let (p, q) = and_parts (level d r (from n j) (to n j)) (level d a (from n j) (to n j)) h in
      rw (← e, ← f) (record { wire = (j, l, refl, refl); same_required = eq_is _ _ p; same_arrival = eq_is _ _ q })

  taut_yes : {x y : ℕ} (j : ℕ) → from n j ≡ x → to n j ≡ y → Joined x y → taut j ≡ true
  unfolding level into
  taut_yes {x} {y} j e f t = rw (e, f) (and_from (level d r x y) (level d a x y) (eq_yes _ _ t.same_required) (eq_yes _ _ t.same_arrival))

  module _ (all_delays : length d ≡ parts n) (w : Wired n.froms n.tos (parts n)) (s : Sorted n.froms n.tos) where
    -- forward, the targets rise
    forward : (x : ℕ) → Search (leads n.froms n.tos d a r x) (to n) (wires n) (length d) (Joined x)
    unfolding leads
    forward x =
        record {
          only = λ j l h. let (p, q) = and_parts (eqb (from n j) x) (taut j) h in taut_is j l (eqb-true (from n j) x p) refl q;
          all = λ y t. let (j, l, p, q) = t.wire in (j, l, and_from (eqb (from n j) x) (taut j) (eq-eqb (from n j) x p) (taut_yes j p q t), q);
          rise = λ i j l h p q. ⊎_elim (λ c. omega arith) (λ c. omega arith) (s.rise i j l h);
          inside = λ j. rw all_delays (w.target j);
        }

    -- backward, the sources rise, since the target is x for all that pass
    backward : (sv : List ℕ) (x : ℕ) → Search (feeds n.froms n.tos sv d a r x) (from n) (wires n) (length d) (λ y. Joined y x × (marked sv y ≡ true))
    unfolding feeds
    backward sv x =
        record {
          only = λ j l h.
              let (p, k) = and_parts (eqb (to n j) x) (marked sv (from n j) && taut j) h in
              let (m, q) = and_parts (marked sv (from n j)) (taut j) k in
              (taut_is j l refl (eqb-true (to n j) x p) q, m);
          all = λ y t.
              let (j, l, p, q) = t.0.wire in
              (j, l, and_from (eqb (to n j) x) (marked sv (from n j) && taut j) (eq-eqb (to n j) x q) (and_from (marked sv (from n j)) (taut j) (rw p t.1) (taut_yes j p q t.0)), p);
          rise = λ i j l h p q.
              let u = eqb-true (to n i) x (and_parts (eqb (to n i) x) (marked sv (from n i) && taut i) p).0 in
              let v = eqb-true (to n j) x (and_parts (eqb (to n j) x) (marked sv (from n j) && taut j) q).0 in
              ⊎_elim (λ c. omega arith) (λ c. omega arith) (s.rise i j l h);
          inside = λ j. rw all_delays (w.source j);
        }

    -- forward: the lowest-numbered fan-out of x for which both equalities hold
    pub after_is : (x : ℕ) → after n.froms n.tos d a r x < parts n → Lowest (Tight (circuit_of n) (at d) (at a) (at r) x) (after n.froms n.tos d a r x)
    unfolding after
    after_is x h = search_is (forward x) (first_of_lem _ _ 0 (wires n) _) all_delays h

    -- the walk forward stops at x only if there is none
    pub after_none : (x : ℕ) → parts n ≤ after n.froms n.tos d a r x → (y : ℕ) → Tight (circuit_of n) (at d) (at a) (at r) x y → ⊥
    unfolding after
    after_none x h = search_none (forward x) (first_of_lem _ _ 0 (wires n) _) all_delays h

    -- backward: the lowest-numbered served fan-in of x for which both equalities hold
    pub before_is : (sv : List ℕ) (x : ℕ) → before n.froms n.tos sv d a r x < parts n → Lowest (λ y. Tight (circuit_of n) (at d) (at a) (at r) y x × (marked sv y ≡ true)) (before n.froms n.tos sv d a r x)
    unfolding before
    before_is sv x h = search_is (backward sv x) (first_of_lem _ _ 0 (wires n) _) all_delays h

    -- the walk backward stops at x only if there is none
    pub before_none : (sv : List ℕ) (x : ℕ) → parts n ≤ before n.froms n.tos sv d a r x → (y : ℕ) → Tight (circuit_of n) (at d) (at a) (at r) y x → marked sv y ≡ true → ⊥
    unfolding before
    before_none sv x h y t m = search_none (backward sv x) (first_of_lem _ _ 0 (wires n) _) all_delays h y (t, m)
