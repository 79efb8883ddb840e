-- The sweeps give the circuit's times: for any order of the connections in which nothing improves a number that was used already, and for
-- delays of either sign.
use Rattle.std.specs.Prelude.{◌≡◌, refl, ◌⊎◌, pos, negsuc, ◌+ℤ◌, ◌-ℤ◌, ◌≤ℤ◌, length, get_or, List, reverse, ℕ, suc, ◌+◌, ◌*◌, ◌^◌, ◌<◌, ◌≤◌, ℤ}
use Rattle.std.proofs.Common.{ap, ◌∙◌, inl, inr, ⊎_elim, arith, eq-or-lt_of_le, eq-eqb, ne_eqb}
use mathlib.Core.List.{Memᴰ}
use Rattle.std.proofs.Math.Decide.{ℕ_discrete}
use Rattle.std.specs.Int.Signed.{≤ℤ_refl}
use Rattle.std.proofs.lemmas.List.{length-reverse}
use Rattle.whole.specs.Whole.{whole, sum, diff, max_z, min_z, max_one, min_one, max_left, max_right, min_left, min_right}
use Rattle.whole.specs.Range.{Bounded, bounded_more}
use Rattle.circuit.specs.Circuit.{begin, into, Timed, Arrives, Needed}
use Rattle.circuit.specs.Lists.{at, tabulate}
use Rattle.circuit.proofs.ListLaws.{length_from, from_in, from_out, length-tabulate, get_or-tabulate}
use Rattle.circuit.specs.Netlist.{Netlist, parts, wires, kind, from, to, circuit_of, Wired, Sorted, Judged, Rising}
use Rattle.circuit.specs.Times.{Way, sweep, order, Ordered, WireOrder, never, ever, anchor, starts, ends, forward, backward, arrivals, requireds, slack_at, slacks}
use Rattle.circuit.proofs.SweepLaws.{Chooses, Held, length-sweep, grows, met, held, floored, ordered_back, in_reverse, of_reverse, ordered_from}

-- ---- the two choices

-- x is no less than y
infix 20 ◌≥ℤ◌
abbrev pub ◌≥ℤ◌ : ℤ → ℤ → Type 0
x ≥ℤ y = y ≤ℤ x

-- the greater of two is one of them, and no less than either
pub latest : Chooses max_z ◌≤ℤ◌
latest = record {
  same = ≤ℤ_refl;
  chain = λ p q. omega (whole, p, q);
  left = max_left;
  right = max_right;
  one = λ x y. ⊎_elim (λ e. inr e.1) (λ e. inl e.1) (max_one x y);
}

-- the lesser of two is one of them, and no more than either
pub earliest : Chooses min_z ◌≥ℤ◌
earliest = record {
  same = ≤ℤ_refl;
  chain = λ p q. omega (whole, p, q);
  left = min_left;
  right = min_right;
  one = λ x y. ⊎_elim (λ e. inr e.1) (λ e. inl e.1) (min_one x y);
}

-- ---- a sweep that starts from the times of the components of one kind

-- a component of kind k has its time before the sweep
anchor_yes : (ks : List ℕ) (tm : List ℤ) (k : ℕ) (z : ℤ) (x : ℕ) → get_or ks x 0 ≡ k → anchor ks tm k z x ≡ at tm x
unfolding anchor
anchor_yes ks tm k z x h = rw (eq-eqb (get_or ks x 0) k h)

-- and another has z
anchor_no : (ks : List ℕ) (tm : List ℤ) (k : ℕ) (z : ℤ) (x : ℕ) → (get_or ks x 0 ≡ k → ⊥) → anchor ks tm k z x ≡ z
unfolding anchor
anchor_no ks tm k z x h = rw (ne_eqb (get_or ks x 0) k h)

-- b has, for each component, the best of its time, where its kind is k, and of what the connections of u offer: no worse than any, and one of them
record Swept (n : Netlist) (v : Way) (k : ℕ) (R : ℤ → ℤ → Type 0) (u : List ℕ) (b : List ℤ) : Type 0 where
  own : {x : ℕ} → x < parts n → kind n x ≡ k → R (at n.times x) (at b x)
  offer : {j : ℕ} → Memᴰ j u → R (v.go j (at b (v.src j))) (at b (v.tgt j))
  one : {x : ℕ} → x < parts n → ((kind n x ≡ k) × (at b x ≡ at n.times x)) ⊎ ((j : ℕ) × Memᴰ j u × (v.tgt j ≡ x) × (at b x ≡ v.go j (at b (v.src j))))

-- So does a sweep from the times of kind k and from z elsewhere, where every other component is entered and z is past none of the
-- floors that the sweep sinks to.
module _ (n : Netlist) (v : Way) (k : ℕ) (z : ℤ) (u : List ℕ) (R : ℤ → ℤ → Type 0) (o : Chooses v.pick R) (low : ℕ → ℤ) where
  abbrev a₀ : List ℤ
  a₀ = tabulate (anchor n.kinds n.times k z) (parts n)

  swept : ((j : ℕ) → v.src j < parts n) → ((j : ℕ) → v.tgt j < parts n) → Ordered v.src v.tgt u → ((x : ℕ) → x < parts n → (kind n x ≡ k) ⊎ ((j : ℕ) × Memᴰ j u × (v.tgt j ≡ x))) →
      ((i : ℕ) → R (low (suc i)) (low i)) → ((i j : ℕ) (y : ℤ) → R (low i) y → R (low (suc i)) (v.go j y)) → ((x : ℕ) → R (low 0) (at n.times x)) → (R (low (0 + length u)) z → ⊥) → Swept n v k R u (sweep v u a₀)
  swept within inside ordered entered sinks keep high far = record {
    own = λ {x} h e. rw (first_yes x h e) at (grows v (parts n) inside R o u a₀ (length-tabulate _ _) x);
    offer = λ m. met v (parts n) inside R o u a₀ (length-tabulate _ _) ordered m;
    one = λ {x} h. by x h (held v (parts n) inside R o u a₀ (length-tabulate _ _) ordered x) (ℕ_discrete (kind n x) k);
  }
    where
      first_yes : (x : ℕ) → x < parts n → kind n x ≡ k → at a₀ x ≡ at n.times x
      first_yes x h e = get_or-tabulate _ _ x (pos 0) h ∙ anchor_yes n.kinds n.times k z x e

      past : (x : ℕ) → x < parts n → R (low (0 + length u)) (at (sweep v u a₀) x)
      past = floored v (parts n) inside R o low sinks keep within 0 u a₀ (length-tabulate _ _) ordered (λ x h. ⊎_elim (λ e. inl (rw (first_yes x h e) (high x))) inr (entered x h))

      by : (x : ℕ) → x < parts n → Held v u a₀ (sweep v u a₀) x → Dec (kind n x ≡ k) →
          ((kind n x ≡ k) × (at (sweep v u a₀) x ≡ at n.times x)) ⊎ ((j : ℕ) × Memᴰ j u × (v.tgt j ≡ x) × (at (sweep v u a₀) x ≡ v.go j (at (sweep v u a₀) (v.src j))))
      by x h (inr m) e = inr m
      by x h (inl s) (yes e) = inl (e, s ∙ first_yes x h e)
      by x h (inl s) (no e) = absurd (far (rw (s ∙ get_or-tabulate _ _ x (pos 0) h ∙ anchor_no n.kinds n.times k z x e) at (past x h)))

-- ---- over any order

-- arrivals by the order w
abbrev pub arrivals_by : Netlist → List ℕ → List ℤ → List ℤ
arrivals_by n w d = sweep (forward n.froms n.tos d) w (tabulate (starts n) (parts n))

-- and required times, the order the other way round
abbrev pub requireds_by : Netlist → List ℕ → List ℤ → List ℤ
requireds_by n w d = sweep (backward n.froms n.tos d) (reverse w) (tabulate (ends n) (parts n))

-- all that the times need of a netlist: every component lies between an input and an output, and no time is near what stands for none
pub record Joined (n : Netlist) : Type 0 where
  pub times_in : Bounded (2 ^ 27) n.times
  pub wired : Wired n.froms n.tos (parts n)
  pub entered : (x : ℕ) → x < parts n → (kind n x ≡ 0) ⊎ ((j : ℕ) × (j < wires n) × (to n j ≡ x))
  pub left : (x : ℕ) → x < parts n → (kind n x ≡ 2) ⊎ ((j : ℕ) × (j < wires n) × (from n j ≡ x))

-- a judged netlist has it
pub judged_joined : {n : Netlist} → Judged n → Joined n
judged_joined q = record { times_in = bounded_more (omega arith) q.times_in; wired = q.wired; entered = q.entered; left = q.left }

module _ {n : Netlist} {w : List ℕ} {d : List ℤ} (q : Joined n) (o : WireOrder n w) (few : length w ≤ 4096) (small : Bounded (2 ^ 29) d) where
  -- the sweep forward: each component has the latest of its own time and of what its fan-in offers
  arrivals_swept : Swept n (forward n.froms n.tos d) 0 ◌≤ℤ◌ w (arrivals_by n w d)
  arrivals_swept = swept n (forward n.froms n.tos d) 0 never w ◌≤ℤ◌ latest (λ k. negsuc (2 ^ 27 + k * 2 ^ 29)) q.wired.source q.wired.target o.ordered
      (λ x h. ⊎_elim inl (λ (m : (j : ℕ) × (j < wires n) × (to n j ≡ x)). inr (m.0, o.all m.0 m.1, m.2)) (q.entered x h))
      (λ k. omega whole)
      (λ k j z h. omega (whole, sum z (at d (to n j)), small.at (to n j)))
      (λ x. omega (whole, q.times_in.at x))
      (λ h. omega whole)

  -- the sweep backward: each has the earliest of its own time and of what its fan-out asks
  requireds_swept : Swept n (backward n.froms n.tos d) 2 ◌≥ℤ◌ (reverse w) (requireds_by n w d)
  requireds_swept = swept n (backward n.froms n.tos d) 2 ever (reverse w) ◌≥ℤ◌ earliest (λ k. pos (2 ^ 27 + k * 2 ^ 29)) q.wired.target q.wired.source (ordered_back w o.ordered)
      (λ x h. ⊎_elim inl (λ (m : (j : ℕ) × (j < wires n) × (from n j ≡ x)). inr (m.0, in_reverse w (o.all m.0 m.1), m.2)) (q.left x h))
      (λ k. omega whole)
      (λ k j z h. omega (whole, diff z (at d (to n j)), small.at (to n j)))
      (λ x. omega (whole, q.times_in.at x))
      (λ h. omega (whole, length-reverse w))

  -- the sweeps over any order give the circuit's times
  pub timed_by : Timed (circuit_of n) (at d) (at (arrivals_by n w d)) (at (requireds_by n w d))
  unfolding into begin
  timed_by = record {
    offered = λ s. arrivals_swept.own s.0 s.1;
    carried = λ m. carry m.2 m.3 (arrivals_swept.offer (o.all m.0 m.1));
    arrives = λ {y} h. arrive y h (arrivals_swept.one h);
    allowed = λ s. requireds_swept.own s.0 s.1;
    asked = λ m. ask m.2 m.3 (requireds_swept.offer (in_reverse w (o.all m.0 m.1)));
    needed = λ {x} h. need x h (requireds_swept.one h);
  }
    where
      a : ℕ → ℤ
      a = at (arrivals_by n w d)

      r : ℕ → ℤ
      r = at (requireds_by n w d)

      carry : {f t x y : ℕ} → f ≡ x → t ≡ y → (a f +ℤ at d t) ≤ℤ a t → (a x +ℤ at d y) ≤ℤ a y
      carry e g h = rw (← e, ← g) h

      ask : {f t x y : ℕ} → f ≡ x → t ≡ y → r f ≤ℤ (r t -ℤ at d t) → r x ≤ℤ (r y -ℤ at d y)
      ask e g h = rw (← e, ← g) h

      arrive : (y : ℕ) → y < parts n → ((kind n y ≡ 0) × (a y ≡ at n.times y)) ⊎ ((j : ℕ) × Memᴰ j w × (to n j ≡ y) × (a y ≡ a (from n j) +ℤ at d (to n j))) → Arrives (circuit_of n) (at d) a y
      arrive y h (inl e) = inl ((h, e.0), e.1)
      arrive y h (inr m) = inr (from n m.0, (m.0, o.only m.1, refl, m.2), m.3 ∙ ap (λ (t : ℕ). a (from n m.0) +ℤ at d t) m.2)

      need : (x : ℕ) → x < parts n → ((kind n x ≡ 2) × (r x ≡ at n.times x)) ⊎ ((j : ℕ) × Memᴰ j (reverse w) × (from n j ≡ x) × (r x ≡ r (to n j) -ℤ at d (to n j))) → Needed (circuit_of n) (at d) r x
      need x h (inl e) = inl ((h, e.0), e.1)
      need x h (inr m) = inr (to n m.0, (m.0, o.only (of_reverse w m.1), m.2, refl), m.3)

-- ---- as they stand

-- the connections are in order as they stand, where each goes to a higher number and they rise by their targets
pub rising_order : {n : Netlist} → Rising n → Sorted n.froms n.tos → WireOrder n (order n)
unfolding order
rising_order {n} r s = record {
  all = λ j h. from_in 0 (wires n) j (omega arith) (omega arith);
  only = λ {j} m. omega (arith, from_out 0 (wires n) m);
  ordered = ordered_from 0 (wires n) (λ j h. r.rise j (omega arith)) (λ j k p h. ⊎_elim (λ e. rw e (omega arith)) (λ l. rises j k l (omega arith)) (eq-or-lt_of_le p));
}
  where
    rises : (j k : ℕ) → j < k → k < wires n → to n j ≤ to n k
    rises j k l h = ⊎_elim (λ t. omega arith) (λ t. omega arith) (s.rise j k l h)

-- that order has as many places as there are connections
pub length-order : (n : Netlist) → length (order n) ≡ wires n
unfolding order
length-order n = length_from 0 (wires n)

-- the netlist's arrivals and required times are the circuit's
pub timed : {n : Netlist} {d : List ℤ} → Joined n → WireOrder n (order n) → Bounded (2 ^ 29) d → Timed (circuit_of n) (at d) (at (arrivals n d)) (at (requireds n d))
unfolding arrivals requireds
timed {n} q o small = timed_by q o (omega (arith, length-order n, q.wired.few)) small

-- ---- as many as there are components

-- an arrival for each component
pub length-arrivals : (n : Netlist) (d : List ℤ) → length (arrivals n d) ≡ parts n
unfolding arrivals
length-arrivals n d = length-sweep (forward n.froms n.tos d) (order n) (tabulate (starts n) (parts n)) ∙ length-tabulate (starts n) (parts n)

-- a required time for each
pub length-requireds : (n : Netlist) (d : List ℤ) → length (requireds n d) ≡ parts n
unfolding requireds
length-requireds n d = length-sweep (backward n.froms n.tos d) (reverse (order n)) (tabulate (ends n) (parts n)) ∙ length-tabulate (ends n) (parts n)

-- and a slack for each
pub length-slacks : (n : Netlist) (d : List ℤ) → length (slacks n d) ≡ parts n
unfolding slacks
length-slacks n d = length-tabulate (slack_at (arrivals n d) (requireds n d)) (parts n)

-- the slack listed for a component is its required time less its arrival
pub slack_at_lem : (n : Netlist) (d : List ℤ) {x : ℕ} → x < parts n → at (slacks n d) x ≡ slack_at (arrivals n d) (requireds n d) x
unfolding slacks
slack_at_lem n d {x} h = get_or-tabulate (slack_at (arrivals n d) (requireds n d)) (parts n) x (pos 0) h
