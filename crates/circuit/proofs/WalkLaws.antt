-- The walks: the segment of x is what 01, "Share and rounds", says. As many steps each way as there are components suffice: along a walk the
-- rank rises, and no rank reaches the component count.
use Rattle.std.specs.Prelude.{◌≡◌, ℤ, length, refl, true, List, [], ◌∷◌, ℕ, zero, suc, ◌+◌, ◌<◌, ltb}
use Rattle.std.proofs.Common.{ap, arith, ltb-true, ltb-false}
use Rattle.std.proofs.Math.Logic.{∥∥₁_elim}
use Rattle.std.proofs.lemmas.Bool.{cond_both}
use mathlib.Core.HLevel.{⊥_prop}
use mathlib.Core.List.Pairwise
use mathlib.Core.List.{Memᴰ, Mem, Nodup}
use Rattle.circuit.specs.Circuit.{Ranked, Tight, Segment, alone, next, last_of}
use Rattle.circuit.specs.Lists.{at}
use Rattle.circuit.specs.Netlist.{Netlist, parts, wires, to, net_of, circuit_of, marked, Wired, Sorted}
use Rattle.circuit.specs.Rounds.{after, before, ahead, behind, segment_of}
use Rattle.circuit.proofs.StepLaws.{Lowest, after_is, after_none, before_is, before_none}

-- ---- what the walks are to give

-- "Walk forward: from the last component a, take the lowest-numbered fan-out b with" both equalities, as long as there is one: from x the
-- walk takes ys
pub data Forward (n : Netlist) (d a r : List ℤ) : ℕ → List ℕ → Type 0 where
  stops : {x : ℕ} → ((y : ℕ) → Tight (circuit_of n) (at d) (at a) (at r) x y → ⊥) → Forward n d a r x []
  takes : {x y : ℕ} {ys : List ℕ} → Lowest (Tight (circuit_of n) (at d) (at a) (at r) x) y → Forward n d a r y ys → Forward n d a r x (y ∷ ys)

-- "Walk backward: from the first component a, take the lowest-numbered non-input fan-in b with" both equalities, as long as there is one:
-- from x, after which stand ys, the walk ends with l
pub data Backward (n : Netlist) (sv : List ℕ) (d a r : List ℤ) (l : List ℕ) : ℕ → List ℕ → Type 0 where
  stops : {x : ℕ} {ys : List ℕ} → l ≡ x ∷ ys → ((y : ℕ) → Tight (circuit_of n) (at d) (at a) (at r) y x → marked sv y ≡ true → ⊥) → Backward n sv d a r l x ys
  takes : {x y : ℕ} {ys : List ℕ} → Lowest (λ z. Tight (circuit_of n) (at d) (at a) (at r) z x × (marked sv z ≡ true)) y → Backward n sv d a r l y (x ∷ ys) → Backward n sv d a r l x ys

-- the walk forward from x takes `onward`, and the walk backward then ends with l
pub record Walked (n : Netlist) (sv : List ℕ) (d a r : List ℤ) (x : ℕ) (l : List ℕ) : Type 0 where
  pub onward : List ℕ
  pub forward : Forward n d a r x onward
  pub backward : Backward n sv d a r l x onward

-- l is a segment: joined by wires with both equalities, with x in it, of components, none of them twice, and it goes on at neither end
pub record Found (n : Netlist) (sv : List ℕ) (d a r : List ℤ) (x : ℕ) (l : List ℕ) : Type 0 where
  pub first : ℕ
  pub rest : List ℕ
  pub is : l ≡ first ∷ rest
  pub segment : Segment (circuit_of n) (at d) (at a) (at r) first rest
  pub has : Memᴰ x (first ∷ rest)
  pub inside : (y : ℕ) → Memᴰ y (first ∷ rest) → y < parts n
  pub once : Nodup (first ∷ rest)
  pub no_further : (y : ℕ) → Tight (circuit_of n) (at d) (at a) (at r) (last_of first rest) y → ⊥
  pub no_earlier : (y : ℕ) → Tight (circuit_of n) (at d) (at a) (at r) y first → marked sv y ≡ true → ⊥

-- ---- what follows from that

module _ (n : Netlist) (d a r : List ℤ) where
  abbrev Seg : ℕ → List ℕ → Type 0
  Seg = Segment (circuit_of n) (at d) (at a) (at r)

  abbrev Ends : ℕ → Type 0
  Ends x = (y : ℕ) → Tight (circuit_of n) (at d) (at a) (at r) x y → ⊥

  -- the walk forward is a segment that ends where there is no step
  forward_segment : {x : ℕ} {ys : List ℕ} → Forward n d a r x ys → Seg x ys
  forward_segment (stops h) = alone
  forward_segment (takes t f) = next t.holds (forward_segment f)

  forward_ends : {x : ℕ} {ys : List ℕ} → Forward n d a r x ys → Ends (last_of x ys)
  forward_ends (stops h) = h
  forward_ends (takes t f) = forward_ends f

  module _ (k : Ranked (net_of n)) where
    -- a segment has components only
    segment_inside : (y : ℕ) {x : ℕ} {ys : List ℕ} → x < parts n → Seg x ys → Memᴰ y (x ∷ ys) → y < parts n
    segment_inside y h g (Memᴰ.head e) = rw e h
    segment_inside y h alone (Memᴰ.tail m) = elim m [ ]
    segment_inside y h (next t g) (Memᴰ.tail m) = segment_inside y (k.to_part t.wire) g m

    -- along it the rank rises, so that none comes twice
    segment_rises : {x y : ℕ} {ys : List ℕ} → Seg x ys → Memᴰ y ys → k.rank x < k.rank y
    segment_rises {y = y} alone x7 = elim x7 [ ]
    segment_rises (next t g) (Memᴰ.head e) = rw e (k.rises t.wire)
    segment_rises (next t g) (Memᴰ.tail m) = omega (arith, k.rises t.wire, segment_rises g m)

    segment_apart : {x : ℕ} {ys : List ℕ} → Seg x ys → (y : ℕ) → Mem y ys → x ≡ y → ⊥
    segment_apart g y m e = ∥∥₁_elim m ⊥_prop (λ u. omega (arith, segment_rises g u, ap k.rank e))

    segment_once : {x : ℕ} {ys : List ℕ} → Seg x ys → Nodup (x ∷ ys)
    segment_once alone = Pairwise.cons (segment_apart alone) Pairwise.nil
    segment_once (next t g) = Pairwise.cons (segment_apart (next t g)) (segment_once g)

    -- the walk backward keeps what it starts with, a segment that ends where there is no step
    backward_found : {sv l ys : List ℕ} {x z : ℕ} → Backward n sv d a r l x ys → x < parts n → Seg x ys → Ends (last_of x ys) → Memᴰ z (x ∷ ys) → Found n sv d a r z l
    backward_found (stops {x} {ys} e f) h g u m = record { first = x; rest = ys; is = e; segment = g; has = m; inside = λ y. segment_inside y h g; once = segment_once g; no_further = u; no_earlier = f }
    backward_found (takes t b) h g u m = backward_found b (k.from_part t.holds.0.wire) (next t.holds.0 g) u (Memᴰ.tail m)

  -- where all targets of connections are served, a segment is if its first is; and the walk backward takes only served ones
  module _ (sv : List ℕ) (targets : (j : ℕ) → j < wires n → marked sv (to n j) ≡ true) where
    forward_served : (y : ℕ) {x : ℕ} {ys : List ℕ} → marked sv x ≡ true → Seg x ys → Memᴰ y (x ∷ ys) → marked sv y ≡ true
    forward_served y h g (Memᴰ.head e) = rw e h
    forward_served y h alone (Memᴰ.tail m) = elim m [ ]
    forward_served y h (next t g) (Memᴰ.tail m) =
        let (j, l, p, q) = t.wire in
        forward_served y (rw q at (targets j l)) g m

    backward_served : {l ys : List ℕ} {x : ℕ} → Backward n sv d a r l x ys → marked sv x ≡ true → Seg x ys → (y : ℕ) → Memᴰ y l → marked sv y ≡ true
    backward_served (stops e f) h g y m = forward_served y h g (rw e at m)
    backward_served (takes t b) h g y m = backward_served b t.holds.1 (next t.holds.0 g) y m

-- ---- what the functions give

module _ (n : Netlist) (sv : List ℕ) (d a r : List ℤ) (all_delays : length d ≡ parts n) (w : Wired n.froms n.tos (parts n)) (s : Sorted n.froms n.tos) (k : Ranked (net_of n)) where
  abbrev go : ℕ → ℕ
  go = after n.froms n.tos d a r

  abbrev back : ℕ → ℕ
  back = before n.froms n.tos sv d a r

  -- forward, fuel that brings the rank of x above the top suffices
  ahead_is : (q x : ℕ) → x < parts n → k.top < q + k.rank x → Forward n d a r x (ahead go (parts n) q x)
  unfolding ahead
  ahead_is zero x h l = absurd (omega (arith, k.below h))
  ahead_is (suc q) x h l = cond_both (ltb (go x) (parts n)) (go x ∷ ahead go (parts n) q (go x)) [] (Forward n d a r x)
      (λ e. let c = ltb-true (go x) (parts n) e in let t = after_is n d a r all_delays w s x c in takes t (ahead_is q (go x) c (omega (arith, k.rises t.holds.wire))))
      (λ e. stops (after_none n d a r all_delays w s x (ltb-false (go x) (parts n) e)))

  -- backward, fuel above the rank of x does
  behind_is : (q x : ℕ) (ys : List ℕ) → k.rank x < q → Backward n sv d a r (behind back (parts n) q x (x ∷ ys)) x ys
  unfolding behind
  behind_is zero x ys l = absurd (omega arith)
  behind_is (suc q) x ys l = cond_both (ltb (back x) (parts n)) (behind back (parts n) q (back x) (back x ∷ x ∷ ys)) (x ∷ ys) (λ m. Backward n sv d a r m x ys)
      (λ e. let t = before_is n d a r all_delays w s sv x (ltb-true (back x) (parts n) e) in takes t (behind_is q (back x) (x ∷ ys) (omega (arith, k.rises t.holds.0.wire))))
      (λ e. stops refl (before_none n d a r all_delays w s sv x (ltb-false (back x) (parts n) e)))

  module _ (fuel : k.top < parts n) (x : ℕ) (h : x < parts n) where
    -- the segment of a component x is what the two walks of 01 leave
    pub segment_walked : Walked n sv d a r x (segment_of n.froms n.tos sv d a r x)
    unfolding segment_of
    segment_walked =
        rw all_delays (record {
          onward = ahead go (parts n) (parts n) x;
          forward = ahead_is (parts n) x h (omega arith);
          backward = behind_is (parts n) x (ahead go (parts n) (parts n) x) (omega (arith, k.below h));
        })

    -- so it is a segment with x in it, of components, none of them twice, that goes on at neither end
    pub segment_is : Found n sv d a r x (segment_of n.froms n.tos sv d a r x)
    segment_is = let f = segment_walked.forward in backward_found n d a r k segment_walked.backward h (forward_segment n d a r f) (forward_ends n d a r f) (Memᴰ.head refl)

    -- where x and all targets of connections are served, all of it are
    pub segment_served : marked sv x ≡ true → ((j : ℕ) → j < wires n → marked sv (to n j) ≡ true) → (y : ℕ) → Memᴰ y (segment_of n.froms n.tos sv d a r x) → marked sv y ≡ true
    segment_served m f = backward_served n d a r sv f segment_walked.backward m (forward_segment n d a r segment_walked.forward)
