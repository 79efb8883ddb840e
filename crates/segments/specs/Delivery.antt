-- What the loop of a delivery keeps, and that a segment has numbers of components only.
use Rattle.std.specs.Prelude.{◌≡◌, refl, Bool, true, false, cond, List, [], ◌∷◌, ℕ, zero, suc, ◌+◌, ◌-◌, ◌/◌, ◌^◌, ◌<◌, ◌≤◌, ltb, ℤ, pos, ◌+ℤ◌, length, get_or, set, drop}
use Rattle.std.proofs.Common.{add-one, arith, div-le_self, ltb-true, length-set, length-drop, drop_of_length-le, drop-cons}
use Rattle.whole.specs.Whole.{sum}
use Rattle.whole.specs.Range.{Within, Bounded, bounded_set, bounded_more}
use Rattle.circuit.specs.Lists.{at}
use Rattle.circuit.specs.Rounds.{ahead, behind, segment_of, deliver}
use Rattle.segments.specs.Lent.{Inside}

-- ---- s is still to be given, to those of xs from i on

pub record Giving (xs : List ℕ) (s₀ : ℕ) (d₀ d : List ℤ) (i s : ℕ) : Type 0 where
  pub same : length d ≡ length d₀
  pub less : s ≤ s₀
  pub small : Bounded (2 ^ 29 + (s₀ - s)) d
  pub rest : deliver s (drop i xs) d ≡ deliver s₀ xs d₀

pub giving_starts : {xs : List ℕ} {s : ℕ} {d : List ℤ} → Bounded (2 ^ 29) d → Giving xs s d d 0 s
giving_starts b = record { same = refl; less = omega arith; small = bounded_more (omega arith) b; rest = refl }

one : (x : ℕ) (xs : List ℕ) (s k : ℕ) (d : List ℤ) → suc (length xs) ≡ k → deliver (s - s / k) xs (set d x (at d x +ℤ pos (s / k))) ≡ deliver s (x ∷ xs) d
unfolding deliver
one x xs s k d e = rw (← e)

pub giving_next : {xs : List ℕ} {s₀ : ℕ} {d₀ d d' : List ℤ} {i s s' : ℕ} → Giving xs s₀ d₀ d i s → i < length xs
    → s' ≡ s - s / (length xs - i) → d' ≡ set d (get_or xs i 0) (at d (get_or xs i 0) +ℤ pos (s / (length xs - i))) → Giving xs s₀ d₀ d' (i + 1) s'
giving_next {xs} {s₀} {d₀} {d} {i = i} {s = s} o h q e =
    let x = get_or xs i 0 in
    let k = length xs - i in
    let l = div-le_self s k in
    let f = o.less in
    let m = o.same in
    let b = o.small.at x in
    rw (q, e) (record {
      same = simp length-set m;
      less = omega arith;
      small = bounded_set x (bounded_more (omega arith) o.small) (omega (arith, sum (at d x) (pos (s / k))));
      rest = rw (drop-cons xs i 0 h, ← one x (drop (suc i) xs) s k d (omega (arith, length-drop (suc i) xs)), ← add-one i) at o.rest;
    })

-- what one gets, on what it has, goes into four bytes
pub giving_fits : {xs : List ℕ} {s₀ : ℕ} {d₀ d : List ℤ} {i s : ℕ} → Giving xs s₀ d₀ d i s → s₀ ≤ 2 ^ 30 → (x k : ℕ) → Within (2 ^ 31 - 1) (at d x +ℤ pos (s / k))
giving_fits {d = d} {s = s} o h x k =
    let l = div-le_self s k in
    let f = o.less in
    let b = o.small.at x in
    omega (arith, sum (at d x) (pos (s / k)))

pub giving_ends : {xs : List ℕ} {s₀ : ℕ} {d₀ d : List ℤ} {i s : ℕ} → Giving xs s₀ d₀ d i s → length xs ≤ i → d ≡ deliver s₀ xs d₀
unfolding deliver
giving_ends {xs} {i = i} o h = rw (drop_of_length-le xs {i = i} h) at o.rest

-- ---- every number of a walk is a component's

cons_at : (x : ℕ) (l : List ℕ) (n : ℕ) → x < n → Inside l n → (k : ℕ) → get_or (x ∷ l) k 0 < n
cons_at x l n h f zero = h
cons_at x l n h f (suc k) = f.at k

cons_inside : {x : ℕ} {l : List ℕ} {n : ℕ} → x < n → Inside l n → Inside (x ∷ l) n
cons_inside {x} {l} {n} h f = record { at = cons_at x l n h f }

ahead_inside : (go : ℕ → ℕ) (n k x : ℕ) → 0 < n → Inside (ahead go n k x) n
unfolding ahead
ahead_inside go n zero x h = record { at = λ k. h }
ahead_inside go n (suc k) x h = by (ltb (go x) n) refl (ahead_inside go n k (go x) h)
  where
    by : (t : Bool) → ltb (go x) n ≡ t → Inside (ahead go n k (go x)) n → Inside (cond t (go x ∷ ahead go n k (go x)) []) n
    by true e i = cons_inside (ltb-true (go x) n e) i
    by false e i = record { at = λ j. h }

behind_inside : (go : ℕ → ℕ) (n k x : ℕ) (l : List ℕ) → Inside l n → Inside (behind go n k x l) n
unfolding behind
behind_inside go n zero x l i = i
behind_inside go n (suc k) x l i = by (ltb (go x) n) refl (λ j. behind_inside go n k (go x) (go x ∷ l) j)
  where
    by : (t : Bool) → ltb (go x) n ≡ t → (Inside (go x ∷ l) n → Inside (behind go n k (go x) (go x ∷ l)) n) → Inside (cond t (behind go n k (go x) (go x ∷ l)) l) n
    by true e f = f (cons_inside (ltb-true (go x) n e) i)
    by false e f = i

pub segment_inside : (fs ts sv : List ℕ) (d a r : List ℤ) (x : ℕ) → x < length d → Inside (segment_of fs ts sv d a r x) (length d)
unfolding segment_of
segment_inside fs ts sv d a r x h = behind_inside _ (length d) (length d) x _ (cons_inside h (ahead_inside _ (length d) (length d) x (omega arith)))
