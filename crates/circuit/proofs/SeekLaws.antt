-- What a loop keeps that looks for the lowest number that passes a test, and what it may answer where it stops.
use Rattle.std.specs.Prelude.{◌≡◌, refl, Bool, true, false, not, MatchBool, Option, Some, None, MatchOption, length, get_or, ℕ, ◌+◌, ◌<◌, ◌≤◌, eqb}
use Rattle.std.specs.List.{range_with_len, HoldsAt, AllWithin}
use Rattle.std.proofs.Common.{sym, ap, ◌∙◌, arith, eq-eqb}
use Rattle.std.proofs.lemmas.List.FromFn.{length-range_with_len, get_or-range_with_len}
use Rattle.std.proofs.lemmas.Bool.{lt-ltb, le-ltb, ne_eqb}
use Rattle.std.proofs.Math.Decide.{ℕ_discrete}
use Rattle.circuit.specs.Lists.{up_from, first_of, lowest, below}
use Rattle.circuit.proofs.ListLaws.{clash, First, found, missing, first_of_lem, lowest_first}

-- of the numbers below n, those below i were looked at, and none passes f
pub record Seeking (f : ℕ → Bool) (n i : ℕ) : Type 0 where
  pub within : i ≤ n
  pub none : (x : ℕ) → x < i → f x ≡ false

pub seeking_starts : {f : ℕ → Bool} {n : ℕ} → Seeking f n 0
seeking_starts = record { within = omega arith; none = λ x h. absurd (omega arith) }

pub seeking_next : {f : ℕ → Bool} {n i : ℕ} → Seeking f n i → i < n → f i ≡ false → Seeking f n (i + 1)
seeking_next {f} {n} {i} s h e = record { within = omega arith; none = λ x b. by x b (ℕ_discrete x i) }
  where
    by : (x : ℕ) → x < i + 1 → Dec (x ≡ i) → f x ≡ false
    by x b (yes q) = rw q e
    by x b (no q) = s.none x (omega arith)

-- ---- a search for g of the first that passes, else e

-- i passes: it is the first
pub seeking_first : {f : ℕ → Bool} {n i : ℕ} → Seeking f n i → i < n → f i ≡ true → (g : ℕ → ℕ) (e : ℕ) → g i ≡ first_of f g (up_from 0 n) e
seeking_first {f} {n} {i} s h t g e = by (first_of_lem f g 0 n e)
  where
    by : {r : ℕ} → First f g 0 (0 + n) e r → g i ≡ r
    by (missing u v) = absurd (clash (sym t ∙ v i (omega arith) (omega arith)))
    by (found j p q w u v) =
        let high : i < j → ⊥ = λ l. clash (sym t ∙ v i (omega arith) l) in
        let low : j < i → ⊥ = λ l. clash (sym w ∙ s.none j l) in
        let e : i ≡ j = omega arith in
        ap g e ∙ sym u

-- all were looked at: there is none
pub seeking_else : {f : ℕ → Bool} {n i : ℕ} → Seeking f n i → n ≤ i → (g : ℕ → ℕ) (e : ℕ) → e ≡ first_of f g (up_from 0 n) e
seeking_else {f} {n} {i} s h g e = by (first_of_lem f g 0 n e)
  where
    by : {r : ℕ} → First f g 0 (0 + n) e r → e ≡ r
    by (missing u v) = sym u
    by (found j p q w u v) = absurd (clash (sym w ∙ s.none j (omega arith)))

-- ---- a search for the lowest number that passes, else n

pub seeking_found : {f : ℕ → Bool} {n i : ℕ} → Seeking f n i → i < n → f i ≡ true → i ≡ lowest f n
unfolding lowest
seeking_found {n = n} s h t = seeking_first s h t (λ x. x) n

pub seeking_none : {f : ℕ → Bool} {n i : ℕ} → Seeking f n i → n ≤ i → n ≡ lowest f n
unfolding lowest
seeking_none {n = n} s h = seeking_else s h (λ x. x) n

-- ---- the same search as std's words tell it: the number that it found, or nothing

-- n itself stands for nothing
pub below_some : {n i x : ℕ} → i ≡ x → i < n → Some i ≡ below n x
below_some {n} {i} e h = rw (sym e, lt-ltb i n h) refl

pub below_none : {n x : ℕ} → n ≡ x → None ≡ below n x
below_none {n} e = rw (sym e, le-ltb n n (omega arith)) refl

-- so `find` over the numbers below n answers, by what std says of it (`first_from_Range`)
pub below_found : (f : ℕ → Bool) (n : ℕ) (r : Option ℕ) →
    MatchOption r ((k : ℕ) → 0 ≤ k → k < n → f k ≡ false) (λ i. (0 ≤ i) × (i < n) × (f i ≡ true) × ((k : ℕ) → 0 ≤ k → k < i → f k ≡ false)) → r ≡ below n (lowest f n)
below_found f n None h = below_none (seeking_none (record { within = omega arith; none = λ k l. h k (omega arith) l }) (omega arith))
below_found f n (Some i) h = below_some (seeking_found (record { within = omega arith; none = λ k l. h.3 k (omega arith) l }) h.1 h.2) h.1

-- number k of the numbers from 0 on is k
number_at : (n k : ℕ) → k < n → get_or (range_with_len 0 n) k 0 ≡ k
number_at n k l = get_or-range_with_len 0 n k 0 l ∙ omega arith

-- and `any` whether there is one (`cases_from_any`)
pub below_any : (f : ℕ → Bool) (n : ℕ) (r : Bool) →
    MatchBool r ((k : ℕ) × (k < length (range_with_len 0 n)) × HoldsAt (λ x. f x ≡ true) (range_with_len 0 n) k) (AllWithin (λ x. f x ≡ false) (range_with_len 0 n) 0 (length (range_with_len 0 n))) →
    not r ≡ eqb (lowest f n) n
below_any f n true (k, h, y) =
    let l : k < n = omega (arith, length-range_with_len 0 n) in
    let t : f k ≡ true = rw (number_at n k l) at (y 0) in
    sym (ne_eqb (lowest f n) n (λ e. clash (sym t ∙ lowest_first f n k (omega arith))))
below_any f n false h = sym (eq-eqb (lowest f n) n (sym (seeking_none (record { within = omega arith; none = none }) (omega arith))))
  where
    none : (k : ℕ) → k < n → f k ≡ false
    none k l = rw (number_at n k l) at (h k 0 (omega arith) (omega (arith, length-range_with_len 0 n)))
