-- Laws of the numbers from s on, of tabulated lists, of the first that passes, of counts, and of fronts.
use Rattle.std.specs.Prelude.{◌≡◌, refl, ◌⊎◌, Bool, true, false, cond, ◌&&◌, [], ◌∷◌, ◌++◌, ℕ, zero, suc, ◌+◌, ◌<◌, ◌≤◌, length, get_or, take, replicate}
use Rattle.std.proofs.Common.{sym, ◌∙◌, inl, inr, ⊎_elim, arith, below_more, eq-or-lt_of_le, length-append, length-take-le}
use Rattle.std.proofs.Math.Decide.{ℕ_discrete}
use Rattle.std.proofs.lemmas.Bool.{true≢false, and_parts, cond_both, false_from_ne_true}
use Rattle.std.proofs.lemmas.List.{length-replicate, get_or_append_left, get_or_push}
use mathlib.Core.List.{Memᴰ}
use Rattle.circuit.specs.Lists.{up_from, tabulate, first_of, lowest, count}

-- ---- tests

-- std's laws, by the names that the files of other crates have for them
pub clash : true ≡ false → ⊥
clash = true≢false

pub both : (a b : Bool) → a && b ≡ true → (a ≡ true) × (b ≡ true)
both = and_parts

pub both_no : (a b : Bool) → a ≡ true → a && b ≡ false → b ≡ false
both_no true b h k = k
both_no false b h k = absurd (clash (sym h))

-- ---- the numbers from s on

pub length_from : (s n : ℕ) → length (up_from s n) ≡ n
unfolding up_from
length_from s zero = refl
length_from s (suc n) = rw (length_from (suc s) n)

pub from_at : (s n j : ℕ) → j < n → get_or (up_from s n) j 0 ≡ s + j
unfolding up_from
from_at s zero j h = absurd (omega arith)
from_at s (suc n) zero h = omega arith
from_at s (suc n) (suc j) h = from_at (suc s) n j (omega arith) ∙ omega arith

pub from_in : (s n x : ℕ) → s ≤ x → x < s + n → Memᴰ x (up_from s n)
unfolding up_from
from_in s zero x h g = absurd (omega arith)
from_in s (suc n) x h g = ⊎_elim (λ e. Memᴰ.head (sym e)) (λ l. Memᴰ.tail (from_in (suc s) n x l (omega arith))) (eq-or-lt_of_le h)

pub from_out : (s n : ℕ) {x : ℕ} → Memᴰ x (up_from s n) → (s ≤ x) × (x < s + n)
unfolding up_from
from_out s zero x3 = elim x3 [ ]
from_out s (suc n) (Memᴰ.head e) = omega arith
from_out s (suc n) (Memᴰ.tail m) = omega (arith, from_out (suc s) n m)

-- ---- tabulated

pub length-tabulate : {A : Type 0} (f : ℕ → A) (n : ℕ) → length (tabulate f n) ≡ n
unfolding tabulate
length-tabulate f zero = refl
length-tabulate f (suc n) = rw (length-append (tabulate f n) (f n ∷ []), length-tabulate f n) (omega arith)

pub get_or-tabulate : {A : Type 0} (f : ℕ → A) (n k : ℕ) (d : A) → k < n → get_or (tabulate f n) k d ≡ f k
unfolding tabulate
get_or-tabulate f zero k d h = absurd (omega arith)
get_or-tabulate f (suc n) k d h = below_more (λ j. get_or (tabulate f n ++ (f n ∷ [])) j d ≡ f j) n
    (λ j b. get_or_append_left (tabulate f n) (f n ∷ []) d j (rw (length-tabulate f n) b) ∙ get_or-tabulate f n j d b)
    (get_or_push (tabulate f n) (f n) d n (length-tabulate f n))
    k (omega arith)

-- ---- the first that passes

-- r is g of the first number from s up to t that passes f, or e where none does
pub data First (f : ℕ → Bool) (g : ℕ → ℕ) (s t e r : ℕ) : Type 0 where
  found : (j : ℕ) → s ≤ j → j < t → f j ≡ true → r ≡ g j → ((i : ℕ) → s ≤ i → i < j → f i ≡ false) → First f g s t e r
  missing : r ≡ e → ((i : ℕ) → s ≤ i → i < t → f i ≡ false) → First f g s t e r

at_or_after : (f : ℕ → Bool) {s i : ℕ} → f s ≡ false → s ≤ i → (suc s ≤ i → f i ≡ false) → f i ≡ false
at_or_after f h k l = ⊎_elim (λ e. rw e at h) l (eq-or-lt_of_le k)

pub first_of_lem : (f : ℕ → Bool) (g : ℕ → ℕ) (s n e : ℕ) → First f g s (s + n) e (first_of f g (up_from s n) e)
unfolding first_of up_from
first_of_lem f g s zero e = missing refl (λ i h k. absurd (omega arith))
first_of_lem f g s (suc n) e = cond_both (f s) (g s) (first_of f g (up_from (suc s) n) e) (First f g s (s + suc n) e)
    (λ h. found s (omega arith) (omega arith) h refl (λ i k l. absurd (omega arith)))
    (λ h. later h (first_of_lem f g (suc s) n e))
  where
    later : f s ≡ false → {r : ℕ} → First f g (suc s) (suc s + n) e r → First f g s (s + suc n) e r
    later h (found j p q t u v) = found j (omega arith) (omega arith) t u (λ i k l. at_or_after f h k (λ m. v i m l))
    later h (missing u v) = missing u (λ i k l. at_or_after f h k (λ m. v i m (omega arith)))

module _ (f : ℕ → Bool) (n : ℕ) where
  pub lowest_le : lowest f n ≤ n
  unfolding lowest
  lowest_le = by (first_of_lem f (λ x. x) 0 n n)
    where
      by : {r : ℕ} → First f (λ x. x) 0 (0 + n) n r → r ≤ n
      by (found j p q t u v) = omega arith
      by (missing u v) = omega arith

  pub lowest_is : lowest f n < n → f (lowest f n) ≡ true
  unfolding lowest
  lowest_is = by (first_of_lem f (λ x. x) 0 n n)
    where
      by : {r : ℕ} → First f (λ x. x) 0 (0 + n) n r → r < n → f r ≡ true
      by (found j p q t u v) h = rw u t
      by (missing u v) h = absurd (omega arith)

  pub lowest_first : (y : ℕ) → y < lowest f n → f y ≡ false
  unfolding lowest
  lowest_first y = by (first_of_lem f (λ x. x) 0 n n)
    where
      by : {r : ℕ} → First f (λ x. x) 0 (0 + n) n r → y < r → f y ≡ false
      by (found j p q t u v) h = v y (omega arith) (omega arith)
      by (missing u v) h = v y (omega arith) (omega arith)

-- some number below n passes, or none does
pub some_or_none : (f : ℕ → Bool) (n : ℕ) → ((x : ℕ) × (x < n) × (f x ≡ true)) ⊎ ((x : ℕ) → x < n → f x ≡ false)
some_or_none f n = by (first_of_lem f (λ x. x) 0 n n)
  where
    by : {r : ℕ} → First f (λ x. x) 0 (0 + n) n r → ((x : ℕ) × (x < n) × (f x ≡ true)) ⊎ ((x : ℕ) → x < n → f x ≡ false)
    by (found j p q t u v) = inl (j, omega arith, t)
    by (missing u v) = inr (λ x h. v x (omega arith) (omega arith))

-- ---- counts

one_mono : (a b : Bool) → (a ≡ true → b ≡ true) → cond a 1 0 ≤ cond b 1 0
one_mono a b h = cond_both a 1 0 (λ v. v ≤ cond b 1 0) (λ e. rw (h e) (omega arith)) (λ e. omega arith)

pub count_le : (f : ℕ → Bool) (n : ℕ) → count f n ≤ n
unfolding count
count_le f zero = omega arith
count_le f (suc n) = omega (arith, one_mono (f n) true (λ h. refl), count_le f n)

module _ (f g : ℕ → Bool) where
  pub count_mono : (n : ℕ) → ((x : ℕ) → x < n → f x ≡ true → g x ≡ true) → count f n ≤ count g n
  unfolding count
  count_mono zero h = omega arith
  count_mono (suc n) h = omega (arith, one_mono (f n) (g n) (h n (omega arith)), count_mono n (λ x k. h x (omega arith)))

  -- and fewer where one passes g only
  pub count_less : (n : ℕ) → ((x : ℕ) → x < n → f x ≡ true → g x ≡ true) → (y : ℕ) → y < n → f y ≡ false → g y ≡ true → count f n < count g n
  unfolding count
  count_less zero h y k p q = absurd (omega arith)
  count_less (suc n) h y k p q = by (ℕ_discrete y n) (count_mono n (λ x l. h x (omega arith))) (λ l. count_less n (λ x m. h x (omega arith)) y l p q)
    where
      by : Dec (y ≡ n) → count f n ≤ count g n → (y < n → count f n < count g n) → cond (f n) 1 0 + count f n < cond (g n) 1 0 + count g n
      by (yes e) i r =
          let p' = rw e at p in
          let q' = rw e at q in
          rw (p', q') (omega arith)
      by (no e) i r = omega (arith, one_mono (f n) (g n) (h n (omega arith)), r (omega arith))

pub count_none : (f : ℕ → Bool) (n : ℕ) → count f n ≤ 0 → (x : ℕ) → x < n → f x ≡ false
unfolding count
count_none f zero h x k = absurd (omega arith)
count_none f (suc n) h x k = below_more (λ y. f y ≡ false) n
    (count_none f n (omega arith))
    (false_from_ne_true (f n) (λ e. let g = rw e at h in omega arith))
    x (omega arith)

-- the front of a new array
pub length-first : {A : Type 0} (n m : ℕ) (x : A) → n ≤ m → length (take n (replicate m x)) ≡ n
length-first n m x h = length-take-le n (replicate m x) (omega (arith, length-replicate m x))
