-- Counting the marked by number: one number more at a time, and as the marks that say so.
use Rattle.std.proofs.Common.{add-one, ◌≡◌, refl, ◌∙◌, sym, Bool, true, false, cond, List, ℕ, zero, suc, ◌+◌, ◌≤◌, eqb, length, take, arith, take_all}
use Rattle.std.specs.List.{count_by}
use Rattle.std.proofs.lemmas.List.Sums.{count_by_more_yes, count_by_more_no}
use Rattle.circuit.specs.Lists.{count}
use Rattle.circuit.specs.Netlist.{marked}
use Rattle.circuit.proofs.ListLaws.{count_le}

count_front : (sv : List ℕ) (i : ℕ) → i ≤ length sv → count (marked sv) i ≡ count_by (λ x. eqb x 1) (take i sv)
unfolding count
count_front sv zero h = refl
count_front sv (suc i) h = by (marked sv i) refl (count_front sv i (omega arith))
  where
    by : (b : Bool) → marked sv i ≡ b → count (marked sv) i ≡ count_by (λ x. eqb x 1) (take i sv)
        → cond b 1 0 + count (marked sv) i ≡ count_by (λ x. eqb x 1) (take (suc i) sv)
    by true e r = rw r (omega (arith, rw add-one at (count_by_more_yes (λ x. eqb x 1) sv i 0 (omega arith) e)))
    by false e r = rw r (omega (arith, rw add-one at (count_by_more_no (λ x. eqb x 1) sv i 0 (omega arith) e)))

pub count_marked : (sv : List ℕ) → count_by (λ x. eqb x 1) sv ≡ count (marked sv) (length sv)
count_marked sv = sym (count_front sv (length sv) (omega arith) ∙ rw (take_all (length sv) sv (omega arith)))

-- ---- one number more at a time

pub count_starts : (f : ℕ → Bool) → 0 ≡ count f 0
unfolding count
count_starts f = refl

module _ (f : ℕ → Bool) (i : ℕ) {n k : ℕ} (e : n ≡ count f i) (q : k ≡ cond (f i) 1 0) where
  pub count_next : n + k ≡ count f (i + 1)
  unfolding count
  count_next = rw add-one (omega arith)

  -- no more than have been looked at
  pub count_fits : n + k ≤ i + 1
  count_fits = omega (arith, count_next, count_le f (i + 1))
