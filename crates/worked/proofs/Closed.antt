-- What the walk asks of lists, by tests that compute where the lists are written out.
use Rattle.std.specs.Prelude.{◌≡◌, refl, Bool, true, false, cond, List, [], ◌∷◌, ℕ, zero, suc, ◌+◌, ◌<◌, ◌≤◌, ◌^◌, ltb, ℤ, pos, length, get_or}
use Rattle.std.proofs.Common.{sym, arith, ltb-true}
use Rattle.whole.specs.Whole.{up, down}
use Rattle.whole.specs.Range.{Within, Bounded}
use Rattle.circuit.proofs.ListLaws.{clash}
use Rattle.timing.specs.Ready.{Gauged}
use Rattle.segments.specs.Lent.{Laid}

-- every number is below k
unfoldable pub all_below : ℕ → List ℕ → Bool
all_below k [] = true
all_below k (x ∷ l) = cond (ltb x k) (all_below k l) false

-- every number is from 1 - k to k - 1
unfoldable pub all_near : ℕ → List ℤ → Bool
all_near k [] = true
all_near k (z ∷ l) = cond (ltb (up z + down z) k) (all_near k l) false

both : (b c : Bool) → cond b c false ≡ true → (b ≡ true) × (c ≡ true)
both true c e = (refl, e)
both false c e = absurd (clash (sym e))

below : {k : ℕ} (l : List ℕ) → 0 < k → all_below k l ≡ true → (j : ℕ) → get_or l j 0 < k
unfolding all_below
below [] h e j = h
below {k} (x ∷ l) h e zero = ltb-true x k (both (ltb x k) (all_below k l) e).0
below {k} (x ∷ l) h e (suc j) = below l h (both (ltb x k) (all_below k l) e).1 j

near : {k : ℕ} (l : List ℤ) → all_near k l ≡ true → (j : ℕ) → Within k (get_or l j (pos 0))
unfolding all_near
near [] e j = record { upper = omega arith; lower = omega arith }
near {k} (z ∷ l) e zero = let h = ltb-true (up z + down z) k (both (ltb (up z + down z) k) (all_near k l) e).0 in record { upper = omega arith; lower = omega arith }
near {k} (z ∷ l) e (suc j) = near l (both (ltb (up z + down z) k) (all_near k l) e).1 j

bounded : {k : ℕ} {l : List ℤ} → all_near k l ≡ true → Bounded k l
bounded {l = l} e = record { at = near l e }

-- connections, marks, delays and times of the same components, each as far as the walk allows
pub closed_loaded : (fs ts sv : List ℕ) (d a r : List ℤ) → 0 < length d → all_below (length d) fs ≡ true → all_below (length d) ts ≡ true → all_near (2 ^ 29) d ≡ true → all_near (2 ^ 61) a ≡ true → all_near (2 ^ 61) r ≡ true
    → length ts ≡ length fs → length fs ≤ 4096 → length r ≡ length a → length a ≡ length d → length sv ≡ length d → Laid fs ts d a × Gauged a r × (length sv ≡ length d)
closed_loaded fs ts sv d a r some source target delays arrivals requireds wires few times parts marks = (
  record {
    wires = record { source = below fs some source; target = below ts some target; paired = wires; few = few };
    times_all = parts;
    delays_in = bounded delays;
  },
  record { paired = times; arrivals_in = bounded arrivals; requireds_in = bounded requireds },
  marks,
)
