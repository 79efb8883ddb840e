-- What follows from an answer that stands below n: its number, or that n was reached.
use Rattle.std.specs.Prelude.{◌≡◌, refl, Bool, true, false, cond, Some, None, ℕ, ◌<◌, ◌≤◌, ltb}
use Rattle.std.proofs.Common.{arith, ltb-true, ltb-false}
use Rattle.circuit.specs.Lists.{below}

pub below_is : (n x : ℕ) {y : ℕ} → Some y ≡ below n x → (y ≡ x) × (y < n)
below_is n x {y} h = by (ltb x n) refl h
  where
    by : (t : Bool) → ltb x n ≡ t → Some y ≡ cond t (Some x) None → (y ≡ x) × (y < n)
    by true e q = let same : y ≡ x = cc in (same, omega (arith, ltb-true x n e))
    by false e q = absurd (let z : ◌≡◌ {A = ℕ} 0 1 = cc in omega arith)

pub below_not : (n x : ℕ) → None ≡ below n x → n ≤ x
below_not n x h = by (ltb x n) refl h
  where
    by : (t : Bool) → ltb x n ≡ t → None ≡ cond t (Some x) None → n ≤ x
    by true e q = absurd (let z : ◌≡◌ {A = ℕ} 0 1 = cc in omega arith)
    by false e q = ltb-false x n e
