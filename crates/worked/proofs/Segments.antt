-- A segment has a first component.
use Rattle.std.specs.Prelude.{List, ℕ, zero, suc, ◌∷◌, ◌<◌, ◌≤◌, ℤ, length, ltb}
use Rattle.std.proofs.Common.{arith, le_refl}
use Rattle.std.proofs.lemmas.Bool.{cond_both}
use Rattle.circuit.specs.Rounds.{after, before, ahead, behind, segment_of}

-- the walk back only adds to what it begins with
behind_keeps : (go : ℕ → ℕ) (n k x : ℕ) (l : List ℕ) → length l ≤ length (behind go n k x l)
unfolding behind
behind_keeps go n zero x l = le_refl _
behind_keeps go n (suc k) x l = cond_both (ltb (go x) n) (behind go n k (go x) (go x ∷ l)) l (λ m. length l ≤ length m) (λ _. omega (arith, behind_keeps go n k (go x) (go x ∷ l))) (λ _. le_refl _)

pub segment_some : (fs ts sv : List ℕ) (d a r : List ℤ) (x : ℕ) → 0 < length (segment_of fs ts sv d a r x)
unfolding segment_of
segment_some fs ts sv d a r x = omega (arith, behind_keeps (before fs ts sv d a r) (length d) (length d) x (x ∷ ahead (after fs ts d a r) (length d) (length d) x))
