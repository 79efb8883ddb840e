-- A loop that fills a list with the values of f, from the front.
use Rattle.std.specs.Prelude.{◌≡◌, List, ℕ, ◌+◌, ◌<◌, ℤ, pos, length, set}
use Rattle.std.proofs.Common.{sym, ◌∙◌, arith}
use Rattle.whole.specs.Fill as W
use Rattle.circuit.specs.Lists.{tabulate}
use Rattle.circuit.proofs.ListLaws.{length-tabulate, get_or-tabulate}

abbrev pub Filling : (ℕ → ℤ) → List ℤ → List ℤ → ℕ → Type 0
Filling f out₀ = W.Filling (tabulate f (length out₀)) out₀

module _ (f : ℕ → ℤ) where
  pub filling_starts : {out : List ℤ} → Filling f out out 0
  filling_starts {out} = W.filling_starts (length-tabulate f (length out))

  pub filling_next : {out₀ out : List ℤ} {i : ℕ} {v : ℤ} → Filling f out₀ out i → i < length out₀ → v ≡ f i → Filling f out₀ (set out i v) (i + 1)
  filling_next {out₀} {i = i} l h q = W.filling_next (pos 0) l (rw length-tabulate h) (q ∙ sym (get_or-tabulate f (length out₀) i (pos 0) h))

  pub filling_ends : {out₀ out : List ℤ} {i : ℕ} → Filling f out₀ out i → i ≡ length out₀ → out ≡ tabulate f (length out₀)
  filling_ends l e = W.filling_ends l (rw length-tabulate (omega arith))
