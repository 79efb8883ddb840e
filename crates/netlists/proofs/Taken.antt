-- What a write behind the first i of a list adds to them.
use Rattle.std.specs.Prelude.{◌≡◌, List, [], ◌∷◌, ◌++◌, ℕ, ◌+◌, ◌<◌, length, set, take}
use Rattle.std.proofs.Common.{add-one, take-suc-set}

pub taken : {A : Type 0} (l : List A) (i : ℕ) (v : A) → i < length l → take (i + 1) (set l i v) ≡ take i l ++ (v ∷ [])
taken l i v h = rw (add-one i) (take-suc-set l i v h)
