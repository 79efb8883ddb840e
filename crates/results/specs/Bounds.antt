-- The bounds that are read back, by component.
use Rattle.std.specs.Prelude.{◌≡◌, List, ℕ, ◌<◌, ℤ, length, get_or}
use Rattle.whole.specs.Whole.{up}
use Rattle.circuit.specs.Lists.{at}
use Rattle.circuit.proofs.ListLaws.{length-tabulate, get_or-tabulate}
use Rattle.results.specs.Result.{bound_on, bounds_read}

module _ (sv : List ℕ) (bases : List ℤ) (incs : List ℕ) where
  pub length-read : length (bounds_read sv bases incs) ≡ length sv
  unfolding bounds_read
  length-read = length-tabulate _ (length sv)

  -- 0 for an input, base plus increment for another
  pub read_at : (x : ℕ) → x < length sv → get_or (bounds_read sv bases incs) x 0 ≡ bound_on (get_or sv x 0) (up (at bases x)) (get_or incs x 0)
  unfolding bounds_read
  read_at x h = get_or-tabulate _ (length sv) x 0 h
