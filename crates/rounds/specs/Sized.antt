-- How long the slices of a budget are.
use Rattle.std.specs.Prelude.{◌≡◌, List, ℕ, ◌+◌, ◌*◌, ℤ, length}

-- an arrival and a required time for each delay, and room for a segment of any of them, from both sides
pub record Sized (d a r : List ℤ) (s : List ℕ) : Type 0 where
  pub arrivals_all : length a ≡ length d
  pub required_all : length r ≡ length d
  pub room_all : length s ≡ 2 * length d + 1
