-- What the functions ask of the lists that they are lent. Bounds are the widest that the sums and differences allow: a time may still be one of
-- the marks of "no time yet", which lie at 2^60.
use Rattle.std.specs.Prelude.{◌≡◌, List, ℕ, ◌<◌, ◌^◌, ℤ, length, get_or}
use Rattle.whole.specs.Range.{Bounded}
use Rattle.circuit.specs.Netlist.{Wired}

-- connections, delays and times of the same components
pub record Laid (fs ts : List ℕ) (d a : List ℤ) : Type 0 where
  pub wires : Wired fs ts (length d)
  pub times_all : length a ≡ length d
  pub delays_in : Bounded (2 ^ 29) d

-- numbers of components only; past its end a list has 0, which is one
pub record Inside (l : List ℕ) (n : ℕ) : Type 0 where
  pub at : (k : ℕ) → get_or l k 0 < n
