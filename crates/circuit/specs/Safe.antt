-- What the delays are from one round to the next.
use Rattle.std.specs.Prelude.{◌≡◌, List, ℕ, ℤ, pos, ◌≤ℤ◌, length}
use Rattle.circuit.specs.Circuit.{InTime}
use Rattle.circuit.specs.Lists.{at}
use Rattle.circuit.specs.Netlist.{Netlist, parts, kind, circuit_of}

-- delays as the rounds have them: none negative, none at an input, in time
pub record Safe (n : Netlist) (d : List ℤ) : Type 0 where
  pub all : length d ≡ parts n
  pub least : (x : ℕ) → pos 0 ≤ℤ at d x
  pub quiet : (x : ℕ) → kind n x ≡ 0 → at d x ≡ pos 0
  pub safe : InTime (circuit_of n) (at d)
