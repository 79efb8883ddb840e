-- A netlist that the reader took, as the budget asks for it.
use Rattle.std.specs.Prelude.{◌≡◌, List, ◌≤◌, ℤ, length, take}
use Rattle.circuit.specs.Netlist.{Netlist, netlist, Based}
use Rattle.circuit.specs.Times.{Accepted}
use Rattle.netlists.specs.declared.Extent.{Extent}
use Rattle.netlists.specs.declared.Decoded.{Decoded}

-- an accepted netlist, and its base delays
pub record Taken (n : Netlist) (b : List ℤ) : Type 0 where
  pub accepted : Accepted n
  pub based : Based n b

-- the netlist in the first places of the reader's arrays
abbrev pub net_in : Extent → Decoded → Netlist
net_in e a = netlist (take e.components a.kinds) (take e.components a.times) (take e.connections a.from) (take e.connections a.to)

pub record Filled (e : Extent) (a : Decoded) : Type 0 where
  pub taken : Taken (net_in e a) (take e.components a.bases)
  pub few : e.components ≤ 1024
  pub fewer : e.connections ≤ 4096
  pub parts_are : length (take e.components a.kinds) ≡ e.components
  pub kinds_all : e.components ≤ length a.kinds
  pub bases_all : e.components ≤ length a.bases
  pub times_all : e.components ≤ length a.times
  pub froms_all : e.connections ≤ length a.from
  pub tos_all : e.connections ≤ length a.to
