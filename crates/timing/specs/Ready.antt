-- What the functions ask of the lists that they are lent. Nothing here says in which order connections stand: a sweep is worked out as it is
-- defined whatever the order is, and only laws about its meaning ask more.
use Rattle.std.specs.Prelude.{◌≡◌, List, ℕ, ◌-◌, ◌^◌, ◌<◌, ℤ, length}
use Rattle.whole.specs.Range.{Within, Bounded}
use Rattle.circuit.specs.Netlist.{Netlist, parts, Wired}
use Rattle.circuit.specs.Times.{slack_at}

-- the netlist n at the delays d: connections join components, each component has a time and a delay, and none is so far from 0, on either
-- side, that 4,096 of them could overflow
pub record Ready (n : Netlist) (d : List ℤ) : Type 0 where
  pub wired : Wired n.froms n.tos (parts n)
  pub times_all : length n.times ≡ parts n
  pub delays_all : length d ≡ parts n
  pub times_in : Bounded (2 ^ 27) n.times
  pub delays_in : Bounded (2 ^ 29) d

-- arrivals and required times from which slacks are taken: as many of the one as of the other, and no difference overflows
pub record Gauged (a r : List ℤ) : Type 0 where
  pub paired : length r ≡ length a
  pub arrivals_in : Bounded (2 ^ 61) a
  pub requireds_in : Bounded (2 ^ 61) r

-- every slack goes into 32 bits
pub record Narrow (a r : List ℤ) : Type 0 where
  pub at : (x : ℕ) → x < length a → Within (2 ^ 31 - 1) (slack_at a r x)
