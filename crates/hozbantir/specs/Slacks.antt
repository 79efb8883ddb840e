-- How the code meets analyse: the times that it holds of a netlist that was judged, their slacks, and what it leaves.
use Rattle.std.specs.Prelude.{◌≡◌, List, ℕ, ◌≤◌, ℤ, length, take, Ok}
use Rattle.circuit.specs.Lists.{tabulate}
use Rattle.circuit.specs.Netlist.{Netlist}
use Rattle.circuit.specs.Times.{arrivals, requireds, slack_at}
use Rattle.timing.specs.Ready.{Gauged, Narrow}
use Rattle.netlists.specs.Judge.{net_on, board_of}
use Rattle.hozbantir.specs.Answers.{Answer}
use Rattle.hozbantir.specs.Calls.{taken_of}

-- the slacks of arrivals a and required times r
abbrev pub slacks_by : (a r : List ℤ) → List ℤ
slacks_by a r = tabulate (slack_at a r) (length a)

-- ---- the times of a netlist

-- arrivals and required times at base delays
pub record AtBase (n : Netlist) (b arr req : List ℤ) : Type 0 where
  pub arrived : arr ≡ arrivals n b
  pub due : req ≡ requireds n b

-- ---- the netlist file

-- how the netlist s was judged; where it was taken, the first places of the arrays hold its times
pub record Clocked (s : List ℕ) (r : Answer) (arr req : List ℤ) : Type 0 where
  pub answer : r ≡ taken_of s
  pub held : {n : ℕ} → r ≡ Ok n → AtBase (net_on (board_of s)) (board_of s).bases (take n arr) (take n req)

-- ---- the slacks

-- the first n places of arrivals and required times
pub record Paired (n : ℕ) (arr req : List ℤ) : Type 0 where
  pub gauged : Gauged (take n arr) (take n req)
  pub narrow : Narrow (take n arr) (take n req)
  pub arrs_all : n ≤ length arr
  pub reqs_all : n ≤ length req
