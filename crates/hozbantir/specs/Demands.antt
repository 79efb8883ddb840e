-- The demands of the bench, said of the calls: of the netlist file s, of the result file q, and of what the calls leave. They are proved in the
-- files named `..Laws`; the definitions that they speak of are those of the calls.
use Rattle.std.specs.Prelude.{◌≡◌, Bool, List, ℕ, ◌+◌, ◌/◌, ◌<◌, ◌≤◌, ℤ, length, get_or, Result, Ok, Err}
use Rattle.whole.specs.Whole.{up}
use Rattle.circuit.specs.Circuit.{Circuit, Path, Late, Share}
use Rattle.circuit.specs.Lists.{at}
use Rattle.circuit.specs.Netlist.{Netlist, parts, kind, circuit_of, served_of, serves}
use Rattle.circuit.specs.Budget.{to_serve, start_in, rounds_from, Budgeted, budget_of}
use Rattle.circuit.specs.RoundsEnd.{RoundsEnd}
use Rattle.circuit.specs.Demand.{Demand3}
use Rattle.netlists.specs.Judge.{net_on, board_of}
use Rattle.results.specs.declared.Summary.{Summary}
use Rattle.results.specs.declared.Misfit.{Misfit}
use Rattle.results.specs.Result.{says, told_of}
use Rattle.hozbantir.specs.declared.answers.Refusal.TheVariants as R
use Rattle.hozbantir.specs.Answers.{Answer, number_of}
use Rattle.hozbantir.specs.Calls.{said_of, ReadsBack}

-- ---- what the files say

-- the netlist, its circuit, its base delays, and who is served in it: the non-inputs
abbrev pub netlist_in : List ℕ → Netlist
netlist_in s = net_on (board_of s)

abbrev pub circuit_in : List ℕ → Circuit
circuit_in s = circuit_of (netlist_in s)

abbrev pub base_in : List ℕ → ℕ → ℤ
base_in s = at (board_of s).bases

abbrev pub served_in : List ℕ → ℕ → Bool
served_in s = serves (netlist_in s)

-- how the result q is judged against it, with what its summary says; and the increment that it says of component x
abbrev pub summary_in : (netlist result : List ℕ) → Result Summary Misfit
summary_in s q = told_of q (served_of (board_of s).kinds) (board_of s).bases

abbrev pub increment_in : (netlist result : List ℕ) → ℕ → ℕ
increment_in s q x = get_or (said_of s q) x 0

-- ---- demand 3

-- Of the bytes q that budget wrote in mode 1: their share and their increments meet demand 3, for the circuit of the netlist. (a) "every component
-- that isn't an input gets at least the equal share" is `at_least` of `Demand3`; (b) "the most whole picoseconds that all of them could take at
-- once with every path in time" is `the_most`; (c) "no in-time budget in whole picoseconds does better by its worst-served component" is
-- `none_better`; (d) "every path stays in time" and (e) "one picosecond more on any single one of these bounds makes some path late" are `full`.
pub record Even (s q : List ℕ) : Type 0 where
  pub share : ℕ
  pub rounds : ℕ
  pub summary : summary_in s q ≡ Ok (says 1 share rounds)
  pub meets : Demand3 (circuit_in s) (served_in s) (base_in s) share (increment_in s q)

-- ---- no run stalls

-- Of the netlist s in mode m, whichever that is (request 6 of document 02): after as many rounds as there are components to serve, no served component
-- has positive slack.
abbrev pub NeverStalls : (mode : ℕ) → List ℕ → Type 0
NeverStalls m s = RoundsEnd (netlist_in s) (start_in m (netlist_in s) (board_of s).bases)

-- ---- demand 2

-- Of the bytes q that budget wrote in mode m: they say share, rounds and increments of the definition. The rounds are those of a run that ended by itself,
-- and no more than the components to serve; the share is 0 in plain mode, and in even mode the most that every served component could take at once.
pub record ToldRight (m : ℕ) (s q : List ℕ) : Type 0 where
  pub share : ℕ
  pub rounds : ℕ
  pub increments : List ℕ
  pub budget : budget_of m (netlist_in s) (board_of s).bases ≡ Budgeted share rounds increments
  pub summary : summary_in s q ≡ Ok (says m share rounds)
  pub said : said_of s q ≡ increments
  pub rounds_are : rounds ≡ rounds_from (netlist_in s) (start_in m (netlist_in s) (board_of s).bases)
  pub rounds_few : rounds ≤ to_serve (netlist_in s)
  pub rounds_end : NeverStalls m s
  pub plain : m ≡ 0 → share ≡ 0
  pub even : m ≡ 1 → Share (circuit_in s) (served_in s) (base_in s) share

-- "Read back gives inputs 0 and the rest base plus increment." (01, "Refusal numbers"): what it gives for component x
pub record BoundOf (s q : List ℕ) (x bound : ℕ) : Type 0 where
  pub input : kind (netlist_in s) x ≡ 0 → bound ≡ 0
  pub other : (kind (netlist_in s) x ≡ 0 → ⊥) → bound ≡ up (base_in s x) + increment_in s q x

-- Demand 2: "A written result reads back to base plus increment however often it is read". Every read back of q, in a buffer with room for one number for
-- each component, succeeds and gives these, whatever the buffer held.
pub record Reads (s q : List ℕ) (r : Answer) (after : List ℕ) : Type 0 where
  pub accepted : r ≡ Ok (parts (netlist_in s))
  pub bounds : (x : ℕ) → x < parts (netlist_in s) → BoundOf s q x (get_or after x 0)

pub record ReadsAlways (s q : List ℕ) : Type 0 where
  pub reads : {before after : List ℕ} {r : Answer} → ReadsBack s q before r after → parts (netlist_in s) ≤ length before → Reads s q r after

-- ---- late

-- LATE: "an output has negative slack at base delays" (01, "Refusal numbers"). Said of paths: exactly if some path is late at base delays.
pub record LateExactly (s : List ℕ) (r : Answer) : Type 0 where
  pub only : {x : ℕ} → r ≡ Err (R.Late x) → (p : Path (circuit_in s).net) × Late (circuit_in s) (base_in s) p
  pub holds : (p : Path (circuit_in s).net) → Late (circuit_in s) (base_in s) p → (x : ℕ) × (r ≡ Err (R.Late x))

-- ---- number 9

-- As no run stalls, number 9, which was STALLED's, is never given: not in an answer, and not in the number that C gets, whose upper 32 bits it would be.
abbrev pub NotNine : Answer → Type 0
NotNine r = number_of r ≡ 9 → ⊥

abbrev pub SentNotNine : ℕ → Type 0
SentNotNine v = v / 4294967296 ≡ 9 → ⊥
