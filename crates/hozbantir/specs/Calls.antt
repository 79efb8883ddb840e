-- The calls (document 01, "What we build"): what each leaves, for every netlist, result, mode and buffer. In a netlist n, b are the base delays.
use Rattle.std.specs.Prelude.{List, ℕ, ℤ, length, Ok, Err}
use Rattle.whole.specs.Pick.{is, if?}
use Rattle.circuit.specs.Netlist.{Netlist, parts, served_of}
use Rattle.circuit.specs.Times.{slacks}
use Rattle.circuit.specs.Budget.{known, Outcome, LateAt, Budgeted, budget_of}
use Rattle.netlists.specs.Judge.{net_on, board_of, judge_of}
use Rattle.results.specs.Result.{says, encode, needed, told_of, increments_of, bounds_read}
use Rattle.hozbantir.specs.declared.answers.Refusal.TheVariants as R
use Rattle.hozbantir.specs.Answers.{Answer, Left, refusal, in_room, unless, on_verdict, on_told, Leaves}

-- how the netlist s is judged: Ok, with how many components it has, where it is taken
unfoldable pub taken_of : List ℕ → Answer
taken_of s = on_verdict (judge_of s) (Ok (length (board_of s).kinds))

-- ---- analyse

-- "Analyse writes late-mode slacks": those at base delays. "Analyse needs one signed number for each component".
unfoldable pub analysis_on : Netlist → List ℤ → (room : ℕ) → Left ℤ
analysis_on n b room = in_room room (parts n) (slacks n b)

-- It "has no mode and gives 2 to 7 and 10, never 8".
unfoldable pub analysis_of : List ℕ → (room : ℕ) → Left ℤ
analysis_of s room = unless (taken_of s) (analysis_on (net_on (board_of s)) (board_of s).bases room)

-- the netlist s, and a buffer of numbers before and after
abbrev pub Analyses : List ℕ → List ℤ → Answer → List ℤ → Type 0
Analyses s before r after = Leaves (analysis_of s (length before)) before r after

-- ---- budget

-- "Budget writes a result with an increment for each net." It needs "10 + 13 × (non-inputs) bytes". LATE comes before ROOM.
abbrev pub on_outcome : (mode : ℕ) → Netlist → List ℤ → (room : ℕ) → Outcome → Left ℕ
on_outcome m n b room (LateAt x) = refusal (Err (R.Late x))
on_outcome m n b room (Budgeted t k l) = in_room room (needed (served_of n.kinds)) (encode (says m t k) (served_of n.kinds) b l)

unfoldable pub budget_on : (mode : ℕ) → Netlist → List ℤ → (room : ℕ) → Left ℕ
budget_on m n b room = on_outcome m n b room (budget_of m n b)

-- the order: MODE; the netlist's refusals; LATE; ROOM
unfoldable pub budget_for : (mode : ℕ) → List ℕ → (room : ℕ) → Left ℕ
budget_for m s room = if? (is (known m)) (unless (taken_of s) (budget_on m (net_on (board_of s)) (board_of s).bases room)) (refusal (Err R.Mode))

-- the mode m, the netlist s, and a result buffer before and after
abbrev pub Budgets : (mode : ℕ) → List ℕ → List ℕ → Answer → List ℕ → Type 0
Budgets m s before r after = Leaves (budget_for m s (length before)) before r after

-- ---- read back

-- how a result q is judged against components of the kinds ks: Ok, with how many there are, where it is taken
unfoldable pub result_on : (ks : List ℕ) → List ℤ → (result : List ℕ) → Answer
result_on ks b q = on_told (told_of q (served_of ks) b) (Ok (length ks))

-- how netlist and result are judged: "2 to 7 for the netlist, then 11"
unfoldable pub both_of : (netlist result : List ℕ) → Answer
both_of s q = on_verdict (judge_of s) (result_on (board_of s).kinds (board_of s).bases q)

-- the increments that a result says of the netlist s
abbrev pub said_of : (netlist result : List ℕ) → List ℕ
said_of s q = increments_of q (served_of (board_of s).kinds) (board_of s).bases

-- "Read back turns netlist and result into bounds", and needs "one number for each component"
unfoldable pub bounds_on : (netlist result : List ℕ) → (room : ℕ) → Left ℕ
bounds_on s q room = in_room room (length (board_of s).kinds) (bounds_read (served_of (board_of s).kinds) (board_of s).bases (said_of s q))

-- "Read back gives 2 to 7 for the netlist, then 11, then 10, and doesn't judge time."
unfoldable pub read_back_of : (netlist result : List ℕ) → (room : ℕ) → Left ℕ
read_back_of s q room = unless (both_of s q) (bounds_on s q room)

-- the netlist s, the result q, and a buffer of numbers before and after
abbrev pub ReadsBack : (netlist result : List ℕ) → List ℕ → Answer → List ℕ → Type 0
ReadsBack s q before r after = Leaves (read_back_of s q (length before)) before r after
