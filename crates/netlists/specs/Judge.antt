-- The judge of netlist files (document 01, "The netlist and result files" and "Refusal numbers" 2 to 7): one step for one record, front to
-- back, "the first faulty record deciding and 2 before 3, 4, 5, 6 within it; the empty netlist at the end; then 7". What the records say is
-- kept on the way.
use Rattle.std.specs.Prelude.{Bool, not, ◌&&◌, ◌||◌, List, [], ◌∷◌, ◌++◌, ℕ, zero, suc, ◌+◌, ◌*◌, eqb, ltb, leb, ℤ, pos, negsuc, length, get_or, Option, Some, None, Result, Ok, Err}
use Rattle.std.specs.Int.Signed.{lt_z}
use Rattle.whole.specs.Whole.{eq_z}
use Rattle.whole.specs.Pick.{lt, eq, is, if?}
use Rattle.whole.specs.Bytes.{number_at, signed_at}
use Rattle.circuit.specs.Lists.{tabulate, lowest, count}
use Rattle.circuit.specs.Netlist.{Netlist, netlist}
use Rattle.records.specs.declared.Record.{Record}
use Rattle.records.specs.declared.Broken as R
use Rattle.records.specs.Record.{record_at, part_of}
use Rattle.netlists.specs.declared.Extent.{Extent}
use Rattle.netlists.specs.declared.Fault.{Fault}
use Rattle.netlists.specs.declared.Fault.TheVariants.{Broken, Tag, Size, Field, Wiring, Ends}

-- ---- how a netlist is judged

-- taken, with the numbers of its components and connections, or refused, with the place
abbrev pub Verdict : Type 0
Verdict = Result Extent Fault

abbrev pub good : (components connections : ℕ) → Verdict
good n m = Ok (record { components = n; connections = m })

-- "No. | Name" of those that a netlist gives, and "Place": "offset; file length", of ENDS "lowest such component"
abbrev pub number_in : Fault → ℕ
number_in (Broken a) = 2
number_in (Tag a) = 3
number_in (Size a) = 4
number_in (Field a) = 5
number_in (Wiring a) = 6
number_in (Ends x) = 7

abbrev pub place_in : Fault → ℕ
place_in (Broken a) = a
place_in (Tag a) = a
place_in (Size a) = a
place_in (Field a) = a
place_in (Wiring a) = a
place_in (Ends x) = x

-- ---- what the records say

-- The offset of the next record; the kind, base delay and time of each component so far; where each connection so far comes from and goes to;
-- and the least (to, from) that the next connection may have, as one number.
pub record Board : Type 0 where
  pub at : ℕ
  pub kinds : List ℕ
  pub bases : List ℤ
  pub times : List ℤ
  pub froms : List ℕ
  pub tos : List ℕ
  pub least : ℕ

abbrev pub empty : Board
empty = record { at = 0; kinds = []; bases = []; times = []; froms = []; tos = []; least = 0 }

-- the netlist that a board holds
abbrev pub net_on : Board → Netlist
net_on b = netlist b.kinds b.times b.froms b.tos

-- after one more component, and after one more connection, with the next record at `next`
abbrev pub with_component : Board → ℕ → (kind base : ℕ) → ℤ → Board
with_component b next k d t = record { at = next; kinds = b.kinds ++ (k ∷ []); bases = b.bases ++ (pos d ∷ []); times = b.times ++ (t ∷ []); froms = b.froms; tos = b.tos; least = b.least }

-- (to, from) as one number: from is below 65,536
abbrev pub key : (from to : ℕ) → ℕ
key f t = t * 65536 + f

abbrev pub with_connection : Board → ℕ → (from to : ℕ) → Board
with_connection b next f t = record { at = next; kinds = b.kinds; bases = b.bases; times = b.times; froms = b.froms ++ (f ∷ []); tos = b.tos ++ (t ∷ []); least = key f t + 1 }

-- ---- the rules of one record

-- "Kinds: 0 input, whose time is its arrival; 1 inner, whose time is 0; 2 output", "Base delay 0 to 65,535 ps, and 0 for an input. Times
-- −100,000,000 to 100,000,000 ps.": a kind, a base delay and a time, or FIELD
unfoldable pub fields_ok : (kind base : ℕ) → ℤ → Bool
fields_ok k d t = leb k 2 && (leb d 65535 && ((not (eqb k 0) || eqb d 0) && ((not (eqb k 1) || eq_z t (pos 0)) && (not (lt_z t (negsuc 99999999)) && not (lt_z (pos 100000000) t)))))

-- "a number not below the component count, from not below to, or order not strictly rising" is WIRING
unfoldable pub wiring_ok : (from to count least : ℕ) → Bool
wiring_ok f t n least = ltb f n && (ltb t n && (ltb f t && leb least (key f t)))

-- ---- one step for one record

-- the records go on with a board, or a refusal, or the end, is reached
pub data Turn : Type 0 where
  Go : Board → Turn
  Stop : Verdict → Turn

-- A component, "1 component | 9 | kind (1 byte), base delay (4), time (4)", whose contents are p. In the order of the refusals' numbers:
-- "wrong length, or a component after a connection" (TAG), "the 1,025th component" (SIZE), "a component field outside the rules" (FIELD).
unfoldable pub on_component : List ℕ → Board → ℕ → Turn
on_component p b next =
    if? (eq (length p) 9)
    (if? (eq (length b.froms) 0)
    (if? (lt (length b.kinds) 1024)
    (if? (is (fields_ok (get_or p 0 0) (number_at 4 p 1) (signed_at p 5)))
    (Go (with_component b next (get_or p 0 0) (number_at 4 p 1) (signed_at p 5)))
    (Stop (Err (Field b.at)))) (Stop (Err (Size b.at)))) (Stop (Err (Tag b.at)))) (Stop (Err (Tag b.at)))

-- A connection, "2 connection | 4 | from (2), to (2)": "wrong length" (TAG), "the 4,097th connection" (SIZE), WIRING.
unfoldable pub on_connection : List ℕ → Board → ℕ → Turn
on_connection p b next =
    if? (eq (length p) 4)
    (if? (lt (length b.froms) 4096)
    (if? (is (wiring_ok (number_at 2 p 0) (number_at 2 p 2) (length b.kinds) b.least))
    (Go (with_connection b next (number_at 2 p 0) (number_at 2 p 2)))
    (Stop (Err (Wiring b.at)))) (Stop (Err (Size b.at)))) (Stop (Err (Tag b.at)))

-- "unknown tag" is TAG, and "16 and 17 are unknown in a netlist"
unfoldable pub on_record : ℕ → List ℕ → Board → ℕ → Turn
on_record tag p b next =
    if? (eq tag 1) (on_component p b next)
    (if? (eq tag 2) (on_connection p b next)
    (Stop (Err (Tag b.at))))

-- "no component at the file's end" is SIZE, placed at the "file length"
unfoldable pub finish : List ℕ → Board → Verdict
finish s b = if? (eq (length b.kinds) 0) (Err (Size (length s))) (good (length b.kinds) (length b.froms))

abbrev pub on_found : List ℕ → Board → Result (Option Record) R.Broken → Turn
on_found s b (Ok None) = Stop (finish s b)
on_found s b (Err e) = Stop (Err (Broken b.at))
on_found s b (Ok (Some r)) = on_record r.tag (part_of s r.start r.len) b r.next

unfoldable pub step_of : List ℕ → Board → Turn
step_of s b = on_found s b (record_at s b.at)

-- ---- all records

-- from a board on: how they are judged, and the board that was reached. A record takes three bytes or more, so that the file's length is
-- fuel enough.
abbrev pub on_turn : (Board → Verdict × Board) → Board → Turn → Verdict × Board
on_turn f b (Go c) = f c
on_turn f b (Stop v) = (v, b)

abbrev pub read_from : ℕ → List ℕ → Board → Verdict × Board
read_from zero s b = (finish s b, b)
read_from (suc k) s b = on_turn (read_from k s) b (step_of s b)

unfoldable pub records_of : List ℕ → Verdict
records_of s = (read_from (length s) s empty).0

-- the decoded components and connections
unfoldable pub board_of : List ℕ → Board
board_of s = (read_from (length s) s empty).1

-- ---- ENDS

-- how many connections come into x, and how many leave it
unfoldable pub ends : List ℕ → ℕ → ℕ
ends l x = count (λ j. eqb (get_or l j 0) x) (length l)

-- "input with fan-in, output with fan-out, non-input without fan-in, non-output without fan-out"
unfoldable pub faulty : (ks ins outs : List ℕ) → ℕ → Bool
faulty ks ins outs x =
    (eqb (get_or ks x 0) 0 && not (eqb (get_or ins x 0) 0)) || ((eqb (get_or ks x 0) 2 && not (eqb (get_or outs x 0) 0)) ||
    ((not (eqb (get_or ks x 0) 0) && eqb (get_or ins x 0) 0) || (not (eqb (get_or ks x 0) 2) && eqb (get_or outs x 0) 0)))

-- the lowest component that is, or the component count
unfoldable pub lowest_fault : Board → ℕ
lowest_fault b = lowest (faulty b.kinds (tabulate (ends b.tos) (length b.kinds)) (tabulate (ends b.froms) (length b.kinds))) (length b.kinds)

abbrev pub with_ends : Board → Verdict → Verdict
with_ends b (Ok e) = if? (lt (lowest_fault b) (length b.kinds)) (Err (Ends (lowest_fault b))) (Ok e)
with_ends b (Err f) = Err f

-- ---- the netlist

unfoldable pub judge_of : List ℕ → Verdict
judge_of s = with_ends (board_of s) (records_of s)

-- "Place": of a netlist that is taken, none
abbrev pub place_of : Verdict → ℕ
place_of (Ok e) = 0
place_of (Err f) = place_in f
