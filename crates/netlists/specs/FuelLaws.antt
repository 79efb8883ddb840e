-- The file's length is fuel enough: what is read is the records front to back, up to the first that stops or to the file's end.
use Rattle.std.specs.Prelude.{◌≡◌, refl, List, ℕ, zero, suc, ◌+◌, ◌≤◌, ◌<◌, length}
use Rattle.std.proofs.Common.{ap, arith}
use Rattle.netlists.specs.Judge.{Verdict, Board, empty, Turn, Go, Stop, finish, on_found, step_of, on_turn, read_from, records_of, board_of}
use Rattle.records.specs.RecordLaws.{none_left}
use Rattle.netlists.specs.BoardLaws.{Fine, fine_empty, Final, Next, stepped}

-- from the first board on, step by step, the verdict is reached at the last; no fuel
pub data Reads (s : List ℕ) : Board → Verdict → Board → Type 0 where
  stops : {b : Board} {v : Verdict} → step_of s b ≡ Stop v → Reads s b v b
  goes : {b c d : Board} {v : Verdict} → step_of s b ≡ Go c → Reads s c v d → Reads s b v d

-- past the end a step is the end
at_end_lem : (s : List ℕ) (b : Board) → length s ≤ b.at → step_of s b ≡ Stop (finish s b)
unfolding step_of
at_end_lem s b h = ap (on_found s b) (none_left s b.at h)

-- each step goes on by a record, so that fuel for the bytes that are left does not run out
enough : (k : ℕ) (s : List ℕ) (b : Board) → Fine b → length s ≤ b.at + k → Reads s b (read_from k s b).0 (read_from k s b).1
enough zero s b fine h = stops (at_end_lem s b (omega arith))
enough (suc k) s b fine h = by (step_of s b) refl (stepped s b fine) (λ c f l. enough k s c f (omega arith))
  where
    by : (t : Turn) → step_of s b ≡ t → Next b t → ((c : Board) → Fine c → b.at < c.at → Reads s c (read_from k s c).0 (read_from k s c).1)
        → Reads s b (on_turn (read_from k s) b t).0 (on_turn (read_from k s) b t).1
    by (Go c) e n f = goes e (f c n.0 n.1)
    by (Stop v) e n f = stops e

pub fuel_enough : (s : List ℕ) → Reads s empty (records_of s) (board_of s)
unfolding records_of board_of
fuel_enough s = enough (length s) s empty fine_empty (omega arith)

-- what the last board has, and what the verdict says of it
pub reads_fine : {s : List ℕ} {b c : Board} {v : Verdict} → Reads s b v c → Fine b → Fine c × Final c v
reads_fine {s} (stops {b} e) fine = (fine, rw e at (stepped s b fine))
reads_fine {s} (goes {b} e r) fine = let n = rw e at (stepped s b fine) in reads_fine r n.0

pub board_fine : (s : List ℕ) → Fine (board_of s) × Final (board_of s) (records_of s)
board_fine s = reads_fine (fuel_enough s) fine_empty
