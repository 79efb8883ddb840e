-- What stands at a place of a file of tagged records (document 01, "The netlist and result files").
use Rattle.std.specs.Prelude.{List, ℕ, ◌+◌, ◌-◌, length, get_or, take, drop, Option, Some, None, Result, Ok, Err}
use Rattle.whole.specs.Pick.{lt, le, if?}
use Rattle.whole.specs.Bytes.{number_at}
use Rattle.records.specs.declared.Record.{Record}
use Rattle.records.specs.declared.Broken.{Broken}

-- "Tagged records: one byte tag, two bytes length, then that many bytes." A record is broken where there are "fewer than 3 bytes left for a
-- record's head, or its length runs past the end" (01, BROKEN).
unfoldable pub record_at : List ℕ → ℕ → Result (Option Record) Broken
record_at s at =
    if? (le (length s) at) (Ok None)
    (if? (lt (length s - at) 3) (Err (record {}))
    (if? (lt (length s - at - 3) (number_at 2 s (at + 1))) (Err (record {}))
    (Ok (Some (record { tag = get_or s at 0; start = at + 3; len = number_at 2 s (at + 1); next = at + 3 + number_at 2 s (at + 1) })))))

-- the contents of a record: the part of the file of n bytes from a on
abbrev pub part_of : List ℕ → ℕ → ℕ → List ℕ
part_of s a n = take n (drop a s)
