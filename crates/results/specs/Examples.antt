-- Results for circuit A (document 01, "Circuits worked by hand"), judged by computation: plain mode's own, and some that are wrong.
use Rattle.std.specs.Prelude.{◌≡◌, refl, List, [], ◌∷◌, ◌++◌, ℕ, ℤ, pos, length, take, Ok}
use Rattle.whole.specs.Pick.{if?}
use Rattle.whole.specs.Bytes.{number_at, bytes_of}
use Rattle.circuit.specs.Lists.{count}
use Rattle.records.specs.Record.{record_at}
use Rattle.results.specs.Result.{says, summary_of, bound_of, bounds_of, encode, summary_ok, bound_ok, misfit, summary_at, bound_due, step_of, told_of, increments_of}

marks : List ℕ
marks = 0 ∷ 0 ∷ 1 ∷ 1 ∷ []

delays : List ℤ
delays = pos 0 ∷ pos 0 ∷ pos 3 ∷ pos 2 ∷ []

-- "A plain | increments 2, 13; 2 rounds"
plain : List ℕ
unfolding marks delays
plain = encode (says 0 0 2) marks delays (0 ∷ 0 ∷ 2 ∷ 13 ∷ [])

record Table : Type 0 where
  size : length plain ≡ 36
  right : told_of plain marks delays ≡ Ok (says 0 0 2)
  read : increments_of plain marks delays ≡ 0 ∷ 0 ∷ 2 ∷ 13 ∷ []
  empty : told_of [] marks delays ≡ misfit 0
  broken : told_of (take 35 plain) marks delays ≡ misfit 23
  missing : told_of (take 23 plain) marks delays ≡ misfit 23
  over : told_of (plain ++ (0 ∷ [])) marks delays ≡ misfit 36
  order : told_of (summary_of (says 0 0 2) ++ (bound_of 17 3 2 13 ++ bound_of 17 2 3 2)) marks delays ≡ misfit 10
  base : told_of (encode (says 0 0 2) marks (pos 0 ∷ pos 0 ∷ pos 3 ∷ pos 1 ∷ []) (0 ∷ 0 ∷ 2 ∷ 13 ∷ [])) marks delays ≡ misfit 23
  share : told_of (encode (says 0 7 2) marks delays (0 ∷ 0 ∷ 2 ∷ 13 ∷ [])) marks delays ≡ misfit 0
  rounds : told_of (encode (says 0 0 3) marks delays (0 ∷ 0 ∷ 2 ∷ 13 ∷ [])) marks delays ≡ misfit 0
  largest : told_of (encode (says 1 200000000 0) marks delays (0 ∷ 0 ∷ 200000000 ∷ 0 ∷ [])) marks delays ≡ Ok (says 1 200000000 0)
  larger : told_of (encode (says 1 200000000 0) marks delays (0 ∷ 0 ∷ 200000001 ∷ 0 ∷ [])) marks delays ≡ misfit 10

table : Table
unfolding marks delays plain if? number_at bytes_of count record_at summary_of bound_of bounds_of encode summary_ok bound_ok summary_at bound_due step_of told_of increments_of
table = record {
  size = refl;
  right = refl;
  read = refl;
  empty = refl;
  broken = refl;
  missing = refl;
  over = refl;
  order = refl;
  base = refl;
  share = refl;
  rounds = refl;
  largest = refl;
  larger = refl;
}
