-- What a call answers (document 01, "Refusal numbers"), and what it leaves in the buffer that was lent.
use Rattle.std.specs.Prelude.{◌≡◌, List, [], ◌++◌, ℕ, length, drop, Result, Ok, Err}
use Rattle.whole.specs.Pick.{lt, eq, if?}
use Rattle.netlists.specs.Judge.{Verdict, number_in, place_in}
use Rattle.results.specs.declared.Summary.{Summary}
use Rattle.results.specs.declared.Misfit.{Misfit}
use Rattle.hozbantir.specs.declared.answers.Refusal.{Refusal}
use Rattle.hozbantir.specs.declared.answers.Refusal.TheVariants as R

-- how many numbers or bytes were written, or why none
abbrev pub Answer : Type 0
Answer = Result ℕ Refusal

-- ---- numbers and places

-- "No. | Name"; 9 is not given
abbrev pub number_for : Refusal → ℕ
number_for R.Mode = 1
number_for (R.Netlist f) = number_in f
number_for (R.Late x) = 8
number_for (R.Room n) = 10
number_for (R.Result m) = 11

-- "Place"
abbrev pub place_for : Refusal → ℕ
place_for R.Mode = 0
place_for (R.Netlist f) = place_in f
place_for (R.Late x) = x
place_for (R.Room n) = n
place_for (R.Result a) = a

-- "Success returns 0 and, as place, how many numbers or bytes it wrote"
abbrev pub number_of : Answer → ℕ
number_of (Ok n) = 0
number_of (Err r) = number_for r

abbrev pub place_of : Answer → ℕ
place_of (Ok n) = n
place_of (Err r) = place_for r

-- ---- what a call leaves

-- number and place of its answer, and what it writes from the buffer's start
pub record Left (A : Type 0) : Type 0 where
  pub number : ℕ
  pub place : ℕ
  pub written : List A

abbrev pub left : {A : Type 0} → Answer → List A → Left A
left a w = record { number = number_of a; place = place_of a; written = w }

-- "A refusal returns number and place and changes no lent byte or number."
abbrev pub refusal : {A : Type 0} → Answer → Left A
refusal a = left a []

-- ROOM: "the buffer is shorter than needed", "needed length". "Success returns 0 and, as place, how many numbers or bytes it wrote".
abbrev pub in_room : {A : Type 0} → (room needed : ℕ) → List A → Left A
in_room room needed w = if? (lt room needed) (refusal (Err (R.Room needed))) (left (Ok needed) w)

-- "it changes only those, from the buffer's start": how a call whose buffer held `before` leaves it
pub record Leaves {A : Type 0} (l : Left A) (before : List A) (r : Answer) (after : List A) : Type 0 where
  pub number : number_of r ≡ l.number
  pub place : place_of r ≡ l.place
  pub writes : after ≡ l.written ++ drop (length l.written) before

-- ---- what was judged before

-- a refusal stands, and where there is none, l is left
abbrev pub unless : {A : Type 0} → Answer → Left A → Left A
unless a l = if? (eq (number_of a) 0) l (refusal a)

-- the netlist's refusals, 2 to 7, which every call gives; where it is taken, what comes next
abbrev pub on_verdict : Verdict → Answer → Answer
on_verdict (Ok e) a = a
on_verdict (Err f) a = Err (R.Netlist f)

-- RESULT: "the result breaks the rules below", "record's offset"; where the result is taken, what comes next
abbrev pub on_told : Result Summary Misfit → Answer → Answer
on_told (Ok t) a = a
on_told (Err m) a = Err (R.Result m.0)
