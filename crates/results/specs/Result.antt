-- Result files (document 01, "The netlist and result files" and "Read back's RESULT"): how one is written, how one is judged against a
-- netlist, and what an accepted one says. sv marks the served components, bases are the netlist's base delays, incs the increments, each by
-- component number; the number of components is the length of sv.
use Rattle.std.specs.Prelude.{Bool, not, cond, ◌&&◌, ◌||◌, List, [], ◌∷◌, ◌++◌, ℕ, zero, suc, ◌+◌, ◌*◌, eqb, leb, ℤ, length, get_or, Option, Some, None, Result, Ok, Err}
use Rattle.whole.specs.Whole.{up}
use Rattle.whole.specs.Pick.{lt, eq, is, if?}
use Rattle.whole.specs.Bytes.{number_at, bytes_of}
use Rattle.circuit.specs.Lists.{at, tabulate, count}
use Rattle.circuit.specs.Netlist.{marked}
use Rattle.circuit.specs.Budget.{known}
use Rattle.records.specs.declared.Record.{Record}
use Rattle.records.specs.declared.Broken.{Broken}
use Rattle.records.specs.Record.{record_at, part_of}
use Rattle.results.specs.declared.Summary.{Summary}
use Rattle.results.specs.declared.Misfit.{Misfit}
use Rattle.results.specs.declared.Bound.{Bound}

-- a summary with this mode, share and rounds
abbrev pub says : (mode share rounds : ℕ) → Summary
says m t k = record { mode = m; share = t; rounds = k }

-- ---- how a result is written

-- "16 summary | 7 | mode (1), share (4), rounds (2)"
unfoldable pub summary_of : Summary → List ℕ
summary_of y = 16 ∷ bytes_of 2 7 ++ (bytes_of 1 y.mode ++ (bytes_of 4 y.share ++ bytes_of 2 y.rounds))

-- "17 bound | 10 | component (2), base delay (4), increment (4)"
abbrev pub bound_tag : ℕ
bound_tag = 17

unfoldable pub bound_of : (tag component base increment : ℕ) → List ℕ
bound_of tag x b i = tag ∷ bytes_of 2 10 ++ (bytes_of 2 x ++ (bytes_of 4 b ++ bytes_of 4 i))

-- "one bound record for each component that isn't an input, in rising number": those below k
unfoldable pub bounds_of : ℕ → List ℕ → List ℤ → List ℕ → ℕ → List ℕ
bounds_of tag sv bases incs zero = []
bounds_of tag sv bases incs (suc k) = bounds_of tag sv bases incs k ++ cond (marked sv k) (bound_of tag k (up (at bases k)) (get_or incs k 0)) []

-- "A result is one summary, then" the bounds
unfoldable pub encode : Summary → List ℕ → List ℤ → List ℕ → List ℕ
encode y sv bases incs = summary_of y ++ bounds_of bound_tag sv bases incs (length sv)

-- "budget 10 + 13 × (non-inputs) bytes"
abbrev pub needed : List ℕ → ℕ
needed sv = 10 + 13 * count (marked sv) (length sv)

-- ---- the rules of one record

-- "mode above 1; share above 200,000,000, or not 0 in mode 0; rounds above the number of non-inputs": of none of these is the summary guilty
unfoldable pub summary_ok : Summary → (limit : ℕ) → Bool
summary_ok y limit = known y.mode && (leb y.share 200000000 && ((not (eqb y.mode 0) || eqb y.share 0) && leb y.rounds limit))

-- "out of order", "a base delay unlike the netlist's; an increment above 200,000,000": the contents p are component x's, with base delay b
unfoldable pub bound_ok : List ℕ → (component base : ℕ) → Bool
bound_ok p x b = eqb (number_at 2 p 0) x && (eqb (number_at 4 p 2) b && leb (number_at 4 p 6) 200000000)

-- ---- the records, one after the other

-- the result is refused by this offset
abbrev pub misfit : {A : Type 0} → (place : ℕ) → Result A Misfit
misfit a = Err (record { 0 = a })

-- what follows where nothing was refused
abbrev pub and_then : {A B E : Type 0} → Result A E → (A → Result B E) → Result B E
and_then (Ok v) f = f v
and_then (Err e) f = Err e

-- A record with this tag and so many bytes of contents is due at a place: "The first record unlike the one due there decides", by its offset; "the
-- offset of a missing record is the result's length", which is where the one before it ended.
abbrev pub due : (tag len place : ℕ) → Result (Option Record) Broken → Result Record Misfit
due tag len a (Ok (Some r)) = if? (eq r.tag tag) (if? (eq r.len len) (Ok r) (misfit a)) (misfit a)
due tag len a (Ok None) = misfit a
due tag len a (Err e) = misfit a

-- the summary is due at the front: what its contents say, if it is right
abbrev pub summary_in : List ℕ → Summary
summary_in p = says (get_or p 0 0) (number_at 4 p 1) (number_at 2 p 5)

abbrev pub right_summary : List ℕ → (limit : ℕ) → Result Summary Misfit
right_summary p limit = if? (is (summary_ok (summary_in p) limit)) (Ok (summary_in p)) (misfit 0)

unfoldable pub summary_at : List ℕ → (limit : ℕ) → Result Summary Misfit
summary_at s limit = and_then (due 16 7 0 (record_at s 0)) (λ r. right_summary (part_of s r.start r.len) limit)

-- the record of component x is due at place a, with base delay b: where the next begins, and the increment that it says, if it is right
abbrev pub right_bound : List ℕ → (component base place next : ℕ) → Result Bound Misfit
right_bound p x b a next = if? (is (bound_ok p x b)) (Ok (record { next = next; increment = number_at 4 p 6 })) (misfit a)

unfoldable pub bound_due : List ℕ → (component base place : ℕ) → Result Bound Misfit
bound_due s x b a = and_then (due bound_tag 10 a (record_at s a)) (λ r. right_bound (part_of s r.start r.len) x b a r.next)

-- an input has no record, and no increment
unfoldable pub step_of : List ℕ → List ℕ → List ℤ → (component place : ℕ) → Result Bound Misfit
step_of s sv bases x a = if? (is (marked sv x)) (bound_due s x (up (at bases x)) a) (Ok (record { next = a; increment = 0 }))

-- where the next record begins, and the increments read so far
pub record Ledger : Type 0 where
  pub at : ℕ
  pub incs : List ℕ

abbrev pub with_bound : Ledger → Bound → Ledger
with_bound l b = record { at = b.next; incs = l.incs ++ (b.increment ∷ []) }

-- the k components from x on
abbrev pub read_from : List ℕ → List ℕ → List ℤ → ℕ → ℕ → Ledger → Result Ledger Misfit
read_from s sv bases zero x l = Ok l
read_from s sv bases (suc k) x l = and_then (step_of s sv bases x l.at) (λ b. read_from s sv bases k (suc x) (with_bound l b))

-- all, after the ten bytes of the summary
abbrev pub bounds_at : List ℕ → List ℕ → List ℤ → Result Ledger Misfit
bounds_at s sv bases = read_from s sv bases (length sv) 0 (record { at = 10; incs = [] })

-- ---- the result

-- after the last record due nothing may be left over
abbrev pub at_end : List ℕ → Summary → Ledger → Result Summary Misfit
at_end s y l = if? (lt l.at (length s)) (misfit l.at) (Ok y)

-- the judge of a result against a netlist
unfoldable pub told_of : List ℕ → List ℕ → List ℤ → Result Summary Misfit
told_of s sv bases = and_then (summary_at s (count (marked sv) (length sv))) (λ y. and_then (bounds_at s sv bases) (at_end s y))

-- the increments that an accepted result says
abbrev pub incs_on : Result Ledger Misfit → List ℕ
incs_on (Ok l) = l.incs
incs_on (Err e) = []

unfoldable pub increments_of : List ℕ → List ℕ → List ℤ → List ℕ
increments_of s sv bases = incs_on (bounds_at s sv bases)

-- ---- what is read back

-- "Read back gives inputs 0 and the rest base plus increment.": the bound of each component by its number
abbrev pub bound_on : (mark base increment : ℕ) → ℕ
bound_on mark b i = cond (eqb mark 1) (b + i) 0

unfoldable pub bounds_read : List ℕ → List ℤ → List ℕ → List ℕ
bounds_read sv bases incs = tabulate (λ x. bound_on (get_or sv x 0) (up (at bases x)) (get_or incs x 0)) (length sv)
