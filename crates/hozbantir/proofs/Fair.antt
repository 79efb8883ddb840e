-- What every call keeps: a refusal writes nothing, success counts what it writes, every place is small, and no number is 9.
use Rattle.std.specs.Prelude.{◌≡◌, refl, List, [], ℕ, ◌≤◌, ◌<◌, ℤ, length, Result, Ok, Err}
use Rattle.std.proofs.Common.{◌∙◌, arith}
use Rattle.whole.specs.Pick.{lt, eq, is, if_cases}
use Rattle.circuit.proofs.ListLaws.{count_le}
use Rattle.circuit.specs.Netlist.{Netlist, parts, served_of, marked}
use Rattle.circuit.proofs.ServedLaws.{length-served}
use Rattle.circuit.specs.Times.{slacks}
use Rattle.circuit.specs.Budget.{known, Outcome, LateAt, Budgeted, budget_of}
use Rattle.netlists.specs.declared.Fault.TheVariants as F
use Rattle.netlists.specs.Judge.{Verdict, net_on, board_of, judge_of}
use Rattle.netlists.specs.Judge as N
use Rattle.netlists.specs.Accepted.{place_small}
use Rattle.netlists.specs.FuelLaws.{board_fine}
use Rattle.results.specs.declared.Summary.{Summary}
use Rattle.results.specs.declared.Misfit.{Misfit}
use Rattle.results.specs.Result.{says, encode, needed, told_of, bounds_read}
use Rattle.results.specs.Accepted as Q
use Rattle.results.specs.Writing.{length-encode}
use Rattle.results.specs.Bounds.{length-read}
use Rattle.hozbantir.specs.declared.answers.Refusal.TheVariants as R
use Rattle.hozbantir.specs.Answers.{Answer, number_of, place_of, Left, left, refusal, in_room, unless, on_verdict, on_told}
use Rattle.hozbantir.specs.Calls.{taken_of, analysis_on, analysis_of, on_outcome, budget_on, budget_for, result_on, both_of, said_of, bounds_on, read_back_of}
use Rattle.hozbantir.specs.Demands.{NotNine}
use Rattle.hozbantir.proofs.SlacksLaws.{length-slacks}

pub record Fair {A : Type 0} (l : Left A) : Type 0 where
  pub quiet : 0 < l.number → l.written ≡ []
  pub counted : l.number ≡ 0 → length l.written ≡ l.place
  pub small : l.place < 65536
  pub free : l.number ≡ 9 → ⊥

-- no answer has number 9
pub not_nine : (r : Answer) → NotNine r
not_nine (Ok n) e = omega arith
not_nine (Err R.Mode) e = omega arith
not_nine (Err (R.Netlist (F.Broken a))) e = omega arith
not_nine (Err (R.Netlist (F.Tag a))) e = omega arith
not_nine (Err (R.Netlist (F.Size a))) e = omega arith
not_nine (Err (R.Netlist (F.Field a))) e = omega arith
not_nine (Err (R.Netlist (F.Wiring a))) e = omega arith
not_nine (Err (R.Netlist (F.Ends x))) e = omega arith
not_nine (Err (R.Late x)) e = omega arith
not_nine (Err (R.Room n)) e = omega arith
not_nine (Err (R.Result a)) e = omega arith

module _ {A : Type 0} where
  fair_refusal : (a : Answer) → 0 < number_of a → place_of a < 65536 → Fair {A = A} (refusal a)
  fair_refusal a h k = record { quiet = λ _. refl; counted = λ e. absurd (omega arith); small = k; free = not_nine a }

  fair_room : (room needed : ℕ) (w : List A) → length w ≡ needed → needed < 65536 → Fair (in_room room needed w)
  fair_room room needed w e k =
      if_cases Fair (lt room needed) (refusal (Err (R.Room needed))) (left (Ok needed) w)
      (λ _. fair_refusal (Err (R.Room needed)) (omega arith) k)
      (λ _. record { quiet = λ h. absurd (omega arith); counted = λ _. e; small = k; free = not_nine (Ok needed) })

  fair_unless : (a : Answer) (l : Left A) → place_of a < 65536 → Fair l → Fair (unless a l)
  fair_unless a l k f = if_cases Fair (eq (number_of a) 0) l (refusal a) (λ _. f) (λ h. fair_refusal a (omega arith) k)

-- ---- the places of a netlist and a result

pub few_parts : (s : List ℕ) → length (board_of s).kinds ≤ 1024
few_parts s = (board_fine s).0.few

verdict_small : (v : Verdict) (a : Answer) → N.place_of v < 65536 → place_of a < 65536 → place_of (on_verdict v a) < 65536
verdict_small (Ok x) a h k = k
verdict_small (Err f) a h k = h

taken_small : (s : List ℕ) → place_of (taken_of s) < 65536
unfolding taken_of
taken_small s = verdict_small (judge_of s) (Ok (length (board_of s).kinds)) (place_small s) (omega (arith, few_parts s))

told_small : (ks : List ℕ) (b : List ℤ) (q : List ℕ) → length ks ≤ 1024 → place_of (result_on ks b q) < 65536
unfolding result_on
told_small ks b q h = by (told_of q (served_of ks) b) refl
  where
    by : (t : Result Summary Misfit) → told_of q (served_of ks) b ≡ t → place_of (on_told t (Ok (length ks))) < 65536
    by (Ok t) e = omega arith
    by (Err m) e = Q.place_small q (served_of ks) b e (omega (arith, length-served ks))

both_small : (s q : List ℕ) → place_of (both_of s q) < 65536
unfolding both_of
both_small s q = verdict_small (judge_of s) _ (place_small s) (told_small (board_of s).kinds (board_of s).bases q (few_parts s))

-- ---- the calls

pub analysis_fair : (s : List ℕ) (room : ℕ) → Fair (analysis_of s room)
unfolding analysis_of analysis_on
analysis_fair s room =
    let b = board_of s in
    fair_unless (taken_of s) _ (taken_small s) (fair_room room (length b.kinds) (slacks (net_on b) b.bases) (length-slacks (net_on b) b.bases) (omega (arith, few_parts s)))

-- a component that is named is one
abbrev Small : Netlist → Outcome → Type 0
Small n (LateAt x) = x < parts n
Small n (Budgeted t k l) = Unit

outcome_small : (m : ℕ) (n : Netlist) (b : List ℤ) → Small n (budget_of m n b)
unfolding budget_of
outcome_small m n b = if_cases (Small n) _ _ _ (λ h. h) (λ _. tt)

outcome_fair : (m : ℕ) (n : Netlist) (b : List ℤ) (room : ℕ) (o : Outcome) → parts n ≤ 1024 → Small n o → Fair (on_outcome m n b room o)
outcome_fair m n b room (LateAt x) h k = fair_refusal (Err (R.Late x)) (omega arith) (omega arith)
outcome_fair m n b room (Budgeted t k l) h _ =
    let sv = served_of n.kinds in
    fair_room room (needed sv) (encode (says m t k) sv b l) (length-encode (says m t k) sv b l) (omega (arith, count_le (marked sv) (length sv), length-served n.kinds))

pub budget_fair : (m : ℕ) (s : List ℕ) (room : ℕ) → Fair (budget_for m s room)
unfolding budget_for budget_on
budget_fair m s room =
    let n = net_on (board_of s) in
    let b = (board_of s).bases in
    if_cases Fair (is (known m)) _ (refusal (Err R.Mode))
    (λ _. fair_unless (taken_of s) _ (taken_small s) (outcome_fair m n b room (budget_of m n b) (few_parts s) (outcome_small m n b)))
    (λ _. fair_refusal (Err R.Mode) (omega arith) (omega arith))

pub reads_fair : (s q : List ℕ) (room : ℕ) → Fair (read_back_of s q room)
unfolding read_back_of bounds_on
reads_fair s q room =
    let sv = served_of (board_of s).kinds in
    let b = (board_of s).bases in
    fair_unless (both_of s q) _ (both_small s q)
    (fair_room room (length (board_of s).kinds) (bounds_read sv b (said_of s q)) (length-read sv b (said_of s q) ∙ length-served (board_of s).kinds) (omega (arith, few_parts s)))
