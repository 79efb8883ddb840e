-- How the code meets the calls: from what the reader of netlists says, and the judge of results.
use Rattle.std.specs.Prelude.{◌≡◌, refl, true, false, List, ℕ, length, take, Ok, Err}
use Rattle.std.proofs.Common.{sym}
use Rattle.circuit.specs.Budget.{known}
use Rattle.netlists.specs.declared.Extent.{Extent}
use Rattle.netlists.specs.declared.Fault.{Fault}
use Rattle.netlists.specs.declared.Decoded.{Decoded}
use Rattle.netlists.specs.Judge.{board_of, judge_of}
use Rattle.netlists.specs.Held.{BoardIn, Judges}
use Rattle.netlists.specs.Accepted.{accepted}
use Rattle.hozbantir.specs.declared.answers.Refusal.TheVariants as R
use Rattle.hozbantir.specs.Answers.{Answer, Left, on_verdict, unless, Leaves}
use Rattle.hozbantir.proofs.AnswerLaws.{Refused, refusal_leaves, unless_refused, unless_done, verdict_refused, leaves_yes, leaves_no}
use Rattle.hozbantir.specs.Calls.{taken_of, budget_on, budget_for, Budgets, result_on, both_of}
use Rattle.hozbantir.specs.Taken.{net_in}

module _ {s : List ℕ} {f : Fault} {a : Decoded} (j : Judges s (Err f) a) where
  -- a netlist that is not taken, whatever would come next
  refused_is : (b : Answer) → (Err (R.Netlist f) ≡ on_verdict (judge_of s) b) × Refused (Err (R.Netlist f))
  refused_is b = (rw (sym j.judged), verdict_refused (Err f) b (λ e h. cc))

  pub taken_refused : (Err (R.Netlist f) ≡ taken_of s) × Refused (Err (R.Netlist f))
  unfolding taken_of
  taken_refused = refused_is _

  refused_leaves : {A : Type 0} (l : Left A) (before : List A) → Leaves (unless (taken_of s) l) before (Err (R.Netlist f)) before
  refused_leaves l before = let (q, g) = taken_refused in rw (sym q, unless_refused (Err (R.Netlist f)) l g) (refusal_leaves (Err (R.Netlist f)) before)

  pub budgets_refused : (m : ℕ) (before : List ℕ) → known m ≡ true → Budgets m s before (Err (R.Netlist f)) before
  unfolding budget_for
  budgets_refused m before k = leaves_yes _ _ _ k (refused_leaves _ before)

  pub both_refused : (q : List ℕ) → (Err (R.Netlist f) ≡ both_of s q) × Refused (Err (R.Netlist f))
  unfolding both_of
  both_refused q = refused_is _

-- one that is, in the first places of the arrays
module _ {s : List ℕ} {e : Extent} {a : Decoded} (j : Judges s (Ok e) a) where
  good : judge_of s ≡ Ok e
  good = sym j.judged

  taken : BoardIn (board_of s) e a
  taken = j.decodes

  pub taken_done : Ok e.components ≡ taken_of s
  unfolding taken_of
  taken_done = rw (good, (accepted s good).parts_are)

  taken_leaves : {A : Type 0} {l : Left A} {before after : List A} {r : Answer} → Leaves l before r after → Leaves (unless (taken_of s) l) before r after
  taken_leaves {l = l} p = rw (unless_done (taken_of s) l (rw (sym taken_done) refl)) p

  pub budgets_taken : (k : ℕ) {before after : List ℕ} {r : Answer} → known k ≡ true → Leaves (budget_on k (net_in e a) (take e.components a.bases) (length before)) before r after → Budgets k s before r after
  unfolding budget_for
  budgets_taken k h p = let b = taken in leaves_yes _ _ _ h (taken_leaves (rw (b.kinds, b.times, b.froms, b.tos, b.bases) at p))

  pub both_taken : (q : List ℕ) {r : Answer} → r ≡ result_on (take e.components a.kinds) (take e.components a.bases) q → r ≡ both_of s q
  unfolding both_of
  both_taken q p = let b = taken in rw good (rw (b.kinds, b.bases) at p)

pub budgets_mode : (m : ℕ) (s before : List ℕ) → known m ≡ false → Budgets m s before (Err R.Mode) before
unfolding budget_for
budgets_mode m s before k = leaves_no _ _ _ k (refusal_leaves (Err R.Mode) before)
