-- What budget's success and its refusals say.
use Rattle.std.specs.Prelude.{◌≡◌, refl, false, List, ℕ, ◌≤◌, ℤ, length, take, drop, Ok, Err}
use Rattle.std.proofs.Common.{sym, ap, ◌∙◌, zero-add, arith, take_at, le-leb, leb-true}
use Rattle.std.proofs.Math.Decide.{ℕ_discrete}
use Rattle.whole.specs.Pick.{is, if?, if_cases}
use Rattle.circuit.proofs.ListLaws.{clash}
use Rattle.circuit.specs.Netlist.{Netlist, kind, served_of, serves}
use Rattle.circuit.proofs.ServedLaws.{length-served, serves_yes}
use Rattle.circuit.specs.Budget.{known, Outcome, LateAt, Budgeted, budget_of}
use Rattle.circuit.proofs.OutcomeLaws.{OfMode, budget_says, rounds_most, increments_most, increments_all, increments_none, share_plain, share_small}
use Rattle.netlists.specs.Judge.{net_on, board_of}
use Rattle.results.specs.Result.{says, encode, needed, told_of, increments_of}
use Rattle.results.specs.Round.{said_summary, Sayable, told_back, increments_back}
use Rattle.results.specs.Writing.{length-encode}
use Rattle.hozbantir.specs.declared.answers.Refusal.TheVariants as R
use Rattle.hozbantir.specs.Answers.{Answer, number_of, place_of, Left, refusal, unless, Leaves}
use Rattle.hozbantir.proofs.AnswerOne.{answer_one}
use Rattle.hozbantir.proofs.AnswerLaws.{done_taken, done_unless, done_written}
use Rattle.hozbantir.specs.Calls.{taken_of, on_outcome, budget_on, budget_for, Budgets}
use Rattle.hozbantir.specs.Taken.{Taken}
use Rattle.hozbantir.proofs.TakenLaws.{said_taken, taken_count}
use Rattle.hozbantir.proofs.BudgetingLaws.{taken_bases}

-- ---- what a result can say

-- an unmarked component is an input
unmarked : (n : Netlist) (x : ℕ) → serves n x ≡ false → kind n x ≡ 0
unmarked n x h = by (ℕ_discrete (kind n x) 0)
  where
    by : Dec (kind n x ≡ 0) → kind n x ≡ 0
    by (yes e) = e
    by (no e) = absurd (clash (sym (serves_yes n x e) ∙ h))

module _ {n : Netlist} {b : List ℤ} (g : Taken n b) {m t k : ℕ} {l : List ℕ} (h : m ≤ 1) (s : OfMode m n b t k l) where
  share_most : t ≤ 200000000
  share_most = by (ℕ_discrete m 0)
    where
      by : Dec (m ≡ 0) → t ≤ 200000000
      by (yes e) = omega (arith, share_plain g.accepted g.based m s e)
      by (no e) = share_small g.accepted g.based m s e

  -- share, rounds and increments of a budget are such
  pub mode_sayable : Sayable (says m t k) (served_of n.kinds) l
  mode_sayable = record {
    summary = said_summary (record { mode = h; share = share_most; plain = share_plain g.accepted g.based m s; rounds = rw length-served (rounds_most g.accepted g.based m s) });
    all = increments_all g.accepted g.based m s ∙ sym (length-served n.kinds);
    raised = record { most = increments_most g.accepted g.based m s; none = λ x q. increments_none g.accepted g.based m s x (unmarked n x (rw zero-add at q)) };
  }

-- ---- success

-- budget in mode m wrote q, for the netlist s
pub record Wrote (m : ℕ) (s q : List ℕ) : Type 0 where
  pub share : ℕ
  pub rounds : ℕ
  pub increments : List ℕ
  pub mode : m ≤ 1
  pub judged : taken_of s ≡ Ok (length (board_of s).kinds)
  pub taken : Taken (net_on (board_of s)) (board_of s).bases
  pub budget : budget_of m (net_on (board_of s)) (board_of s).bases ≡ Budgeted share rounds increments
  pub bytes : q ≡ encode (says m share rounds) (served_of (board_of s).kinds) (board_of s).bases increments

module _ {before after : List ℕ} {k : ℕ} where
  outcome_wrote : (m : ℕ) (n : Netlist) (b : List ℤ) (o : Outcome) → Leaves (on_outcome m n b (length before) o) before (Ok k) after
      → (t : ℕ) × (r : ℕ) × (l : List ℕ) × (o ≡ Budgeted t r l) × (take k after ≡ encode (says m t r) (served_of n.kinds) b l)
  outcome_wrote m n b (LateAt x) p = absurd (let e = p.number in omega arith)
  outcome_wrote m n b (Budgeted t r l) p =
      let sv = served_of n.kinds in
      let w = encode (says m t r) sv b l in
      let (e, _, q) = done_written (length before) (needed sv) w p in
      (t, r, l, refl, rw (q, e) (take_at w (drop (length w) before) (needed sv) (length-encode (says m t r) sv b l)))

  outcome_counts : (m : ℕ) (n : Netlist) (b : List ℤ) (o : Outcome) → Leaves (on_outcome m n b (length before) o) before (Ok k) after → (k ≡ needed (served_of n.kinds)) × (k ≤ length before)
  outcome_counts m n b (LateAt x) p = absurd (let e = p.number in omega arith)
  outcome_counts m n b (Budgeted t r l) p =
      let sv = served_of n.kinds in
      let (e, h, _) = done_written (length before) (needed sv) (encode (says m t r) sv b l) p in
      (e, omega arith)

  -- the mode is known where budget succeeds
  known_mode : (m : ℕ) (l : Left ℕ) → Leaves (if? (is (known m)) l (refusal (Err R.Mode))) before (Ok k) after → (m ≤ 1) × Leaves l before (Ok k) after
  known_mode m l =
      if_cases (λ u. Leaves u before (Ok k) after → (m ≤ 1) × Leaves l before (Ok k) after) (is (known m)) l (refusal (Err R.Mode))
      (λ h p. (leb-true m 1 h, p))
      (λ h p. absurd (let e = p.number in omega arith))

  pub budget_wrote : (m : ℕ) (s : List ℕ) → Budgets m s before (Ok k) after → Wrote m s (take k after)
  unfolding budget_for budget_on
  budget_wrote m s p =
      let n = net_on (board_of s) in
      let b = (board_of s).bases in
      let (h, q) = known_mode m _ p in
      let (done, o) = done_taken (taken_of s) _ q in
      let (t, r, l, e, w) = outcome_wrote m n b (budget_of m n b) o in
      record { share = t; rounds = r; increments = l; mode = h; judged = taken_count s done.1; taken = said_taken s done.1; budget = e; bytes = w }

  -- and the place is how many bytes it wrote
  pub budget_counts : (m : ℕ) (s : List ℕ) → Budgets m s before (Ok k) after → (k ≡ needed (served_of (board_of s).kinds)) × (k ≤ length before)
  unfolding budget_for budget_on
  budget_counts m s p =
      let n = net_on (board_of s) in
      let b = (board_of s).bases in
      let o = (done_taken (taken_of s) _ (known_mode m _ p).1).1 in
      outcome_counts m n b (budget_of m n b) o

module _ {m : ℕ} {s q : List ℕ} (w : Wrote m s q) where
  pub wrote_mode : OfMode m (net_on (board_of s)) (board_of s).bases w.share w.rounds w.increments
  wrote_mode = budget_says w.taken.accepted w.taken.based m w.budget

  few : length (served_of (board_of s).kinds) ≤ 1024
  few = rw length-served w.taken.accepted.judged.few

  -- it is accepted, and says what it was written for
  pub wrote_told : told_of q (served_of (board_of s).kinds) (board_of s).bases ≡ Ok (says m w.share w.rounds)
  wrote_told = rw w.bytes (told_back (taken_bases w.taken) few (mode_sayable w.taken w.mode wrote_mode))

  pub wrote_said : increments_of q (served_of (board_of s).kinds) (board_of s).bases ≡ w.increments
  wrote_said = rw w.bytes (increments_back (taken_bases w.taken) few (mode_sayable w.taken w.mode wrote_mode))

-- ---- a refusal

-- where mode and netlist are taken, the outcome decides
pub budget_decides : {m n : ℕ} (s : List ℕ) {before after : List ℕ} {r : Answer} → m ≤ 1 → taken_of s ≡ Ok n → Budgets m s before r after → Leaves (on_outcome m (net_on (board_of s)) (board_of s).bases (length before) (budget_of m (net_on (board_of s)) (board_of s).bases)) before r after
unfolding budget_for budget_on
budget_decides {m} s {before} {after} {r} h e p =
    let l = on_outcome m (net_on (board_of s)) (board_of s).bases (length before) (budget_of m (net_on (board_of s)) (board_of s).bases) in
    let u = unless (taken_of s) l in
    done_unless (taken_of s) l (ap number_of e)
    (if_cases (λ v. Leaves v before r after → Leaves u before r after) (is (known m)) u (refusal (Err R.Mode)) (λ _ q. q) (λ f. absurd (clash (sym (le-leb m 1 h) ∙ f))) p)

-- LATE is the outcome's
pub outcome_late : (m : ℕ) (n : Netlist) (b : List ℤ) (room : ℕ) {x : ℕ} {before after : List ℕ} (o : Outcome) → Leaves (on_outcome m n b room o) before (Err (R.Late x)) after → o ≡ LateAt x
outcome_late m n b room (LateAt y) p = ap LateAt (sym p.place)
outcome_late m n b room {x} {before} {after} (Budgeted t k l) p =
    absurd (if_cases (λ u. Leaves u before (Err (R.Late x)) after → ⊥) _ _ _ (λ _ q. let e = q.number in omega arith) (λ _ q. let e = q.number in omega arith) p)

-- what a caller knows of a success by its number
pub budget_part : {before after : List ℕ} {r : Answer} (m : ℕ) (s : List ℕ) → Budgets m s before r after → number_of r ≡ 0 → (10 ≤ place_of r) × (place_of r ≤ length before)
budget_part {before} {after} {r} m s p e =
    let done : r ≡ Ok (place_of r) = answer_one e refl in
    let (n, h) = budget_counts m s (rw done at p) in
    (omega arith, h)
