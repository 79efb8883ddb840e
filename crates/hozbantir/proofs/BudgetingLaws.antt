-- How the code meets the budget: from what the rounds say to what the writer is asked, and to what the call leaves.
use Rattle.std.specs.Prelude.{◌≡◌, refl, true, false, List, ◌++◌, ℕ, ◌<◌, ◌≤◌, ℤ, length, drop, Ok, Err}
use Rattle.std.proofs.Common.{sym, ◌∙◌, arith, le-leb}
use Rattle.std.proofs.lemmas.Bool.{lt-leb}
use Rattle.circuit.proofs.ListLaws.{count_le}
use Rattle.circuit.specs.Netlist.{Netlist, parts, served_of, serves}
use Rattle.circuit.proofs.ServedLaws.{length-served}
use Rattle.circuit.specs.Budget.{known, budget_of}
use Rattle.rounds.specs.declared.budgets.Budget.{Budget}
use Rattle.rounds.specs.declared.budgets.Late.{Late}
use Rattle.rounds.specs.Budgets.{answer_late}
use Rattle.rounds.specs.Budgets as B
use Rattle.rounds.specs.Increments.{rises_of, budget_all, budget_few, budget_told}
use Rattle.results.specs.Result.{says, encode, needed}
use Rattle.results.specs.Columns.{Aligned, Bases, bases_within}
use Rattle.results.specs.Writing.{length-encode}
use Rattle.hozbantir.specs.declared.answers.Refusal.TheVariants as R
use Rattle.hozbantir.specs.Answers.{Answer, in_room, Leaves}
use Rattle.hozbantir.proofs.AnswerLaws.{refusal_leaves, room_short, room_enough}
use Rattle.hozbantir.specs.Calls.{budget_on}
use Rattle.hozbantir.specs.Taken.{Taken}
use Rattle.hozbantir.proofs.TakenLaws.{taken_given}
use Rattle.hozbantir.specs.Budgeting.{Writes, written}

-- a mode is known, or not
pub mode_known : {m : ℕ} → m ≤ 1 → known m ≡ true
mode_known {m} h = le-leb m 1 h

pub mode_unknown : {m : ℕ} → 1 < m → known m ≡ false
mode_unknown {m} h = lt-leb m 1 h

-- ---- the writer

module _ (m t k : ℕ) (sv : List ℕ) (b f : List ℤ) (before : List ℕ) {l : ℕ} (e : l ≡ needed sv) where
  pub result_short : length before < l → Leaves (in_room (length before) (needed sv) (written m t k sv b f)) before (Err (R.Room l)) before
  result_short h = rw (sym e) (room_short (length before) l (written m t k sv b f) before h)

  pub result_done : {incs after : List ℕ} → l ≤ length before → incs ≡ rises_of f b → after ≡ encode (says m t k) sv b incs ++ drop (needed sv) before
      → Leaves (in_room (length before) (needed sv) (written m t k sv b f)) before (Ok l) after
  result_done h i q = rw (sym e) (room_enough (length before) l (written m t k sv b f) before h (length-encode (says m t k) sv b (rises_of f b) ∙ sym e) (q ∙ rw (i, e) refl))

-- ---- the rounds

pub taken_bases : {n : Netlist} {b : List ℤ} → Taken n b → Bases b
taken_bases t = bases_within t.based.least t.based.most

pub taken_columns : {n : Netlist} {b : List ℤ} {sv incs : List ℕ} → Taken n b → sv ≡ served_of n.kinds → length incs ≡ parts n → Aligned sv b incs
taken_columns {n} t e i = rw e (record { few = rw length-served t.accepted.judged.few; based = t.based.all ∙ sym (length-served n.kinds); raised = i ∙ sym (length-served n.kinds) })

module _ {n : Netlist} {b f : List ℤ} {m : ℕ} (t : Taken n b) where
  pub outcome_late : {late : Late} → B.Budgets m n b f (Err late) → (before : List ℕ) → Leaves (budget_on m n b (length before)) before (Err (R.Late late.0)) before
  unfolding budget_on
  outcome_late {late} a before = rw (answer_late (budget_of m n b) a.answer) (refusal_leaves (Err (R.Late late.0)) before)

  module _ {s : Budget} (a : B.Budgets m n b f (Ok s)) {sv : List ℕ} (e : sv ≡ served_of n.kinds) where
    pub outcome_asks : m ≤ 1 → Writes m s.rounds sv b f
    outcome_asks h =
        let few = t.accepted.judged.few in
        record {
          few = rw e (rw length-served few);
          based = rw e (t.based.all ∙ sym (length-served n.kinds));
          finals = budget_all (taken_given t e) a;
          mode = h;
          rounds = omega (arith, budget_few (taken_given t e) a, count_le (serves n) (parts n));
        }

    pub outcome_done : {before after : List ℕ} {o : Answer} → Leaves (in_room (length before) (needed sv) (written m s.share s.rounds sv b f)) before o after → Leaves (budget_on m n b (length before)) before o after
    unfolding budget_on
    outcome_done p = rw (budget_told (taken_given t e) a) (rw e at p)
