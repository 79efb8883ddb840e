-- What a budget in code asks, and that it is the definition's.
use Rattle.std.specs.Prelude.{◌≡◌, refl, Result, Ok, Err, MatchResult, OnOk, List, ℕ, ◌^◌, ◌<◌, ◌≤◌, ℤ, length}
use Rattle.std.proofs.Common.{sym, ◌∙◌, arith}
use Rattle.whole.specs.Pick.{if_yes}
use Rattle.whole.specs.Range.{Bounded, bounded_more}
use Rattle.circuit.specs.Netlist.{Netlist, parts, circuit_of, served_of, Based}
use Rattle.circuit.specs.Lists.{at}
use Rattle.circuit.specs.Circuit.{InTime}
use Rattle.circuit.specs.Times.{Accepted, lowest_late}
use Rattle.circuit.specs.Rounds.{Run}
use Rattle.circuit.specs.Share.{lifted}
use Rattle.circuit.specs.Budget.{share_in, start_in, final_from, budget_of}
use Rattle.circuit.specs.Budget as C
use Rattle.circuit.proofs.ServedLaws.{length-served}
use Rattle.circuit.proofs.LateLaws.{late_le, late_none_is}
use Rattle.circuit.proofs.ClockLaws.{clock}
use Rattle.circuit.specs.Safe.{Safe}
use Rattle.circuit.proofs.SafeLaws.{based_bounded}
use Rattle.circuit.proofs.BudgetLaws.{lifted_bounded, start_is, budget_is}
use Rattle.circuit.proofs.OutcomeLaws.{ends}
use Rattle.timing.specs.Ready.{Ready}
use Rattle.rounds.specs.declared.budgets.Budget.{Budget}
use Rattle.rounds.specs.declared.budgets.Late.{Late}
use Rattle.rounds.specs.Sharing.{Sharing, share_small}

-- the code's answer to an outcome of the definition, whose increments are final delay less base
abbrev pub answer_of : C.Outcome → Result Budget Late
answer_of (C.LateAt x) = Err (record { 0 = x })
answer_of (C.Budgeted t k l) = Ok (record { share = t; rounds = k })

-- which tells the outcome
pub answer_late : {late : Late} (o : C.Outcome) → Err late ≡ answer_of o → o ≡ C.LateAt late.0
answer_late (C.LateAt y) e = cc
answer_late (C.Budgeted t k l) e = cc

pub answer_budget : {s : Budget} (o : C.Outcome) → Ok s ≡ answer_of o → (l : List ℕ) × (o ≡ C.Budgeted s.share s.rounds l)
answer_budget (C.LateAt y) e = absurd cc
answer_budget (C.Budgeted t k l) e = (l, cc)

-- of the mode m, netlist n and base delays b: the answer, and the final delays where there is a budget
pub record Budgets (m : ℕ) (n : Netlist) (b f : List ℤ) (r : Result Budget Late) : Type 0 where
  pub answer : r ≡ answer_of (budget_of m n b)
  pub final : OnOk r (f ≡ final_from n (start_in m n b))

-- in time at the delays b, or late at the lowest output that is
abbrev pub Timely : Netlist → List ℤ → Result (Unit {0}) Late → Type 0
Timely n b r = MatchResult r (λ u. parts n ≤ lowest_late n b) (λ late. (late.0 ≡ lowest_late n b) × (late.0 < parts n))

-- an accepted netlist, its base delays and its marks
pub record Given (n : Netlist) (sv : List ℕ) (b : List ℤ) : Type 0 where
  pub accepted : Accepted n
  pub based : Based n b
  pub marks : sv ≡ served_of n.kinds

module _ {n : Netlist} {sv : List ℕ} {b : List ℤ} (g : Given n sv b) where
  pub given_ready : Ready n b
  given_ready =
      let j = g.accepted.judged in
      record { wired = j.wired; times_all = j.times_all; delays_all = g.based.all; times_in = bounded_more (omega arith) j.times_in; delays_in = based_bounded g.based }

  pub given_marks : length sv ≡ parts n
  given_marks = rw g.marks (length-served n.kinds)

  pub given_sharing : Sharing n sv b
  given_sharing = record { ready = given_ready; lifts = λ u h. rw g.marks (lifted_bounded g.based u h); marks_all = given_marks }

  -- nothing is late, so that base delays are in time, and the start of every mode is
  in_time : parts n ≤ lowest_late n b → InTime (circuit_of n) (at b)
  in_time h = late_none_is n b ((clock g.accepted).timed b (based_bounded g.based)) (omega (arith, late_le n b))

  pub given_safe : (m : ℕ) → parts n ≤ lowest_late n b → Safe n (start_in m n b)
  given_safe m h = (start_is (clock g.accepted) g.based (in_time h) m).safe

  module _ (m : ℕ) where
    pub outcome_late : {f : List ℤ} {late : Late} → late.0 ≡ lowest_late n b → late.0 < parts n → Budgets m n b f (Err late)
    unfolding budget_of
    outcome_late e h =
        let q : budget_of m n b ≡ C.LateAt (lowest_late n b) = sym (if_yes _ _ (rw e at h) refl) in
        record { answer = rw (q, ← e) refl; final = tt }

    -- what a start from the base delays is asked, and that it is the definition's
    pub start_asked : {p t : ℕ} → p ≡ parts n → t ≡ share_in m n b → (p ≡ length b) × (length sv ≡ length b) × Bounded (2 ^ 29) b × (t < 2 ^ 28)
    start_asked e s = let q = given_ready in (e ∙ sym q.delays_all, given_marks ∙ sym q.delays_all, q.delays_in, rw s (share_small m n b))

    pub started : {d : List ℤ} {t : ℕ} → t ≡ share_in m n b → d ≡ lifted sv t b → d ≡ start_in m n b
    unfolding start_in
    started s e = e ∙ rw (s, g.marks) refl

    -- what a run from there is asked
    pub run_asked : {d : List ℤ} → parts n ≤ lowest_late n b → d ≡ start_in m n b → Accepted n × Safe n d × (sv ≡ served_of n.kinds)
    run_asked h e = (g.accepted, rw e (given_safe m h), g.marks)

    -- it is the definition's, since there is no other
    pub outcome_done : {d f : List ℤ} {t c : ℕ} → parts n ≤ lowest_late n b → t ≡ share_in m n b → d ≡ start_in m n b → Run n (served_of n.kinds) d f c → Budgets m n b f (Ok (record { share = t; rounds = c }))
    outcome_done h s e q =
        let (final, count) = (ends g.accepted g.based m (in_time h)).only (rw e at q) in
        record { answer = rw (budget_is (clock g.accepted) g.based (in_time h) m, s, count) refl; final = final }
