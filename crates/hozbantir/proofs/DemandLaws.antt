-- The demands hold of what the calls leave.
use Rattle.std.specs.Prelude.{◌≡◌, refl, List, ◌++◌, ℕ, ◌<◌, ◌≤◌, length, get_or, take, drop, Ok, Err}
use Rattle.std.proofs.Common.{sym, ap, ◌∙◌, subst, arith, length-append, length-drop, take_at, drop_at}
use Rattle.std.proofs.Math.ListN.{get_or-append}
use Rattle.whole.specs.Whole.{up}
use Rattle.whole.specs.Pick.{lt, if_cases}
use Rattle.circuit.specs.Circuit.{Path}
use Rattle.circuit.specs.Circuit as C
use Rattle.circuit.specs.Lists.{at}
use Rattle.circuit.specs.Netlist.{parts, served_of}
use Rattle.circuit.specs.Times.{lowest_late}
use Rattle.circuit.proofs.ServedLaws.{length-served, serves_no, serves_yes}
use Rattle.circuit.specs.Budget.{Outcome, budget_of}
use Rattle.circuit.specs.Demand.{Demand3}
use Rattle.circuit.proofs.OutcomeLaws.{late_says, late_path, ends, rounds_most, share_plain, share_even, demand3}
use Rattle.netlists.specs.Judge.{board_of}
use Rattle.results.specs.Result.{bound_on, bounds_read}
use Rattle.results.specs.Bounds.{length-read, read_at}
use Rattle.results.specs.Accepted.{OfBytes, same_bytes}
use Rattle.hozbantir.specs.declared.answers.Refusal.TheVariants as R
use Rattle.hozbantir.specs.Answers.{Answer, number_of, left, refusal, Leaves}
use Rattle.hozbantir.proofs.AnswerOne.{answer_one}
use Rattle.hozbantir.proofs.AnswerLaws.{done_taken, done_unless, done_written}
use Rattle.hozbantir.specs.Calls.{taken_of, Budgets, both_of, said_of, bounds_on, read_back_of, ReadsBack}
use Rattle.hozbantir.specs.Taken.{Taken}
use Rattle.hozbantir.proofs.TakenLaws.{said_taken}
use Rattle.hozbantir.proofs.ReadingLaws.{both_agree, agree_both}
use Rattle.hozbantir.proofs.BudgetLaws.{budget_wrote, wrote_mode, wrote_told, wrote_said, budget_decides, outcome_late}
use Rattle.hozbantir.specs.Demands.{netlist_in, circuit_in, base_in, served_in, summary_in, increment_in, Even, ToldRight, BoundOf, Reads, ReadsAlways, LateExactly}

-- ---- demand 3

pub demand_3 : (s : List ℕ) {before after : List ℕ} {k : ℕ} → Budgets 1 s before (Ok k) after → Even s (take k after)
demand_3 s p =
    let w = budget_wrote 1 s p in
    let t = w.taken in
    record {
      share = w.share;
      rounds = w.rounds;
      summary = wrote_told w;
      meets = subst (λ i. Demand3 (circuit_in s) (served_in s) (base_in s) w.share (λ x. get_or i x 0)) (sym (wrote_said w)) (demand3 t.accepted t.based 1 (wrote_mode w) (λ e. omega arith));
    }

-- ---- demand 2: what was written

pub demand_2 : (m : ℕ) (s : List ℕ) {before after : List ℕ} {k : ℕ} → Budgets m s before (Ok k) after → ToldRight m s (take k after)
demand_2 m s p =
    let w = budget_wrote m s p in
    let a = w.taken.accepted in
    let b = w.taken.based in
    record {
      share = w.share;
      rounds = w.rounds;
      increments = w.increments;
      budget = w.budget;
      summary = wrote_told w;
      said = wrote_said w;
      rounds_are = (wrote_mode w).rounds;
      rounds_few = rounds_most a b m (wrote_mode w);
      rounds_end = ends a b m (wrote_mode w).in_time;
      plain = share_plain a b m (wrote_mode w);
      even = λ e. share_even a b m (wrote_mode w) (λ z. omega arith);
    }

-- ---- demand 2: what is read back

-- "Read back gives inputs 0 and the rest base plus increment."
bound_is : (s q : List ℕ) (x : ℕ) → BoundOf s q x (bound_on (get_or (served_of (board_of s).kinds) x 0) (up (at (board_of s).bases x)) (increment_in s q x))
bound_is s q x = record { input = λ e. rw (serves_no (netlist_in s) x e); other = λ h. rw (serves_yes (netlist_in s) x h) }

module _ (s q : List ℕ) where
  abbrev sv : List ℕ
  sv = served_of (board_of s).kinds

  abbrev bounds : List ℕ
  bounds = bounds_read sv (board_of s).bases (said_of s q)

  count : length bounds ≡ parts (netlist_in s)
  count = length-read sv (board_of s).bases (said_of s q) ∙ length-served (board_of s).kinds

  bounds_in : (before : List ℕ) (x : ℕ) → x < parts (netlist_in s) → BoundOf s q x (get_or (bounds ++ drop (length bounds) before) x 0)
  bounds_in before x h =
      let read = get_or-append bounds (drop (length bounds) before) 0 x (rw count h) in
      let at_x = read_at sv (board_of s).bases (said_of s q) x (rw length-served h) in
      rw (read, at_x) (bound_is s q x)

  -- a result that is taken reads back, in any buffer with room
  pub taken_reads : {n : ℕ} → both_of s q ≡ Ok n → ReadsAlways s q
  unfolding read_back_of bounds_on
  taken_reads e = record { reads = reads' }
    where
      reads' : {before after : List ℕ} {r : Answer} → ReadsBack s q before r after → parts (netlist_in s) ≤ length before → Reads s q r after
      reads' {before} {after} {r} p enough =
          if_cases (λ l. Leaves l before r after → Reads s q r after) (lt (length before) (parts (netlist_in s))) (refusal (Err (R.Room (parts (netlist_in s))))) (left (Ok (parts (netlist_in s))) bounds)
          (λ h. absurd (omega arith))
          (λ h f. record { accepted = answer_one f.number f.place; bounds = rw f.writes (bounds_in before) })
          (done_unless (both_of s q) _ (ap number_of e) p)

  module _ {before after : List ℕ} {k : ℕ} (p : ReadsBack s q before (Ok k) after) where
    pub reads_agree : (both_of s q ≡ Ok (parts (netlist_in s))) × (k ≡ parts (netlist_in s)) × (parts (netlist_in s) ≤ length before) × (after ≡ bounds ++ drop (length bounds) before)
    unfolding read_back_of bounds_on
    reads_agree =
        let (done, f) = done_taken (both_of s q) _ p in
        let agree = (both_agree s q done.1).3 in
        let (n, h, w) = done_written (length before) (parts (netlist_in s)) bounds f in
        (done.1 ∙ ap Ok agree.count, n, h, w)

    same_length : length after ≡ length before
    same_length = let (_, _, h, e) = reads_agree in rw (e, length-append bounds (drop (length bounds) before), count) (omega (arith, length-drop (parts (netlist_in s)) before))

    -- a second call over its own output changes nothing: "however often it is read" (demand 2)
    pub reads_again : ReadsBack s q after (Ok k) after
    reads_again =
        let behind : drop (length (read_back_of s q (length before)).written) after ≡ drop (length (read_back_of s q (length before)).written) before
        = rw p.writes (drop_at (read_back_of s q (length before)).written _ (length (read_back_of s q (length before)).written) refl) in
        rw same_length (record { number = p.number; place = p.place; writes = p.writes ∙ rw behind refl })

    -- what it gives depends on netlist and result alone, not on what the buffer held
    pub reads_given : take k after ≡ bounds
    reads_given = let (_, n, _, e) = reads_agree in rw (e, n) (take_at bounds (drop (length bounds) before) (parts (netlist_in s)) count)

-- "A written result reads back to base plus increment" (demand 2): what budget wrote is accepted by read back whenever the buffer has room
pub demand_2_back : (m : ℕ) (s : List ℕ) {before after : List ℕ} {k : ℕ} → Budgets m s before (Ok k) after → ReadsAlways s (take k after)
demand_2_back m s {after = after} {k} p = let w = budget_wrote m s p in taken_reads s (take k after) (agree_both s (take k after) w.judged (wrote_told w))

-- "no two accepted results for one netlist differ in bytes only" (demand 2)
pub demand_2_bytes : (s : List ℕ) {q q' before before' after after' : List ℕ} {k k' : ℕ} → OfBytes q → OfBytes q' → ReadsBack s q before (Ok k) after → ReadsBack s q' before' (Ok k') after'
    → summary_in s q ≡ summary_in s q' → said_of s q ≡ said_of s q' → q ≡ q'
demand_2_bytes s {q} {q'} b b' p p' e i =
    let told = (both_agree s q (reads_agree s q p).0).3.told in
    same_bytes (served_of (board_of s).kinds) (board_of s).bases b b' told (sym e ∙ told) i

-- ---- late

module _ {m n : ℕ} (s : List ℕ) {before after : List ℕ} {r : Answer} (h : m ≤ 1) (e : taken_of s ≡ Ok n) (p : Budgets m s before r after) where
  abbrev t : Taken (netlist_in s) (board_of s).bases
  t = said_taken s e

  abbrev outcome : Outcome
  outcome = budget_of m (netlist_in s) (board_of s).bases

  late_only : {x : ℕ} → r ≡ Err (R.Late x) → (w : Path (circuit_in s).net) × C.Late (circuit_in s) (base_in s) w
  late_only f =
      let q = rw f at (budget_decides s h e p) in
      let g = (late_says t.accepted t.based m (outcome_late m (netlist_in s) (board_of s).bases (length before) outcome q)).path in
      (g.0, g.2)

  late_holds : (w : Path (circuit_in s).net) → C.Late (circuit_in s) (base_in s) w → (x : ℕ) × (r ≡ Err (R.Late x))
  late_holds w late =
      let q = rw (late_path t.accepted t.based m w late) at (budget_decides s h e p) in
      (lowest_late (netlist_in s) (board_of s).bases, answer_one q.number q.place)

  pub late_exactly : LateExactly s r
  late_exactly = record { only = late_only; holds = late_holds }
