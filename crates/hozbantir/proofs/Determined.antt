-- Two outcomes of the same input that both satisfy a contract are one: the same answer, and the same bytes in the lent buffer, for a refusal too. Shown for
-- each call and each export, over the predicate that it ensures. There is no exception.
use Rattle.std.specs.Prelude.{◌≡◌, List, ℕ, ◌/◌, ◌%◌, ◌<◌, ℤ, length}
use Rattle.std.proofs.Common.{arith}
use Rattle.hozbantir.specs.Answers.{Answer, Left}
use Rattle.hozbantir.proofs.AnswerOne.{leaves_one}
use Rattle.hozbantir.specs.Calls.{analysis_of, Analyses, budget_for, Budgets, read_back_of, ReadsBack}
use Rattle.hozbantir.specs.Exports.{room_in, Sends, SendsAnalysis, SendsBudget, SendsBounds, sends_one}
use Rattle.hozbantir.proofs.Fair.{analysis_fair, budget_fair, reads_fair}

-- the netlist s
module _ (s : List ℕ) where
  pub analyses_one : {before after after' : List ℤ} {r r' : Answer} → Analyses s before r after → Analyses s before r' after' → (r ≡ r') × (after ≡ after')
  analyses_one = leaves_one

  pub sends_analysis_one : {before after after' : List ℕ} {v v' : ℕ} → SendsAnalysis s before v after → SendsAnalysis s before v' after' → (v ≡ v') × (after ≡ after')
  sends_analysis_one = sends_one

-- the mode m and the netlist s
module _ (m : ℕ) (s : List ℕ) where
  pub budgets_one : {before after after' : List ℕ} {r r' : Answer} → Budgets m s before r after → Budgets m s before r' after' → (r ≡ r') × (after ≡ after')
  budgets_one = leaves_one

  pub sends_budget_one : {before after after' : List ℕ} {v v' : ℕ} → SendsBudget m s before v after → SendsBudget m s before v' after' → (v ≡ v') × (after ≡ after')
  sends_budget_one = sends_one

-- the netlist s and the result q
module _ (s q : List ℕ) where
  pub reads_one : {before after after' : List ℕ} {r r' : Answer} → ReadsBack s q before r after → ReadsBack s q before r' after' → (r ≡ r') × (after ≡ after')
  reads_one = leaves_one

  pub sends_bounds_one : {before after after' : List ℕ} {v v' : ℕ} → SendsBounds s q before v after → SendsBounds s q before v' after' → (v ≡ v') × (after ≡ after')
  sends_bounds_one = sends_one

-- ---- what is returned tells number and place, for every input

-- as the header's macros take them: the upper 32 bits and the lower
apart : {l : Left ℕ} {before after : List ℕ} {v : ℕ} → l.place < 65536 → Sends l before v after → (v / 4294967296 ≡ l.number) × (v % 4294967296 ≡ l.place)
apart h p = let e = p.codes in (omega arith, omega arith)

module _ {before after : List ℕ} {v : ℕ} where
  pub analysis_apart : (s : List ℕ) → SendsAnalysis s before v after → (v / 4294967296 ≡ (analysis_of s (room_in before)).number) × (v % 4294967296 ≡ (analysis_of s (room_in before)).place)
  analysis_apart s = apart (analysis_fair s (room_in before)).small

  pub budget_apart : (m : ℕ) (s : List ℕ) → SendsBudget m s before v after → (v / 4294967296 ≡ (budget_for m s (length before)).number) × (v % 4294967296 ≡ (budget_for m s (length before)).place)
  budget_apart m s = apart (budget_fair m s (length before)).small

  pub bounds_apart : (s q : List ℕ) → SendsBounds s q before v after → (v / 4294967296 ≡ (read_back_of s q (room_in before)).number) × (v % 4294967296 ≡ (read_back_of s q (room_in before)).place)
  bounds_apart s q = apart (reads_fair s q (room_in before)).small
