-- No run stalls, and what C gets never has number 9, for every netlist, result, mode and buffer. That no answer has it is `not_nine` of `Fair`.
use Rattle.std.specs.Prelude.{◌≡◌, List, ℕ, length, Ok}
use Rattle.std.proofs.Common.{sym, ◌∙◌}
use Rattle.circuit.specs.Circuit.{InTime}
use Rattle.circuit.proofs.OutcomeLaws.{ends}
use Rattle.hozbantir.specs.Calls.{taken_of}
use Rattle.hozbantir.specs.Exports.{room_in, SendsAnalysis, SendsBudget, SendsBounds}
use Rattle.hozbantir.specs.Demands.{circuit_in, base_in, NeverStalls, SentNotNine}
use Rattle.hozbantir.proofs.TakenLaws.{said_taken}
use Rattle.hozbantir.proofs.Fair.{analysis_fair, budget_fair, reads_fair}
use Rattle.hozbantir.proofs.Determined.{analysis_apart, budget_apart, bounds_apart}

-- of a netlist that is taken, and in time at base delays, the rounds of every mode end by themselves
pub never_stalls : (m : ℕ) (s : List ℕ) {n : ℕ} → taken_of s ≡ Ok n → InTime (circuit_in s) (base_in s) → NeverStalls m s
never_stalls m s e safe = let t = said_taken s e in ends t.accepted t.based m safe

module _ {before after : List ℕ} {v : ℕ} where
  pub sends_analysis_not_nine : (s : List ℕ) → SendsAnalysis s before v after → SentNotNine v
  sends_analysis_not_nine s p e = (analysis_fair s (room_in before)).free (sym (analysis_apart s p).0 ∙ e)

  pub sends_budget_not_nine : (m : ℕ) (s : List ℕ) → SendsBudget m s before v after → SentNotNine v
  sends_budget_not_nine m s p e = (budget_fair m s (length before)).free (sym (budget_apart m s p).0 ∙ e)

  pub sends_bounds_not_nine : (s q : List ℕ) → SendsBounds s q before v after → SentNotNine v
  sends_bounds_not_nine s q p e = (reads_fair s q (room_in before)).free (sym (bounds_apart s q p).0 ∙ e)
