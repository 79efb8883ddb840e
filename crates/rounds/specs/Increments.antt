-- "An increment is final delay less base." (document 01, "Share and rounds"), over lists.
use Rattle.std.specs.Prelude.{◌≡◌, refl, Ok, List, ℕ, ◌<◌, ◌≤◌, ℤ, ◌-ℤ◌, length, get_or}
use Rattle.std.proofs.Common.{sym, ◌∙◌}
use Rattle.whole.specs.Whole.{up}
use Rattle.circuit.specs.Netlist.{Netlist, Based}
use Rattle.circuit.specs.Lists.{at, tabulate}
use Rattle.circuit.proofs.ListLaws.{length-tabulate, get_or-tabulate}
use Rattle.circuit.specs.Budget.{to_serve, start_in, final_from, increments, budget_of}
use Rattle.circuit.specs.Budget as C
use Rattle.circuit.proofs.ClockLaws.{clock}
use Rattle.circuit.specs.Safe.{Safe}
use Rattle.circuit.proofs.FinalLaws.{final_done}
use Rattle.circuit.proofs.BudgetLaws.{start_is}
use Rattle.circuit.proofs.OutcomeLaws.{OfMode, budget_says, rounds_most}
use Rattle.rounds.specs.declared.budgets.Budget.{Budget}
use Rattle.rounds.specs.Budgets.{answer_budget, Budgets, Given}

-- the delays f less the delays b
unfoldable pub rises_of : (f b : List ℤ) → List ℕ
rises_of f b = tabulate (λ x. up (at f x -ℤ at b x)) (length b)

pub length-rises : (f b : List ℤ) → length (rises_of f b) ≡ length b
unfolding rises_of
length-rises f b = length-tabulate _ (length b)

pub rise_is : (f b : List ℤ) (x : ℕ) → x < length b → get_or (rises_of f b) x 0 ≡ up (at f x -ℤ at b x)
unfolding rises_of
rise_is f b x h = get_or-tabulate _ (length b) x 0 h

pub rises_are : {n : Netlist} {b : List ℤ} (f : List ℤ) → Based n b → rises_of f b ≡ increments n b f
unfolding rises_of increments
rises_are f g = rw g.all

module _ {n : Netlist} {sv : List ℕ} {b : List ℤ} (g : Given n sv b) {m : ℕ} {f : List ℤ} {s : Budget} (a : Budgets m n b f (Ok s)) where
  budgeted : (l : List ℕ) × (budget_of m n b ≡ C.Budgeted s.share s.rounds l)
  budgeted = answer_budget (budget_of m n b) a.answer

  said : OfMode m n b s.share s.rounds budgeted.0
  said = budget_says g.accepted g.based m budgeted.1

  final_safe : Safe n f
  final_safe = let c = clock g.accepted in rw a.final (final_done c (start_is c g.based said.in_time m).safe).safe

  -- there are as many final delays as base delays
  pub budget_all : length f ≡ length b
  budget_all = final_safe.all ∙ sym g.based.all

  -- there is a round for each served component at most
  pub budget_few : s.rounds ≤ to_serve n
  budget_few = rounds_most g.accepted g.based m said

  -- share, rounds and increments as the code has them
  pub budget_told : budget_of m n b ≡ C.Budgeted s.share s.rounds (rises_of f b)
  budget_told = budgeted.1 ∙ rw (said.increments, a.final, rises_are (final_from n (start_in m n b)) g.based) refl
