use Rattle.std.proofs.lemmas.Result.{err_from_is_err_and}
use Rattle.rounds.specs.Budgets.{given_sharing}
use Rattle.hozbantir.proofs.TakenLaws.{taken_given}
use Rattle.hozbantir.proofs.BudgetingLaws.{outcome_late, outcome_asks, outcome_done}
use Rattle.hozbantir.proofs.budgeting.budget_on.Goals as goal

pub invariant_of-case : goal.invariant_of-case
invariant_of-case c = record { sharing = given_sharing (taken_given c.requires.0 c.fill_served.ensures) }

pub write_in-requires : goal.write_in-requires
write_in-requires c = let p = c.requires in outcome_asks p.0 c.in_ok-budget.ensures.budgets c.fill_served.ensures p.1

pub returns-in_err-budget : goal.returns-in_err-budget
returns-in_err-budget c =
    let p = err_from_is_err_and c.from_residual.result c.from_residual.ensures.1 in
    rw (p.1, p.2) (outcome_late c.requires.0 c.in_err-budget.ensures.budgets _)

pub returns : goal.returns
returns c = outcome_done c.requires.0 c.in_ok-budget.ensures.budgets c.fill_served.ensures c.write_in.ensures
