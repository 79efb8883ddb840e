use Rattle.std.proofs.Common.{◌∙◌}
use Rattle.std.proofs.lemmas.Result.{err_from_is_err_and}
use Rattle.rounds.specs.Budgets.{given_ready, outcome_done, outcome_late, run_asked, start_asked, started}
use Rattle.rounds.proofs.budgets.budget_in.Goals as goal

pub late_in-requires : goal.late_in-requires
late_in-requires c = let w = c.args.work.now.sized in (given_ready c.requires.0, w.arrivals_all ∙ c.requires.1, w.required_all ∙ c.requires.1)

pub returns-in_err-late_in-clause-budgets : goal.returns-in_err-late_in-clause-budgets
returns-in_err-late_in-clause-budgets c =
    let p = err_from_is_err_and c.from_residual.result c.from_residual.ensures.1 in
    rw (p.1, p.2) (outcome_late c.requires.0 _ c.in_err-late_in.ensures.0 c.in_err-late_in.ensures.1)

pub lift-requires : goal.lift-requires
lift-requires c = start_asked c.requires.0 _ (c.share_in-share.auto.d ∙ c.requires.1) c.share_in-share.ensures

pub run-rounds-requires : goal.run-rounds-requires
run-rounds-requires c =
    let g = c.requires.0 in
    run_asked g _ c.in_ok-late_in.ensures (started g _ c.share_in-share.ensures c.lift.ensures)

pub returns-clause-budgets : goal.returns-clause-budgets
returns-clause-budgets c =
    let g = c.requires.0 in
    let s = c.share_in-share.ensures in
    outcome_done g _ c.in_ok-late_in.ensures s (started g _ s c.lift.ensures) c.run-rounds.ensures.run
