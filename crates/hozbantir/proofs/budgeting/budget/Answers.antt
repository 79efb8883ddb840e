use Rattle.std.proofs.lemmas.Result.{err_from_is_err_and}
use Rattle.std.proofs.Common.{rules, length-take-le}
use Rattle.hozbantir.proofs.BudgetingLaws.{mode_known, mode_unknown}
use Rattle.hozbantir.proofs.CallLaws.{budgets_mode, budgets_refused, budgets_taken}
use Rattle.hozbantir.proofs.TakenLaws.{good_filled}
use Rattle.hozbantir.proofs.budgeting.budget.Goals as goal

pub returns-then-mode-gt1 : goal.returns-then-mode-gt1
returns-then-mode-gt1 c = budgets_mode _ _ _ (mode_unknown c.if-mode-gt1.true)

pub returns-in_err-extent : goal.returns-in_err-extent
returns-in_err-extent c = let p = err_from_is_err_and c.from_residual.result c.from_residual.ensures.1 in rw (p.1, p.2) (budgets_refused c.in_err-extent.ensures _ _ (mode_known c.if-mode-gt1.false))

pub slice_bounds-served-end : goal.slice_bounds-served-end
slice_bounds-served-end c = let f = good_filled c.in_ok-extent.ensures in search rules

pub slice_bounds-marks-end : goal.slice_bounds-marks-end
slice_bounds-marks-end c = let f = good_filled c.in_ok-extent.ensures in search rules

pub circuit-requires : goal.circuit-requires
circuit-requires c = let f = good_filled c.in_ok-extent.ensures in (f.few, f.fewer)

pub budget_on-requires : goal.budget_on-requires
budget_on-requires c = let f = good_filled c.in_ok-extent.ensures in
    let q = c.circuit.ensures in
    (rw (q.kinds, q.times, q.from, q.to, c.bases.ensures) f.taken, c.if-mode-gt1.false, rw (q.kinds, f.parts_are) (length-take-le _ c.read.new.met (rw c.read.auto.met f.few)))

pub returns : goal.returns
returns c =
    let q = c.circuit.ensures in
    budgets_taken c.in_ok-extent.ensures _ (mode_known c.if-mode-gt1.false) (rw (q.kinds, q.times, q.from, q.to, c.bases.ensures) at c.budget_on.ensures)
