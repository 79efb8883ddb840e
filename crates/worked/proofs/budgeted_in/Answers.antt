-- A budget's result has its summary, and is no longer than the buffer.
use Rattle.std.proofs.Common.{arith, length-take-le, sym}
use Rattle.hozbantir.proofs.BudgetLaws.{budget_counts}
use Rattle.worked.proofs.budgeted_in.Goals as goal

pub slice_bounds-told-end : goal.slice_bounds-told-end
slice_bounds-told-end g c = let part = budget_counts _ _ c.in-Ok.ensures in omega (arith, part.1, c.budget-a.auto.res)

pub slice_bounds-told-end-in-Ok : goal.slice_bounds-told-end-in-Ok
slice_bounds-told-end-in-Ok g c = sym (length-take-le _ _ (slice_bounds-told-end g c))

pub told-requires : goal.told-requires
told-requires g c = let part = budget_counts _ _ c.in-Ok.ensures in omega (arith, part.0, slice_bounds-told-end-in-Ok g c)
