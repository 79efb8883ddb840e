-- A budget's result has its summary, and is no longer than the buffer.
use Rattle.std.proofs.Common.{arith, length-take-le, sym}
use Rattle.hozbantir.proofs.BudgetLaws.{budget_counts}
use Rattle.budget.proofs.show_mode.Goals as goal

pub slice_bounds-listing-end : goal.slice_bounds-listing-end
slice_bounds-listing-end g c = let part = budget_counts _ _ c.in-Ok.ensures in omega (arith, part.1, c.budget.auto.res)

pub slice_bounds-listing-end-in-Ok : goal.slice_bounds-listing-end-in-Ok
slice_bounds-listing-end-in-Ok g c = sym (length-take-le _ _ (slice_bounds-listing-end g c))

pub listing-requires : goal.listing-requires
listing-requires g c = let part = budget_counts _ _ c.in-Ok.ensures in omega (arith, part.0, slice_bounds-listing-end-in-Ok g c)
