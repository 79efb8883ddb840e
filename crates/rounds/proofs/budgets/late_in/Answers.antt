use Rattle.std.proofs.Common.{◌∙◌}
use Rattle.circuit.specs.Times.{lowest_late}
use Rattle.timing.specs.Bounds.{times_gauged}
use Rattle.circuit.proofs.BelowLaws.{below_is, below_not}
use Rattle.rounds.proofs.budgets.late_in.Goals as goal

pub invariant_of-times : goal.invariant_of-times
invariant_of-times c = let t = c.times_at.ensures in record { gauged = rw (t.arrivals, t.required) (times_gauged c.requires.0) }

pub returns-in-Some : goal.returns-in-Some
unfolding lowest_late
returns-in-Some c = let t = c.times_at.ensures in below_is _ _ (c.in-Some.ensures ∙ rw (t.arrivals, t.required))

pub returns-in-None : goal.returns-in-None
unfolding lowest_late
returns-in-None c = let t = c.times_at.ensures in below_not _ _ (c.in-None.ensures ∙ rw (t.arrivals, t.required))
