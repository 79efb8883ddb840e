use Rattle.timing.specs.Bounds.{times_gauged}
use Rattle.rounds.specs.Round.{choosable, chose, laid, spendable, round_no, round_yes}
use Rattle.rounds.proofs.turns.round.Goals as goal

pub invariant_of-times : goal.invariant_of-times
invariant_of-times c = let t = c.times_at.ensures in record { gauged = rw (t.arrivals, t.required) (times_gauged c.requires.steady.ready) }

pub choose-requires : goal.choose-requires
choose-requires c = let t = c.times_at.ensures in choosable _ c.requires.steady c.requires.marks (t.arrivals, t.required)

pub spend_at-requires-clause-laid : goal.spend_at-requires-clause-laid
spend_at-requires-clause-laid c = let t = c.times_at.ensures in laid _ c.requires.steady c.requires.marks (t.arrivals, t.required)

pub spend_at-requires-clause-x_in_bounds : goal.spend_at-requires-clause-x_in_bounds
spend_at-requires-clause-x_in_bounds c = let t = c.times_at.ensures in spendable _ c.requires.steady c.requires.marks (t.arrivals, t.required) c.in-Some.ensures c.args.work.now.sized.room_all

pub returns-clause-rounded : goal.returns-clause-rounded
returns-clause-rounded c =
    let t = c.times_at.ensures in
    round_yes _ (t.arrivals, t.required) (chose _ c.requires.steady c.requires.marks (t.arrivals, t.required) c.in-Some.ensures) c.spend_at.ensures

pub returns-in_default-clause-rounded : goal.returns-in_default-clause-rounded
returns-in_default-clause-rounded c =
    let t = c.times_at.ensures in
    round_no (chose _ c.requires.steady c.requires.marks (t.arrivals, t.required) c.in_default.ensures)
