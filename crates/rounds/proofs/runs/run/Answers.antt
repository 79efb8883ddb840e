use Rattle.std.proofs.Common.{rules}
use Rattle.rounds.specs.Round.{steady}
use Rattle.rounds.specs.Run.{running_falls, running_next, running_starts, running_stops}
use Rattle.rounds.proofs.runs.run.Goals as goal

pub loop-count-init : goal.loop-count-init
loop-count-init c = record { running = running_starts c.requires.1; kept = search rules }

pub round-requires-clause-steady : goal.round-requires-clause-steady
round-requires-clause-steady c = steady c.requires.0 c.loop-count.invariant.running.safe

pub loop-count-smaller : goal.loop-count-smaller
loop-count-smaller c =
    let p = c.requires in
    running_falls p.0 c.loop-count.invariant.running (rw p.2 at c.round.ensures.rounded) c.loop-count-test.true

pub loop-count-preserved : goal.loop-count-preserved
loop-count-preserved c =
    let p = c.requires in
    record { running = running_next p.0 c.loop-count.invariant.running (rw p.2 at c.round.ensures.rounded) c.loop-count-test.true; kept = search rules }

pub returns-clause-run : goal.returns-clause-run
returns-clause-run c =
    let p = c.requires in
    running_stops p.0 c.loop-count.invariant.running (rw p.2 at c.round.ensures.rounded) c.loop-count-test.false
