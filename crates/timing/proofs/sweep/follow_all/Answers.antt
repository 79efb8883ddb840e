use Rattle.std.proofs.Common.{arith}
use Rattle.timing.specs.Bounds.{sweeping_bounded}
use Rattle.timing.specs.Sweep.{sweeping_starts, sweeping_next}
use Rattle.timing.proofs.sweep.follow_all.Goals as goal

pub loop-k-init : goal.loop-k-init
loop-k-init g c = sweeping_starts

pub follow-requires-clause-bounded : goal.follow-requires-clause-bounded
follow-requires-clause-bounded g c =
    let r = c.requires in
    let m = g.met.D.Direction.mild c.args.circuit.from.now c.args.circuit.to.now c.args.d.now r.bounded.1 in
    (sweeping_bounded c.loop-k.invariant m (omega (arith, r.wired.0.few)) r.bounded.0, r.bounded.1)

pub loop-k-preserved : goal.loop-k-preserved
loop-k-preserved g c = sweeping_next c.loop-k.invariant (rw (g.met.D.Direction.all _) (omega arith)) c.nth.ensures.is c.follow.ensures
