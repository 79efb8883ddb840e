use Rattle.std.proofs.Common.{length}
use Rattle.timing.specs.Sweep.{Sweeping}
use Rattle.timing.proofs.sweep.follow_all.Given as goal

abbrev pub invariant-loop-k : goal.invariant-loop-k
invariant-loop-k g l =
    Sweeping (g.D.Direction.way l.circuit.from.now l.circuit.to.now l.d) (g.D.Direction.order (length l.circuit.from.now)) l.fn.a l.a l.k
