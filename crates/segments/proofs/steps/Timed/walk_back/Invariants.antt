use Rattle.std.proofs.Common.{length}
use Rattle.segments.specs.Timed.{before_in}
use Rattle.segments.specs.Walk.{Backing}
use Rattle.segments.proofs.steps.Timed.walk_back.Given as goal

abbrev pub invariant-loop-q : goal.invariant-loop-q
invariant-loop-q l =
    Backing (before_in l.self l.served) (length l.self.delays.now) l.p l.e l.fn.seg l.seg l.q
