use Rattle.std.proofs.Common.{length}
use Rattle.segments.specs.Timed.{after_in}
use Rattle.segments.specs.Walk.{Onward}
use Rattle.segments.proofs.steps.Timed.walk_on.Given as goal

abbrev pub invariant-loop-e : goal.invariant-loop-e
invariant-loop-e l =
    Onward (after_in l.self) (length l.self.delays.now) l.p l.fn.seg l.seg l.e
