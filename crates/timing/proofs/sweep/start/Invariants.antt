use Rattle.circuit.specs.Kinds.{byte_of}
use Rattle.circuit.specs.Times.{anchor}
use Rattle.timing.specs.Fill.{Filling}
use Rattle.timing.proofs.sweep.start.Given as goal

abbrev pub invariant-loop-x : goal.invariant-loop-x
invariant-loop-x g l = Filling (anchor l.circuit.kinds.now l.circuit.times.now (byte_of g.D.Direction.START) g.D.Direction.NONE_YET) l.fn.a l.a l.x
