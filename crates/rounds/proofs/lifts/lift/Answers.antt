use Rattle.std.proofs.Common.{sym, ◌∙◌, pos, arith}
use Rattle.std.proofs.lemmas.Int.{to_z-of_z}
use Rattle.whole.specs.Fill.{filling_next, filling_starts}
use Rattle.circuit.proofs.DescentLaws.{length-lifted, lifted_at}
use Rattle.rounds.proofs.lifts.lift.Goals as goal

pub loop-x-init : goal.loop-x-init
loop-x-init c = filling_starts (length-lifted _ _ _ ∙ sym c.requires.0)

pub loop-x-preserved : goal.loop-x-preserved
loop-x-preserved c = filling_next (pos 0) c.loop-x.invariant (rw length-lifted (omega (arith, c.loop-x-test.true))) (grind (arith, to_z-of_z, lifted_at))
