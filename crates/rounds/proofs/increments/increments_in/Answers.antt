use Rattle.std.proofs.Common.{sym, ◌∙◌, arith}
use Rattle.std.proofs.lemmas.Int.{to_z-of_z}
use Rattle.whole.specs.Fill.{filling_next, filling_starts}
use Rattle.rounds.specs.Increments.{length-rises, rise_is}
use Rattle.rounds.proofs.increments.increments_in.Goals as goal

pub loop-x-init : goal.loop-x-init
loop-x-init c = filling_starts (length-rises _ _ ∙ sym c.requires.0)

pub loop-x-preserved : goal.loop-x-preserved
loop-x-preserved c =
    let h = c.loop-x-test.true in
    filling_next 0 c.loop-x.invariant (rw length-rises (omega arith)) (grind (arith, to_z-of_z, rise_is))
