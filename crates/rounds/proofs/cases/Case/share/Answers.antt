use Rattle.std.proofs.Common.{true, false, sym, ◌∙◌, arith}
use Rattle.rounds.specs.Sharing.{descending_ends, descending_next, descending_starts}
use Rattle.rounds.proofs.cases.Case.share.Goals as goal

pub loop-k-init : goal.loop-k-init
loop-k-init c = descending_starts

pub loop-k-preserved-then-fits : goal.loop-k-preserved-then-fits
loop-k-preserved-then-fits c = descending_next c.loop-k.invariant c.loop-k-test.true true (sym c.fits.ensures ∙ c.if-fits.true)

pub loop-k-preserved : goal.loop-k-preserved
loop-k-preserved c = descending_next c.loop-k.invariant c.loop-k-test.true false (sym c.fits.ensures ∙ c.if-fits.false)

pub returns : goal.returns
returns c = descending_ends (omega (arith, c.loop-k-test.false)) c.loop-k.invariant
