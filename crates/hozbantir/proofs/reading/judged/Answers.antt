use Rattle.std.proofs.lemmas.Result.{err_from_is_err_and}
use Rattle.std.proofs.Common.{◌∙◌, length-take-le}
use Rattle.hozbantir.proofs.TakenLaws.{good_filled}
use Rattle.hozbantir.proofs.ReadingLaws.{both_not, both_heard, listened_front}
use Rattle.hozbantir.proofs.reading.judged.Goals as goal

pub returns-in_err-extent : goal.returns-in_err-extent
returns-in_err-extent c = let p = err_from_is_err_and c.from_residual.result c.from_residual.ensures.1 in rw (p.1, p.2) (both_not _ c.in_err-extent.ensures)

pub circuit-requires : goal.circuit-requires
circuit-requires c = let f = good_filled c.in_ok-extent.ensures in (f.few, f.fewer)

pub judge_on-requires : goal.judge_on-requires
judge_on-requires c = let f = good_filled c.in_ok-extent.ensures in
    let k = c.circuit.ensures.kinds in (
      rw (k, f.parts_are) (length-take-le _ c.read.new.met (rw (c.read.auto.met, c.told-served) f.few)),
      rw (k, f.parts_are, c.bases.ensures) (f.taken.based.all ∙ f.parts_are),
      rw (k, f.parts_are) (length-take-le _ c.args.incs.now (rw c.told-incs f.few)),
      rw (k, f.parts_are) f.few,
    )

pub returns : goal.returns
returns c = let f = good_filled c.in_ok-extent.ensures in
    both_heard _ c.in_ok-extent.ensures
    (listened_front c.read.new.met c.args.incs.now
    (c.judge_on.auto.served ∙ length-take-le _ c.read.new.met (rw (c.read.auto.met, c.told-served) f.few))
    (c.judge_on.auto.incs ∙ length-take-le _ c.args.incs.now (rw c.told-incs f.few))
    (rw (c.circuit.ensures.kinds, c.bases.ensures) at c.judge_on.ensures))
