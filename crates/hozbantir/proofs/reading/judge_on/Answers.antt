use Rattle.std.proofs.lemmas.Result.{err_from_is_err_and}
use Rattle.hozbantir.proofs.ReadingLaws.{listened_wrong, listened_right}
use Rattle.hozbantir.proofs.reading.judge_on.Goals as goal

pub returns-in_err-judge_result : goal.returns-in_err-judge_result
returns-in_err-judge_result c = let p = err_from_is_err_and c.from_residual.result c.from_residual.ensures.1 in rw (p.1, p.2) (listened_wrong c.fill_served.ensures c.in_err-judge_result.ensures)

pub returns : goal.returns
returns c = listened_right c.fill_served.ensures c.in_ok-judge_result.ensures
