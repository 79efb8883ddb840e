use Rattle.std.proofs.lemmas.Result.{err_from_is_err_and}
use Rattle.std.proofs.Common.{refl, length}
use Rattle.hozbantir.proofs.AnswerLaws.{err_refused, refusal_leaves}
use Rattle.hozbantir.proofs.SlacksLaws.{analysis_refused, clocked_paired, analysis_by}
use Rattle.hozbantir.proofs.analysis.analyse.Goals as goal

pub returns-in_err-n : goal.returns-in_err-n
returns-in_err-n c = let p = err_from_is_err_and c.from_residual.result c.from_residual.ensures.1 in rw (p.1, p.2) (rw (analysis_refused c.in_err-n.ensures (length c.args.slacks.now) (err_refused _)) (refusal_leaves _ _))

pub times_of-requires : goal.times_of-requires
times_of-requires c = clocked_paired c.in_ok-n.ensures refl

pub slacks_in-requires : goal.slacks_in-requires
slacks_in-requires c = let q = c.times_of.ensures in rw (q.0, q.1) (clocked_paired c.in_ok-n.ensures refl).narrow

pub returns : goal.returns
returns c = let q = c.times_of.ensures in rw (analysis_by c.in_ok-n.ensures refl (length c.args.slacks.now)) (rw (q.0, q.1) at c.slacks_in.ensures)
