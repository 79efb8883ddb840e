use Rattle.std.proofs.Common.{arith}
use Rattle.results.specs.Writing.{bound_put}
use Rattle.results.proofs.put_bound.Goals as goal

pub returns : goal.returns
returns c = bound_put _ _ _ _ _ (omega arith) (omega arith) c.put.ensures c.put-2.ensures c.put-3.ensures c.put-4.ensures c.put-5.ensures
