use Rattle.std.proofs.Common.{arith}
use Rattle.results.specs.Writing.{summary_put}
use Rattle.results.proofs.Summary.put.Goals as goal

pub returns : goal.returns
returns c = summary_put _ c.args.self (omega arith) c.put.ensures c.put-2.ensures c.put-3.ensures c.put-4.ensures c.put-5.ensures
