use Rattle.results.specs.Result.{bounds_read}
use Rattle.whole.specs.Fill.{Filling}
use Rattle.results.proofs.Columns.bounds_in.Given as goal

abbrev pub invariant-loop-x : goal.invariant-loop-x
invariant-loop-x l = Filling (bounds_read l.self.served.now l.self.bases.now l.self.increments.now) l.initial.bounds l.bounds l.x
