use Rattle.std.proofs.Common.{◌≡◌, length}
use Rattle.results.specs.Writing.{Bounding}
use Rattle.results.proofs.Columns.put_bounds.Given as goal

abbrev pub invariant-loop-x : goal.invariant-loop-x
invariant-loop-x l = (length l.buf ≡ length l.initial.buf) × Bounding l.self.served.now l.self.bases.now l.self.increments.now l.initial.buf l.x l.at l.buf
