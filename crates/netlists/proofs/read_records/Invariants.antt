use Rattle.std.proofs.Common.{length, ◌-◌}
use Rattle.netlists.specs.ReadLaws.{Reading}
use Rattle.netlists.proofs.read_records.Given as goal

abbrev pub invariant-loop : goal.invariant-loop
invariant-loop l = Reading l.s (length l.s - l.counter) l.st l.decoded
