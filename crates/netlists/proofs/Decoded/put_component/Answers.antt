use Rattle.std.proofs.Common.{refl, arith, rules}
use Rattle.netlists.proofs.Taken.{taken}
use Rattle.netlists.proofs.Decoded.put_component.Goals as goal

pub returns-clause-one : goal.returns-clause-one
returns-clause-one c = record { kinds = taken _ _ _ (omega arith); bases = search (rules, taken); times = search (rules, taken); from = refl; to = refl }
