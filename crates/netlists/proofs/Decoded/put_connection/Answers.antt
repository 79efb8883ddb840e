use Rattle.std.proofs.Common.{refl, arith}
use Rattle.netlists.proofs.Taken.{taken}
use Rattle.netlists.proofs.Decoded.put_connection.Goals as goal

pub returns-clause-one : goal.returns-clause-one
returns-clause-one c = record { kinds = refl; bases = refl; times = refl; from = taken _ _ _ (omega arith); to = taken _ _ _ (omega arith) }
