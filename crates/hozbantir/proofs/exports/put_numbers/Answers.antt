use Rattle.hozbantir.specs.Spreading.{puts_none, puts_next}
use Rattle.std.proofs.Common.{arith}
use Rattle.hozbantir.proofs.exports.put_numbers.Goals as goal

pub loop-i-init : goal.loop-i-init
loop-i-init g c = puts_none

pub loop-i-preserved : goal.loop-i-preserved
loop-i-preserved g c = puts_next c.loop-i.invariant c.number.ensures (omega arith) c.put.ensures
