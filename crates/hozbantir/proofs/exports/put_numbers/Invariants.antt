use Rattle.hozbantir.specs.Spreading.{Puts}
use Rattle.hozbantir.proofs.exports.put_numbers.Given as goal

abbrev pub invariant-loop-i : goal.invariant-loop-i
invariant-loop-i g l = Puts (λ i x. goal.F-post g l.number i x) l.i l.initial.bytes l.bytes
