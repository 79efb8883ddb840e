use Rattle.records.specs.Record.{record_at}
use Rattle.whole.specs.Pick.{if_no, if_yes}
use Rattle.std.proofs.Common.{arith, refl}
use Rattle.records.proofs.record_at.Goals as goal

pub returns-then-s-at : goal.returns-then-s-at
unfolding record_at
returns-then-s-at c = if_yes _ _ (omega arith) refl

pub returns-then-left-lt3 : goal.returns-then-left-lt3
unfolding record_at
returns-then-left-lt3 c = if_no _ _ (omega arith) (if_yes _ _ (omega arith) refl)

pub returns-then-left-len : goal.returns-then-left-len
unfolding record_at
returns-then-left-len c = if_no _ _ (omega arith) (if_no _ _ (omega arith) (if_yes _ _ (omega arith) refl))

pub returns : goal.returns
unfolding record_at
returns c = if_no _ _ (omega arith) (if_no _ _ (omega arith) (if_no _ _ (omega arith) (rw c.length_at-len.ensures.0 refl)))
