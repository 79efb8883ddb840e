use Rattle.std.proofs.Common.{arith, refl}
use Rattle.whole.specs.Pick.{if_no, if_yes}
use Rattle.netlists.proofs.ended.Goals as goal

pub returns-then-st-eq0 : goal.returns-then-st-eq0
returns-then-st-eq0 c = if_yes _ _ (omega arith) refl

pub returns : goal.returns
returns c = if_no _ _ (omega arith) refl
