use Rattle.std.specs.Prelude.{◌≡◌, refl, true, false, length}
use Rattle.std.proofs.Common.{rules, tests, arith}
use Rattle.std.proofs.lemmas.Iterator.{cases_from_any, YieldsList-from_range}
use Rattle.circuit.specs.Times.{overdue, in_time}
use Rattle.circuit.proofs.SeekLaws.{below_any}
use Rattle.timing.proofs.in_time.Goals as goal

pub returns : goal.returns
unfolding in_time
returns c =
    let f = overdue c.args.circuit.kinds.now c.args.circuit.times.now c.arrivals_in.new.arr in
    rw (← c.arrivals_in.ensures) (below_any f (length c.args.circuit.kinds.now) _ (cases_from_any _ _ _ (λ x. f x ≡ true) (λ x. f x ≡ false) c.any.ensures.ran (YieldsList-from_range 0 _ _ refl (omega arith)) (λ x q k. search (rules, tests)) (λ x q k. search (rules, tests))))
