use Rattle.std.specs.Prelude.{◌≡◌, true, false}
use Rattle.std.proofs.Common.{rules, tests}
use Rattle.std.proofs.lemmas.Iterator.{first_from_Range}
use Rattle.circuit.specs.Times.{late}
use Rattle.circuit.proofs.SeekLaws.{below_found}
use Rattle.timing.proofs.lowest_late.Goals as goal

pub returns : goal.returns
returns c =
    let f = late c.args.kinds.now c.args.times.arrivals.now c.args.times.required.now in
    below_found f _ _ (first_from_Range _ _ _ _ (λ x. f x ≡ true) (λ x. f x ≡ false) c.find.ensures.ran (λ x q k. search (rules, tests)) (λ x q k. search (rules, tests)))
