use Rattle.std.specs.Prelude.{◌≡◌, true, false}
use Rattle.std.proofs.Common.{rules, tests}
use Rattle.std.proofs.lemmas.Iterator.{first_from_Range}
use Rattle.circuit.specs.Kinds.{byte_of}
use Rattle.circuit.proofs.SeekLaws.{below_found}
use Rattle.netlists.specs.Ends.{fault_at}
use Rattle.netlists.proofs.lowest_fault.Goals as goal

pub returns : goal.returns
unfolding fault_at
returns c =
    let f = fault_at c.args.kinds.now c.args.met.now (byte_of c.args.k) in
    below_found f _ _ (first_from_Range _ _ _ _ (λ x. f x ≡ true) (λ x. f x ≡ false) c.find.ensures.ran (λ x q k. search (rules, tests)) (λ x q k. search (rules, tests)))
