use Rattle.std.proofs.Common.{rules, tests, refl}
use Rattle.segments.proofs.Firsts.{after_found, range_found}
use Rattle.segments.proofs.steps.Timed.next.Goals as goal

pub returns : goal.returns
returns c = after_found c.args.self.laid _ _ (range_found _ _ _ refl c.find.ensures.ran (λ x b q k. search (rules, tests))) (search rules)
