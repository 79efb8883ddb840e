use Rattle.hozbantir.proofs.SendLaws.{leaves_small}
use Rattle.hozbantir.proofs.Fair.{budget_fair}
use Rattle.hozbantir.proofs.exports.hozbantir_budget.Goals as goal

pub code-requires : goal.code-requires
code-requires c = leaves_small (budget_fair _ _ _).small c.budget.ensures
