use Rattle.std.proofs.Common.{sym, ◌∙◌}
use Rattle.circuit.proofs.BudgetLaws.{even_share, plain_share}
use Rattle.rounds.proofs.cases.Case.share_in.Goals as goal

pub returns-then-mode-eq0 : goal.returns-then-mode-eq0
returns-then-mode-eq0 c = sym (plain_share _ _ c.if-mode-eq0.true)

pub returns-else-mode-eq0 : goal.returns-else-mode-eq0
returns-else-mode-eq0 c = c.share.ensures ∙ rw c.requires.marks (sym (even_share _ _ c.if-mode-eq0.false))
