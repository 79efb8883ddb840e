use Rattle.hozbantir.proofs.Fair.{analysis_fair}
use Rattle.hozbantir.proofs.SendLaws.{leaves_small}
use Rattle.hozbantir.proofs.exports.hozbantir_analyse.Goals as goal

pub code-requires : goal.code-requires
code-requires c = leaves_small (analysis_fair _ _).small c.analyse_into.ensures
