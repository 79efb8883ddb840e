use Rattle.hozbantir.proofs.Fair.{reads_fair}
use Rattle.hozbantir.proofs.SendLaws.{leaves_small}
use Rattle.hozbantir.proofs.exports.hozbantir_read_back.Goals as goal

pub code-requires : goal.code-requires
code-requires c = leaves_small (reads_fair _ _ _).small c.read_back_into.ensures
