use Rattle.std.proofs.Common.{◌∙◌, arith, refl}
use Rattle.whole.proofs.HighFirst.{put_high_first}
use Rattle.whole.proofs.bytes.U32BigEndian.put.Goals as goal

pub returns : goal.returns
returns c = put_high_first 4 _ _ _ _ _ (omega arith) (omega arith) (c.copy_from_slice.ensures.after ∙ rw c.to_be_bytes-word.ensures refl)
