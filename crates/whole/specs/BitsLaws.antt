-- A signed value of four bytes that is passed on goes through its bits, and comes back: `back` and `via` of Range, for delays, times and slacks.
use Rattle.std.specs.Prelude.{◌≡◌, ◌^◌, ◌<◌, ℤ}
use Rattle.std.proofs.Common.{◌∙◌, to_z, of_z}
use Rattle.std.specs.Int.Signed.{mag}
use Rattle.std.specs.Int.{w32}
use Rattle.std.proofs.lemmas.Int.{to_z-of_z}

pub back32 : (z : ℤ) → mag z < 2 ^ 31 → to_z w32 (of_z w32 z) ≡ z
back32 z h = to_z-of_z w32 z (record { sfits = h })

pub via32 : {x y : ℤ} → mag x < 2 ^ 31 → x ≡ y → to_z w32 (of_z w32 x) ≡ y
via32 {x} h e = back32 x h ∙ e
