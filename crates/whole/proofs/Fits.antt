-- What fits a machine number, by differences that omega reads, and numbers that are their bits.
use Rattle.std.specs.Prelude.{◌≡◌, refl, false, ◌+◌, ◌-◌, ◌^◌, max, ◌≤◌, ◌<◌, ℤ, pos, negsuc}
use Rattle.std.proofs.Common.{arith, SFits, to_z, of_z}
use Rattle.std.specs.Int.Signed.{mag, lt_z}
use Rattle.std.specs.Int.{Width, w64, w32}
use Rattle.std.proofs.lemmas.Int.{to_z-of_z}
use Rattle.whole.specs.Whole.{up, down, lt_false}

pub fits64 : {z : ℤ} → (up z < 2 ^ 63 + down z) × (down z ≤ 2 ^ 63 + up z) → SFits w64 z
fits64 {z = pos n} h = record { sfits = omega arith }
fits64 {z = negsuc n} h = record { sfits = omega arith }

pub fits32 : {z : ℤ} → (up z < 2 ^ 31 + down z) × (down z ≤ 2 ^ 31 + up z) → SFits w32 z
fits32 {z = pos n} h = record { sfits = omega arith }
fits32 {z = negsuc n} h = record { sfits = omega arith }

-- what an `SFits` says, for omega
pub mag_is : (z : ℤ) → mag z ≡ max (up z) (down z - 1)
mag_is (pos n) = omega arith
mag_is (negsuc n) = omega arith

-- a number that a test on its bits leaves at or above 0 is its bits, at any width
pub bits_are : (w : Width) (z : ℤ) → SFits w z → lt_z (to_z w (of_z w z)) (pos 0) ≡ false → (to_z w (of_z w z) ≡ pos (of_z w z)) × (of_z w z ≡ up z)
bits_are w (pos n) f h = (to_z-of_z w (pos n) f, refl)
bits_are w (negsuc n) f h = absurd (omega (arith, lt_false (negsuc n) (pos 0) (rw (to_z-of_z w (negsuc n) f) at h)))
