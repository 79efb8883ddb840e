-- What the rules of a record say.
use Rattle.std.specs.Prelude.{◌≡◌, Bool, true, false, not, ◌&&◌, ◌||◌, ℕ, ◌≤◌, ◌<◌, eqb, ltb, leb, ℤ, pos, negsuc}
use Rattle.std.proofs.Common.{sym, ltb-true, leb-true, eqb-true, eq-eqb}
use Rattle.std.specs.Int.Signed.{lt_z}
use Rattle.std.proofs.lemmas.Bool.{not-true}
use Rattle.whole.specs.Whole.{eq_z, eq_is, whole, lt_false}
use Rattle.whole.specs.Range.{Within}
use Rattle.circuit.proofs.ListLaws.{both, clash}
use Rattle.netlists.specs.Judge.{key, fields_ok, wiring_ok}

-- ---- WIRING

pub record Wire (f t n least : ℕ) : Type 0 where
  pub source : f < n
  pub target : t < n
  pub rises : f < t
  pub late : least ≤ key f t

pub wiring_is : (f t n least : ℕ) → wiring_ok f t n least ≡ true → Wire f t n least
unfolding wiring_ok
wiring_is f t n least h =
    let (a, h₁) = both (ltb f n) (ltb t n && (ltb f t && leb least (key f t))) h in
    let (b, h₂) = both (ltb t n) (ltb f t && leb least (key f t)) h₁ in
    let (c, d) = both (ltb f t) (leb least (key f t)) h₂ in
    record { source = ltb-true f n a; target = ltb-true t n b; rises = ltb-true f t c; late = leb-true least (key f t) d }

-- ---- FIELD

pub record Fields (k d : ℕ) (t : ℤ) : Type 0 where
  pub known : k ≤ 2
  pub most : d ≤ 65535
  pub none : k ≡ 0 → d ≡ 0
  pub inner : k ≡ 1 → t ≡ pos 0
  pub in_range : Within 100000000 t

-- where the first holds, so does the second
if_so : (a b : Bool) → not a || b ≡ true → a ≡ true → b ≡ true
if_so true b h k = h
if_so false b h k = absurd (clash (sym k))

pub fields_is : (k d : ℕ) (t : ℤ) → fields_ok k d t ≡ true → Fields k d t
unfolding fields_ok
fields_is k d t h =
    let low = not (lt_z t (negsuc 99999999)) in
    let high = not (lt_z (pos 100000000) t) in
    let base = not (eqb k 0) || eqb d 0 in
    let time = not (eqb k 1) || eq_z t (pos 0) in
    let (e₁, h₁) = both (leb k 2) (leb d 65535 && (base && (time && (low && high)))) h in
    let (e₂, h₂) = both (leb d 65535) (base && (time && (low && high))) h₁ in
    let (e₃, h₃) = both base (time && (low && high)) h₂ in
    let (e₄, h₄) = both time (low && high) h₃ in
    let (e₅, e₆) = both low high h₄ in
    let l = lt_false t (negsuc 99999999) (not-true (lt_z t (negsuc 99999999)) e₅) in
    let g = lt_false (pos 100000000) t (not-true (lt_z (pos 100000000) t) e₆) in
    record {
      known = leb-true k 2 e₁;
      most = leb-true d 65535 e₂;
      none = λ e. eqb-true d 0 (if_so (eqb k 0) (eqb d 0) e₃ (eq-eqb k 0 e));
      inner = λ e. eq_is t (pos 0) (if_so (eqb k 1) (eq_z t (pos 0)) e₄ (eq-eqb k 1 e));
      in_range = record { upper = omega whole; lower = omega whole };
    }
