-- What `to_be_bytes` gives are the bytes that `put_at` puts.
use Rattle.std.proofs.Common.{◌≡◌, ℕ, zero, suc, ◌+◌, ◌≤◌, ◌/◌, ◌%◌, ◌^◌, List, [], ◌∷◌, ◌++◌, length, take, drop, append_assoc, pow-suc, sym, ap, ◌∙◌, refl, arith, length-drop, length-take-le, take-append-drop}
use Rattle.std.proofs.Math.Nat.{div-div-eq-div-mul}
use Rattle.std.specs.Int.{bytes_high_first, byte_at}
use borrow.Rule.Slice.PartMut.{put_mid}
use Rattle.whole.specs.Bytes.{bytes_of, put_at, put_after}

byte_above : (k x : ℕ) → byte_at (suc k) x ≡ byte_at k (x / 256)
byte_above zero x = refl
byte_above (suc k) x = ap (λ m. x / m % 256) (omega (arith, pow-suc 256 (suc k))) ∙ ap (λ m. m % 256) (sym (div-div-eq-div-mul x 256 (256 ^ suc k)))

last_byte : (k x : ℕ) → bytes_high_first (suc k) x ≡ bytes_high_first k (x / 256) ++ (x % 256 ∷ [])
last_byte zero x = refl
last_byte (suc k) x = rw (byte_above k x, last_byte k x) refl

pub high_first : (k x : ℕ) → bytes_high_first k x ≡ bytes_of k x
unfolding bytes_of
high_first zero x = refl
high_first (suc k) x = last_byte k x ∙ ap (λ l. l ++ (x % 256 ∷ [])) (high_first k (x / 256))

-- after a write of those bytes to the n places of d from i on
pub put_high_first : (k n : ℕ) (d ys : List ℕ) (i x : ℕ) → n ≡ k → i + k ≤ length d → ys ≡ bytes_high_first k x → put_mid i n d ys ≡ put_at k d i x
put_high_first k n d ys i x e h g =
    let start = length-take-le i d (omega arith) in
    rw (e, g, high_first k x, ← append_assoc (take i d) (bytes_of k x) (drop k (drop i d)))
    (sym (put_after k (take i d) (drop i d) i x start (rw length-drop (omega arith))) ∙ ap (λ l. put_at k l i x) (take-append-drop i d))
