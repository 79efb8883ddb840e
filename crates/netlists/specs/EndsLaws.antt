-- ENDS: the two halves of its rule, and what it is that no component is faulty.
use Rattle.std.specs.Prelude.{◌≡◌, refl, Bool, true, false, not, ◌&&◌, ◌||◌, List, ℕ, zero, suc, ◌<◌, eqb, length, get_or}
use Rattle.std.proofs.Common.{sym, ◌∙◌, ⊎_elim, arith, eqb-true, eq-eqb, ne_eqb}
use Rattle.std.specs.Bool.{beq}
use Rattle.std.proofs.Math.Bool.{or-true}
use Rattle.std.proofs.lemmas.Bool.{eqb-false}
use Rattle.circuit.specs.Lists.{count}
use Rattle.circuit.proofs.ListLaws.{clash, some_or_none, count_none}
use Rattle.netlists.specs.Judge.{ends, faulty}

-- ---- how many come in

count_zero : (f : ℕ → Bool) (n : ℕ) → ((x : ℕ) → x < n → f x ≡ false) → count f n ≡ 0
unfolding count
count_zero f zero h = refl
count_zero f (suc n) h = rw (h n (omega arith)) (omega (arith, count_zero f n (λ x l. h x (omega arith))))

-- none ends at x, and some does
pub ends_none : (l : List ℕ) (x : ℕ) → ends l x ≡ 0 → (j : ℕ) → j < length l → get_or l j 0 ≡ x → ⊥
unfolding ends
ends_none l x e j h q = clash (sym (eq-eqb (get_or l j 0) x q) ∙ count_none (λ j. eqb (get_or l j 0) x) (length l) (omega arith) j h)

pub ends_some : (l : List ℕ) (x : ℕ) → (ends l x ≡ 0 → ⊥) → (j : ℕ) × (j < length l) × (get_or l j 0 ≡ x)
unfolding ends
ends_some l x n =
    ⊎_elim
    (λ (f : (j : ℕ) × (j < length l) × (eqb (get_or l j 0) x ≡ true)). (f.0, f.1, eqb-true (get_or l f.0 0) x f.2))
    (λ f. absurd (n (count_zero (λ j. eqb (get_or l j 0) x) (length l) f)))
    (some_or_none (λ j. eqb (get_or l j 0) x) (length l))

-- ---- the two halves, by fan-in and by fan-out

-- one half: of the kind and met, or neither
half : (a b : Bool) → (a && not b) || (not a && b) ≡ beq a (not b)
half true true = refl
half true false = refl
half false true = refl
half false false = refl

halves : (p q r s : Bool) → p || (r || (q || s)) ≡ (p || q) || (r || s)
halves true q r s = refl
halves false q true s = sym (or-true q)
halves false q false s = refl

pub faulty_halves : (ks ins outs : List ℕ) (x : ℕ) → faulty ks ins outs x ≡ beq (eqb (get_or ks x 0) 0) (not (eqb (get_or ins x 0) 0)) || beq (eqb (get_or ks x 0) 2) (not (eqb (get_or outs x 0) 0))
unfolding faulty
faulty_halves ks ins outs x =
    let a = eqb (get_or ks x 0) 0 in
    let b = eqb (get_or ins x 0) 0 in
    let c = eqb (get_or ks x 0) 2 in
    let d = eqb (get_or outs x 0) 0 in
    halves (a && not b) (not a && b) (c && not d) (not c && d) ∙ rw (half a b, half c d) refl

-- ---- a component that is not faulty

neither : (p q : Bool) → p || q ≡ false → (p ≡ false) × (q ≡ false)
neither true q h = absurd (clash h)
neither false q h = (refl, h)

agree : (a b : Bool) → beq a (not b) ≡ false → a ≡ b
agree true true h = refl
agree true false h = absurd (clash h)
agree false true h = absurd (clash h)
agree false false h = refl

-- an input has no fan-in and others have, an output has no fan-out and others have
pub record Ended (k i o : ℕ) : Type 0 where
  pub input : k ≡ 0 → i ≡ 0
  pub fed : (k ≡ 0 → ⊥) → i ≡ 0 → ⊥
  pub output : k ≡ 2 → o ≡ 0
  pub feeds : (k ≡ 2 → ⊥) → o ≡ 0 → ⊥

same_test : (a b c d : ℕ) → eqb a b ≡ eqb c d → (a ≡ b → c ≡ d) × ((a ≡ b → ⊥) → c ≡ d → ⊥)
same_test a b c d e = (λ h. eqb-true c d (sym e ∙ eq-eqb a b h), λ h. eqb-false c d (sym e ∙ ne_eqb a b h))

pub not_faulty : (ks ins outs : List ℕ) (x : ℕ) → faulty ks ins outs x ≡ false → Ended (get_or ks x 0) (get_or ins x 0) (get_or outs x 0)
not_faulty ks ins outs x h =
    let (p, q) = neither _ _ (sym (faulty_halves ks ins outs x) ∙ h) in
    let a = same_test (get_or ks x 0) 0 (get_or ins x 0) 0 (agree _ _ p) in
    let b = same_test (get_or ks x 0) 2 (get_or outs x 0) 0 (agree _ _ q) in
    record { input = a.0; fed = a.1; output = b.0; feeds = b.1 }
