-- How the exports meet what they send: numbers put one after the other into bytes, and the answer as one number.
use Rattle.std.specs.Prelude.{◌≡◌, refl, List, [], ◌∷◌, ◌++◌, ℕ, suc, ◌+◌, ◌*◌, ◌<◌, ◌≤◌, length, get_or, take, drop}
use Rattle.std.proofs.Common.{sym, ◌∙◌, ap, map, arith, add-one, length-append, length-take-le, append_assoc, append-nil, take-suc, take_all}
use Rattle.whole.specs.Bytes.{bytes_of, put_at, length-bytes}
use Rattle.std.proofs.Math.Decide.{ℕ_discrete}
use Rattle.std.proofs.Math.ListN.{get_or-append}
use Rattle.std.proofs.lemmas.List.{get_or_at, get_or-map, get_or-take, length-map}
use Rattle.std.proofs.lemmas.Grind.{same_number_lists}
use Rattle.results.specs.Writing.{Begun, begun_none, begun_put}
use Rattle.hozbantir.specs.Exports.{spread}

module _ {A : Type 0} (f : A → ℕ) where
  spread_append : (xs ys : List A) → spread f (xs ++ ys) ≡ spread f xs ++ spread f ys
  unfolding spread
  spread_append [] ys = refl
  spread_append (x ∷ xs) ys = rw (spread_append xs ys, append_assoc)

  pub length-spread : (xs : List A) → length (spread f xs) ≡ 4 * length xs
  unfolding spread
  length-spread [] = refl
  length-spread (x ∷ xs) = rw (length-append (bytes_of 4 (f x)) (spread f xs), length-bytes 4 (f x), length-spread xs) (omega arith)

  spread_next : (xs : List A) (i : ℕ) (d : A) → i < length xs → spread f (take (suc i) xs) ≡ spread f (take i xs) ++ bytes_of 4 (f (get_or xs i d))
  unfolding spread
  spread_next xs i d h = rw (take-suc xs i d h, spread_append (take i xs) (get_or xs i d ∷ []), append-nil (bytes_of 4 (f (get_or xs i d))))

  -- bytes with the numbers of xs at their front
  abbrev pub laid : List A → List ℕ → List ℕ
  laid xs old = spread f xs ++ drop (4 * length xs) old

  -- the first i numbers of xs stand in buf
  pub record Spreading (xs : List A) (old : List ℕ) (i : ℕ) (buf : List ℕ) : Type 0 where
    pub begun : Begun (spread f (take i xs)) old (4 * i) buf

  module _ {xs : List A} {old : List ℕ} where
    pub spreading_starts : Spreading xs old 0 old
    unfolding spread
    spreading_starts = record { begun = begun_none }

    pub spreading_next : {i : ℕ} {x : A} {buf after : List ℕ} (d : A) → Spreading xs old i buf → i < length xs → 4 * length xs ≤ length old → x ≡ get_or xs i d → after ≡ put_at 4 buf (4 * i) (f x) → Spreading xs old (i + 1) after
    spreading_next {i} d s h k z e =
        let n : 4 * i + 4 ≡ 4 * suc i = omega arith in
        record { begun = rw (add-one i, spread_next xs i d h) (rw n at (begun_put 4 (f (get_or xs i d)) s.begun (omega arith) (rw z at e))) }

    pub spreading_ends : {i : ℕ} {buf : List ℕ} → Spreading xs old i buf → i ≡ length xs → buf ≡ laid xs old
    spreading_ends s e = rw (e, take_all (length xs) xs (omega arith)) at s.begun.is

-- ---- numbers that are worked out one by one, by places

-- in the first n places, numbers of which P holds by their places, four bytes to each, where `old` was
pub record Puts (P : ℕ → ℕ → Type 0) (n : ℕ) (old new : List ℕ) : Type 0 where
  pub numbers : List ℕ
  pub all : length numbers ≡ n
  pub each : (i : ℕ) → i < n → P i (get_or numbers i 0)
  pub begun : Begun (spread (λ x. x) numbers) old (4 * n) new

module _ {P : ℕ → ℕ → Type 0} {old : List ℕ} where
  pub puts_none : Puts P 0 old old
  unfolding spread
  puts_none = record { numbers = []; all = refl; each = λ i h. absurd (omega arith); begun = begun_none }

  pub puts_next : {n x : ℕ} {buf after : List ℕ} → Puts P n old buf → P n x → 4 * n + 4 ≤ length old → after ≡ put_at 4 buf (4 * n) x → Puts P (n + 1) old after
  unfolding spread
  puts_next {n} {x} p h fits e =
      let k : 4 * n + 4 ≡ 4 * (n + 1) = omega arith in
      record {
        numbers = p.numbers ++ (x ∷ []);
        all = rw (length-append p.numbers (x ∷ []), p.all) refl;
        each = λ i l. by i l (ℕ_discrete i n);
        begun = rw (spread_append (λ y. y) p.numbers (x ∷ []), append-nil (bytes_of 4 x)) (rw k at (begun_put 4 x p.begun fits e));
      }
    where
      by : (i : ℕ) → i < n + 1 → Dec (i ≡ n) → P i (get_or (p.numbers ++ (x ∷ [])) i 0)
      by i l (yes q) = rw (q, get_or_at p.numbers x [] 0 n p.all) h
      by i l (no q) = rw (get_or-append p.numbers (x ∷ []) 0 i (rw p.all (omega arith))) (p.each i (omega arith))

-- so what P determines is laid there
module _ {A : Type 0} (f : A → ℕ) where
  spread-map : (ys : List A) → spread (λ x. x) (map f ys) ≡ spread f ys
  unfolding spread
  spread-map [] = refl
  spread-map (y ∷ ys) = rw (spread-map ys)

  -- the numbers that P determines by ys are spread there, so many of them as there are
  pub puts_spread : (d : A) {P : ℕ → ℕ → Type 0} {n : ℕ} {old new : List ℕ} (ys : List A) → Puts P n old new → n ≤ length ys → ((i x : ℕ) → i < n → P i x → x ≡ f (get_or ys i d)) → Spreading f ys old n new
  puts_spread d {n} {old} ys p fits only =
      let front : length (take n ys) ≡ n = length-take-le n ys fits in
      let same : p.numbers ≡ map f (take n ys) =
      same_number_lists p.numbers (map f (take n ys)) (p.all ∙ sym front ∙ sym (length-map (take n ys) f))
      (λ i h. let l : i < n = rw p.all at h in only i (get_or p.numbers i 0) l (p.each i l) ∙ sym (get_or-map f (take n ys) i d 0 (rw front l) ∙ ap f (get_or-take n ys i d l))) in
      record { begun = rw (← spread-map (take n ys), ← same) p.begun }

  -- and where that is all, they are laid there
  pub puts_laid : (d : A) {P : ℕ → ℕ → Type 0} {n : ℕ} {old new : List ℕ} (ys : List A) → Puts P n old new → length ys ≡ n → ((i x : ℕ) → i < n → P i x → x ≡ f (get_or ys i d)) → new ≡ laid f ys old
  puts_laid d ys p e only = spreading_ends f (puts_spread d ys p (omega arith) only) (sym e)
