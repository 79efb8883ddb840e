-- A buffer that is written from its front: what stands there already, and behind it what the buffer held before.
use Rattle.std.specs.Prelude.{◌≡◌, refl, Bool, true, false, cond, List, [], ◌++◌, ℕ, zero, suc, ◌+◌, ◌*◌, ◌-◌, ◌%◌, ◌≤◌, ◌<◌, ℤ, length, get_or, take, drop}
use Rattle.std.proofs.Common.{sym, ap, ◌∙◌, ⊎_elim, append_assoc, append-nil, eq-or-lt_of_le, add-one, length-append, length-drop, take_all, drop-drop, take_at, drop_at, arith}
use Rattle.std.proofs.Math.Seq.{drop-length}
use borrow.Rule.Slice.PartMut.{put_mid, Post-is}
use Rattle.whole.specs.Whole.{up}
use Rattle.whole.specs.Bytes.{bytes_of, put_at, put_after, length-bytes}
use Rattle.circuit.specs.Lists.{at, count}
use Rattle.circuit.specs.Netlist.{marked}
use Rattle.results.specs.declared.Summary.{Summary}
use Rattle.results.specs.Result.{summary_of, bound_of, bound_tag, bounds_of, encode, needed}
use Rattle.results.specs.Columns.{width_at, bound_at}

-- d is p, which is i long, and behind it what old has there
pub record Begun (p old : List ℕ) (i : ℕ) (d : List ℕ) : Type 0 where
  pub long : length p ≡ i
  pub is : d ≡ p ++ drop i old

pub begun_none : {d : List ℕ} → Begun [] d 0 d
begun_none = record { long = refl; is = refl }

-- a number is put behind p
pub begun_put : {p old d e : List ℕ} {i : ℕ} (k x : ℕ) → Begun p old i d → i + k ≤ length old → e ≡ put_at k d i x → Begun (p ++ bytes_of k x) old (i + k) e
begun_put {p} {old} {d} {e} {i} k x b h w = record {
  long = rw (length-append p (bytes_of k x), length-bytes k x) (omega arith);
  is = w ∙ rw (b.is, put_after k p (drop i old) i x b.long (rw length-drop (omega arith)), drop-drop);
}

-- what is left from i on is lent, and comes back with src at its front
pub begun_lent : {p old xs ys : List ℕ} {i n : ℕ} (src : List ℕ) → Begun p old i xs → length src ≡ n → ys ≡ src ++ drop n (take (length xs - i) (drop i xs))
    → Begun (p ++ src) old (i + n) (put_mid i (length xs - i) xs ys)
begun_lent {p} {old} {xs} {ys} {i} {n} src b m w =
    let e = b.is in
    let l : i ≤ length xs = omega (arith, ap length e, length-append p (drop i old)) in
    let front : take i xs ≡ p = rw e (take_at p (drop i old) i b.long) in
    let back : drop i xs ≡ drop i old = rw e (drop_at p (drop i old) i b.long) in
    let all : take (length xs - i) (drop i xs) ≡ drop i xs = take_all (length xs - i) (drop i xs) (omega (arith, length-drop i xs)) in
    record {
      long = rw (length-append p src, m) (omega arith);
      is = rw (Post-is i (length xs) xs l, drop-length, append-nil, w, all, front, back, drop-drop, append_assoc);
    }

-- ---- one record, put field by field

module _ (d : List ℕ) {d₁ d₂ d₃ d₄ d₅ : List ℕ} where
  pub summary_put : (y : Summary) → 10 ≤ length d → d₁ ≡ put_at 1 d 0 16 → d₂ ≡ put_at 2 d₁ 1 7 → d₃ ≡ put_at 1 d₂ 3 y.mode → d₄ ≡ put_at 4 d₃ 4 y.share
      → d₅ ≡ put_at 2 d₄ 8 y.rounds → d₅ ≡ summary_of y ++ drop 10 d
  unfolding summary_of bytes_of
  summary_put y h e₁ e₂ e₃ e₄ e₅ =
      let b₁ = begun_put 1 16 begun_none (omega arith) e₁ in
      let b₂ = begun_put 2 7 b₁ (omega arith) e₂ in
      let b₃ = begun_put 1 y.mode b₂ (omega arith) e₃ in
      let b₄ = begun_put 4 y.share b₃ (omega arith) e₄ in
      (begun_put 2 y.rounds b₄ (omega arith) e₅).is

  pub bound_put : (tag x b i : ℕ) → tag < 256 → 13 ≤ length d → d₁ ≡ put_at 1 d 0 tag → d₂ ≡ put_at 2 d₁ 1 10 → d₃ ≡ put_at 2 d₂ 3 x → d₄ ≡ put_at 4 d₃ 5 b
      → d₅ ≡ put_at 4 d₄ 9 i → d₅ ≡ bound_of tag x b i ++ drop 13 d
  unfolding bound_of bytes_of
  bound_put tag x b i l h e₁ e₂ e₃ e₄ e₅ =
      let same : tag % 256 ≡ tag = omega arith in
      let b₁ = begun_put 1 tag begun_none (omega arith) e₁ in
      let b₂ = begun_put 2 10 b₁ (omega arith) e₂ in
      let b₃ = begun_put 2 x b₂ (omega arith) e₃ in
      let b₄ = begun_put 4 b b₃ (omega arith) e₄ in
      rw same at (begun_put 4 i b₄ (omega arith) e₅).is

-- ---- the bounds, one component after the other

pub length-summary : (y : Summary) → length (summary_of y) ≡ 10
unfolding summary_of bytes_of
length-summary y = refl

pub length-bound : (tag x b i : ℕ) → length (bound_of tag x b i) ≡ 13
unfolding bound_of bytes_of
length-bound tag x b i = refl

pub length-bound_at : (tag : ℕ) (sv : List ℕ) (bases : List ℤ) (incs : List ℕ) (x : ℕ) → length (bound_at tag sv bases incs x) ≡ width_at sv x
length-bound_at tag sv bases incs x = go (marked sv x)
  where
    go : (b : Bool) → length (cond b (bound_of tag x (up (at bases x)) (get_or incs x 0)) []) ≡ cond b 13 0
    go true = length-bound tag x (up (at bases x)) (get_or incs x 0)
    go false = refl

pub count_grows : (f : ℕ → Bool) (m n : ℕ) → m ≤ n → count f m ≤ count f n
unfolding count
count_grows f m zero h = let e : m ≡ 0 = omega arith in rw e (omega arith)
count_grows f m (suc n) h = ⊎_elim (λ e. rw e (omega arith)) (λ l. let r = count_grows f m n (omega arith) in omega arith) (eq-or-lt_of_le h)

pub width_next : (sv : List ℕ) (x : ℕ) → 13 * count (marked sv) (x + 1) ≡ 13 * count (marked sv) x + width_at sv x
unfolding count
width_next sv x = rw add-one (go (marked sv x))
  where
    go : (b : Bool) → 13 * (cond b 1 0 + count (marked sv) x) ≡ 13 * count (marked sv) x + cond b 13 0
    go true = omega arith
    go false = omega arith

pub length-bounds : (tag : ℕ) (sv : List ℕ) (bases : List ℤ) (incs : List ℕ) (n : ℕ) → length (bounds_of tag sv bases incs n) ≡ 13 * count (marked sv) n
unfolding bounds_of count
length-bounds tag sv bases incs zero = refl
length-bounds tag sv bases incs (suc n) =
    rw (length-append (bounds_of tag sv bases incs n) (bound_at tag sv bases incs n), length-bounds tag sv bases incs n, length-bound_at tag sv bases incs n)
    (let w = width_next sv n in sym (rw (add-one n) at w))

-- the components below x are written, `at` bytes in all
pub record Bounding (sv : List ℕ) (bases : List ℤ) (incs old : List ℕ) (x at : ℕ) (buf : List ℕ) : Type 0 where
  pub place : at ≡ 13 * count (marked sv) x
  pub begun : Begun (bounds_of bound_tag sv bases incs x) old at buf

module _ {sv : List ℕ} {bases : List ℤ} {incs old : List ℕ} where
  pub bounding_starts : Bounding sv bases incs old 0 0 old
  unfolding bounds_of count
  bounding_starts = record { place = refl; begun = begun_none }

  pub bounding_next : {x at r : ℕ} {buf ys : List ℕ} → Bounding sv bases incs old x at buf → r ≡ width_at sv x
      → ys ≡ bound_at bound_tag sv bases incs x ++ drop r (take (length buf - at) (drop at buf))
      → Bounding sv bases incs old (x + 1) (at + r) (put_mid at (length buf - at) buf ys)
  unfolding bounds_of
  bounding_next {x} {at} {r} {buf} {ys} b e w = record {
    place = omega (arith, width_next sv x);
    begun = rw (add-one x) (begun_lent (bound_at bound_tag sv bases incs x) b.begun (length-bound_at bound_tag sv bases incs x ∙ sym e) w);
  }

  pub bounding_room : {x at n : ℕ} {buf : List ℕ} → Bounding sv bases incs old x at buf → x < n → 13 * count (marked sv) n ≤ length old → at + width_at sv x ≤ length old
  bounding_room {x} {at} {n} b l h = omega (arith, width_next sv x, count_grows (marked sv) (x + 1) n (omega arith))

  pub bounding_ends : {x at n : ℕ} {buf : List ℕ} → Bounding sv bases incs old x at buf → x ≡ n → buf ≡ bounds_of bound_tag sv bases incs n ++ drop (13 * count (marked sv) n) old
  bounding_ends b e = rw (← e, ← b.place) b.begun.is

-- the whole, after the ten bytes of the summary
pub both_put : {buf ys : List ℕ} (old sv : List ℕ) (bases : List ℤ) (incs : List ℕ) (y : Summary) → buf ≡ summary_of y ++ drop 10 old
    → ys ≡ bounds_of bound_tag sv bases incs (length sv) ++ drop (13 * count (marked sv) (length sv)) (take (length buf - 10) (drop 10 buf))
    → put_mid 10 (length buf - 10) buf ys ≡ encode y sv bases incs ++ drop (needed sv) old
unfolding encode
both_put old sv bases incs y e w =
    let b : Begun (summary_of y) old 10 _ = record { long = length-summary y; is = e } in
    (begun_lent (bounds_of bound_tag sv bases incs (length sv)) b (length-bounds bound_tag sv bases incs (length sv)) w).is

pub length-encode : (y : Summary) (sv : List ℕ) (bases : List ℤ) (incs : List ℕ) → length (encode y sv bases incs) ≡ needed sv
unfolding encode
length-encode y sv bases incs =
    rw (length-append (summary_of y) (bounds_of bound_tag sv bases incs (length sv)), length-summary y, length-bounds bound_tag sv bases incs (length sv))
