-- What the loops of the walks keep, and that the two walks give the segment.
use Rattle.std.specs.Prelude.{◌≡◌, Some, None, List, [], ◌∷◌, ◌++◌, ℕ, zero, suc, ◌+◌, ◌-◌, ◌*◌, ◌<◌, ◌≤◌, ℤ, length, get_or, set, take, drop}
use Rattle.std.proofs.Common.{refl, sym, ◌∙◌, append_assoc, append-nil, add-one, arith, lt-ltb, le-ltb, length-set, take-suc, take-suc-set, drop_at, drop-set-lt, get_or-set_same, length-take-le}
use Rattle.std.proofs.Math.Seq.{take-set-lt, take-nil, slice, slice-cons}
use Rattle.std.proofs.lemmas.List.{drop-append-le}
use Rattle.circuit.specs.Lists.{below}
use Rattle.circuit.specs.Rounds.{ahead, behind, after, before, segment_of}
use Rattle.circuit.proofs.BelowLaws.{below_is, below_not}

-- s has xs from p up to e
pub record Spans (s : List ℕ) (p e : ℕ) (xs : List ℕ) : Type 0 where
  pub order : p < e
  pub fits : e ≤ length s
  pub is : slice p e s ≡ xs

-- a part as the code lends it
pub cut : (p e : ℕ) (s : List ℕ) → p < e → take (e - p) (drop p s) ≡ slice p e s
cut zero e s h = let q : e - 0 ≡ e = omega arith in rw q
cut (suc p) zero s h = absurd (omega arith)
cut (suc p) (suc e) [] h = take-nil (suc e - suc p)
cut (suc p) (suc e) (x ∷ s) h = let q : suc e - suc p ≡ e - p = omega arith in rw q (cut p e s (omega arith))

-- ---- forward: the walk from p on stands so far up to e, and the room that is left is its fuel

pub record Onward (go : ℕ → ℕ) (n p : ℕ) (s₀ s : List ℕ) (e : ℕ) : Type 0 where
  pub same : length s ≡ length s₀
  pub past : p < e
  pub fits : e ≤ length s
  pub rest : slice p e s ++ ahead go n (length s₀ - e) (get_or s (e - 1) 0) ≡ get_or s₀ p 0 ∷ ahead go n (length s₀ - (p + 1)) (get_or s₀ p 0)

pub onward_starts : {go : ℕ → ℕ} {n p : ℕ} {s : List ℕ} → p < length s → Onward go n p s s (p + 1)
onward_starts {go} {n} {p} {s} h =
    let q : p + 1 - 1 ≡ p = omega arith in
    let t : take (p + 1) s ≡ take p s ++ (get_or s p 0 ∷ []) = rw add-one (take-suc s p 0 h) in
    record { same = refl; past = omega arith; fits = omega arith; rest = rw (t, drop_at (take p s) (get_or s p 0 ∷ []) p (length-take-le p s (omega arith)), q) }

module _ {go : ℕ → ℕ} {n p : ℕ} {s₀ s : List ℕ} {e : ℕ} (o : Onward go n p s₀ s e) where
  yes : (k y : ℕ) → Some y ≡ below n (go (get_or s (e - 1) 0)) → ahead go n (suc k) (get_or s (e - 1) 0) ≡ y ∷ ahead go n k y
  unfolding ahead
  yes k y g = let (q, b) = below_is _ _ g in rw (← q, lt-ltb y n b)

  no : (k : ℕ) → None ≡ below n (go (get_or s (e - 1) 0)) → ahead go n k (get_or s (e - 1) 0) ≡ []
  unfolding ahead
  no zero h = refl
  no (suc k) h = rw (le-ltb (go (get_or s (e - 1) 0)) n (below_not _ _ h))

  pub onward_next : {y : ℕ} → e < length s₀ → Some y ≡ below n (go (get_or s (e - 1) 0)) → Onward go n p s₀ (set s e y) (e + 1)
  onward_next {y} h g =
      let f = o.past in
      let l = o.same in
      let q : e + 1 - 1 ≡ e = omega arith in
      let k : length s₀ - e ≡ suc (length s₀ - (e + 1)) = omega arith in
      let t : slice p (e + 1) (set s e y) ≡ slice p e s ++ (y ∷ []) = rw (add-one, take-suc-set s e y (omega arith)) (drop-append-le p (take e s) (y ∷ []) (rw (length-take-le e s (omega arith)) (omega arith))) in
      let r = rw (k, yes (length s₀ - (e + 1)) y g) at o.rest in
      record { same = simp length-set l; past = omega arith; fits = simp length-set (omega arith); rest = rw (t, q, get_or-set_same s e y 0 (omega arith), append_assoc (slice p e s) (y ∷ []) (ahead go n (length s₀ - (e + 1)) y)) r }

  -- it ends where no component follows, and where no room is left
  pub onward_stops : None ≡ below n (go (get_or s (e - 1) 0)) → Spans s p e (get_or s₀ p 0 ∷ ahead go n (length s₀ - (p + 1)) (get_or s₀ p 0))
  onward_stops h = record { order = o.past; fits = o.fits; is = rw (no (length s₀ - e) h, append-nil) at o.rest }

  pub onward_ends : length s ≤ e → Spans s p (length s) (get_or s₀ p 0 ∷ ahead go n (length s₀ - (p + 1)) (get_or s₀ p 0))
  unfolding ahead
  onward_ends h =
      let l = o.same in
      let q : length s₀ - e ≡ 0 = omega arith in
      let r : e ≡ length s = omega arith in
      let w : Spans s p e (get_or s₀ p 0 ∷ ahead go n (length s₀ - (p + 1)) (get_or s₀ p 0)) = record { order = o.past; fits = o.fits; is = rw (q, append-nil) at o.rest } in
      rw r at w

-- ---- backward: the walk stands so far from p on, and ends at e

pub record Backing (go : ℕ → ℕ) (n p₀ e : ℕ) (s₀ s : List ℕ) (p : ℕ) : Type 0 where
  pub same : length s ≡ length s₀
  pub order : p < e
  pub fits : e ≤ length s
  pub rest : behind go n p (get_or s p 0) (slice p e s) ≡ behind go n p₀ (get_or s₀ p₀ 0) (slice p₀ e s₀)

pub backing_starts : {go : ℕ → ℕ} {n p e : ℕ} {s : List ℕ} → p < e → e ≤ length s → Backing go n p e s s p
backing_starts h l = record { same = refl; order = h; fits = l; rest = refl }

-- a number stored in front of a part
in_front : (p e y : ℕ) (s : List ℕ) → p < e → e ≤ length s → slice p e (set s p y) ≡ y ∷ slice (suc p) e s
in_front p e y s h l =
    rw (slice-cons p e (set s p y) 0 h (simp length-set l), get_or-set_same s p y 0 (omega arith), take-set-lt e s p y h, drop-set-lt (suc p) (take e s) p y (omega arith))

back_step : (go : ℕ → ℕ) (n e p y : ℕ) (s : List ℕ) → suc p < e → e ≤ length s → Some y ≡ below n (go (get_or s (suc p) 0)) → behind go n p (get_or (set s p y) p 0) (slice p e (set s p y)) ≡ behind go n (suc p) (get_or s (suc p) 0) (slice (suc p) e s)
unfolding behind
back_step go n e p y s h l g =
    let (q, b) = below_is _ _ g in
    rw (get_or-set_same s p y 0 (omega arith), in_front p e y s (omega arith) l, ← q, lt-ltb y n b)

pub backing_next : {go : ℕ → ℕ} {n p₀ e : ℕ} {s₀ s : List ℕ} {p y : ℕ} →
    Backing go n p₀ e s₀ s p → 0 < p → Some y ≡ below n (go (get_or s (p - 1 + 1) 0)) → Backing go n p₀ e s₀ (set s (p - 1) y) (p - 1)
backing_next {p = zero} o h g = absurd (omega arith)
backing_next {go} {n} {e = e} {s = s} {p = suc p} {y = y} o h g =
    let q : suc p - 1 ≡ p = omega arith in
    let m = o.same in
    let c = o.order in
    let l = o.fits in
    rw q (record { same = simp length-set m; order = omega arith; fits = simp length-set l; rest = back_step go n e p y s c l (rw (q, add-one) at g) ∙ o.rest })

module _ {go : ℕ → ℕ} {n p₀ e : ℕ} {s₀ s : List ℕ} {p : ℕ} (o : Backing go n p₀ e s₀ s p) where
  stop : (k : ℕ) (l : List ℕ) → None ≡ below n (go (get_or s p 0)) → behind go n k (get_or s p 0) l ≡ l
  unfolding behind
  stop zero l h = refl
  stop (suc k) l h = rw (le-ltb (go (get_or s p 0)) n (below_not _ _ h))

  pub backing_stops : None ≡ below n (go (get_or s p 0)) → Spans s p e (behind go n p₀ (get_or s₀ p₀ 0) (slice p₀ e s₀))
  backing_stops h = record { order = o.order; fits = o.fits; is = sym (stop p (slice p e s) h) ∙ o.rest }

  -- the same of a place said by the one before it, as the loop has it
  pub backing_rests : 0 < p → None ≡ below n (go (get_or s (p - 1 + 1) 0)) → Spans s (p - 1 + 1) e (behind go n p₀ (get_or s₀ p₀ 0) (slice p₀ e s₀))
  backing_rests l h =
      let q : p - 1 + 1 ≡ p = omega arith in
      rw q (backing_stops (rw q at h))

  pub backing_ends : p ≡ 0 → Spans s 0 e (behind go n p₀ (get_or s₀ p₀ 0) (slice p₀ e s₀))
  unfolding behind
  backing_ends h =
      let w : Spans s p e (behind go n p₀ (get_or s₀ p₀ 0) (slice p₀ e s₀)) = record { order = o.order; fits = o.fits; is = by p h ∙ o.rest } in
      rw h at w
    where
      by : (k : ℕ) → k ≡ 0 → slice k e s ≡ behind go n k (get_or s k 0) (slice k e s)
      by k q = rw q

-- ---- x in the middle, the walk on, the walk back: together the segment

first : {s : List ℕ} {p e x : ℕ} {l : List ℕ} → Spans s p e (x ∷ l) → get_or s p 0 ≡ x
first {s} {p} {e} w =
    let f = slice-cons p e s 0 w.order w.fits in
    let g = w.is in
    cc

pub segment_spans : (fs ts sv : List ℕ) (d a r : List ℤ) (x n : ℕ) {p e : ℕ} (s₀ s s' : List ℕ) → length s₀ ≡ 2 * n + 1 → n ≡ length d
    → Spans s n e (get_or (set s₀ n x) n 0 ∷ ahead (after fs ts d a r) n (length (set s₀ n x) - (n + 1)) (get_or (set s₀ n x) n 0))
    → Spans s' p e (behind (before fs ts sv d a r) n n (get_or s n 0) (slice n e s))
    → Spans s' p e (segment_of fs ts sv d a r x)
unfolding segment_of
segment_spans fs ts sv d a r x n s₀ s s' l m f b =
    let k : length s₀ - (n + 1) ≡ n = omega arith in
    let g = rw (get_or-set_same s₀ n x 0 (omega arith), length-set s₀ n x, k) at f in
    rw (first g, g.is, m) at b
