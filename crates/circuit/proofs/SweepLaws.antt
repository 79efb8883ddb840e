-- Laws of sweeps, for any way and any choice of the better of two: what a sweep leaves, what it offers, how far it can fall; and of orders:
-- the other way round, and the numbers from s on.
use Rattle.std.specs.Prelude.{◌≡◌, ◌⊎◌, pos, refl, List, [], ◌∷◌, ◌++◌, reverse, ℕ, zero, suc, ◌+◌, ◌<◌, ◌≤◌, ℤ, length}
use Rattle.std.proofs.Common.{sym, ap, ◌∙◌, inr, ⊎_elim, length-set, get_or-set_other, inl, arith, get_or-set_same}
use Rattle.std.proofs.lemmas.Bool.{cases_eq}
use mathlib.Core.List.Memᴰ
use mathlib.Core.List.{reverse-cons, Memᴰ}
use Rattle.std.proofs.Math.Numerals.{unary_clauses}
use Rattle.std.proofs.Math.Decide.{ℕ_discrete}
use Rattle.circuit.specs.Lists.{at, up_from}
use Rattle.circuit.proofs.ListLaws.{from_out}
use Rattle.circuit.specs.Times.{Way, step, sweep, Ordered, none, then}

-- `pick` gives one of two numbers, and the better by R
pub record Chooses (pick : ℤ → ℤ → ℤ) (R : ℤ → ℤ → Type 0) : Type 0 where
  pub same : (x : ℤ) → R x x
  pub chain : {x y z : ℤ} → R x y → R y z → R x z
  pub left : (x y : ℤ) → R x (pick x y)
  pub right : (x y : ℤ) → R y (pick x y)
  pub one : (x y : ℤ) → (pick x y ≡ x) ⊎ (pick x y ≡ y)

-- ---- what a sweep leaves

-- a step keeps how many numbers there are
pub length-step : (v : Way) (j : ℕ) (a : List ℤ) → length (step v j a) ≡ length a
unfolding step
length-step v j a = simp length-set

-- and so does a sweep
pub length-sweep : (v : Way) (w : List ℕ) (a : List ℤ) → length (sweep v w a) ≡ length a
unfolding sweep
length-sweep v [] a = refl
length-sweep v (j ∷ w) a = length-sweep v w (step v j a) ∙ length-step v j a

-- a step along a connection that does not go into x leaves x its number
miss : (v : Way) (j : ℕ) (a : List ℤ) (x : ℕ) → (v.tgt j ≡ x → ⊥) → at (step v j a) x ≡ at a x
unfolding step
miss v j a x h = get_or-set_other a (v.tgt j) x _ (pos 0) (λ e. h (sym e))

-- a number that no connection of w goes into stays
pub untouched : (v : Way) (w : List ℕ) (a : List ℤ) (x : ℕ) → ((k : ℕ) → Memᴰ k w → v.tgt k ≡ x → ⊥) → at (sweep v w a) x ≡ at a x
unfolding sweep
untouched v [] a x h = refl
untouched v (j ∷ w) a x h = untouched v w (step v j a) x (λ k m. h k (Memᴰ.tail m)) ∙ miss v j a x (h j (Memᴰ.head refl))

-- the source of the first connection has its last number already
pub settled : (v : Way) {j : ℕ} {w : List ℕ} (a : List ℤ) → ((k : ℕ) → Memᴰ k (j ∷ w) → v.tgt k ≡ v.src j → ⊥) → at (sweep v w (step v j a)) (v.src j) ≡ at a (v.src j)
settled v {j} {w} a h = untouched v w (step v j a) (v.src j) (λ k m. h k (Memᴰ.tail m)) ∙ miss v j a (v.src j) (h j (Memᴰ.head refl))

-- ---- what it offers

-- the number of y in b is the one that it has in a, or a connection of w offers it
abbrev pub Held : Way → List ℕ → List ℤ → List ℤ → ℕ → Type 0
Held v w a b y = (at b y ≡ at a y) ⊎ ((j : ℕ) × Memᴰ j w × (v.tgt j ≡ y) × (at b y ≡ v.go j (at b (v.src j))))

-- x is past low already, or a connection of w is still to come into it
abbrev pub Coming : Way → (ℤ → ℤ → Type 0) → ℤ → List ℕ → List ℤ → ℕ → Type 0
Coming v R low w a x = R low (at a x) ⊎ ((j : ℕ) × Memᴰ j w × (v.tgt j ≡ x))

module _ (v : Way) (n : ℕ) (inside : (j : ℕ) → v.tgt j < n) where
  -- a step gives the target the better of what it has and what it is offered
  hit : (j : ℕ) (a : List ℤ) → length a ≡ n → at (step v j a) (v.tgt j) ≡ v.pick (at a (v.tgt j)) (v.go j (at a (v.src j)))
  unfolding step
  hit j a l = get_or-set_same a (v.tgt j) _ (pos 0) (omega (arith, inside j))

  module _ (R : ℤ → ℤ → Type 0) (o : Chooses v.pick R) where
    -- no number gets worse by a step
    step_grows : (j : ℕ) (a : List ℤ) → length a ≡ n → (x : ℕ) → R (at a x) (at (step v j a) x)
    step_grows j a l x = ⊎_elim (λ e. rw (← e, hit j a l) (o.left _ _)) (λ e. rw (miss v j a x e) (o.same _)) (cases_eq (v.tgt j) x)

    -- nor by a sweep
    pub grows : (w : List ℕ) (a : List ℤ) → length a ≡ n → (x : ℕ) → R (at a x) (at (sweep v w a) x)
    unfolding sweep
    grows [] a l x = o.same _
    grows (j ∷ w) a l x = o.chain (step_grows j a l x) (grows w (step v j a) (length-step v j a ∙ l) x)

    -- every connection is met: its target is no worse than what it offers
    pub met : (w : List ℕ) (a : List ℤ) → length a ≡ n → Ordered v.src v.tgt w → {j : ℕ} → Memᴰ j w → R (v.go j (at (sweep v w a) (v.src j))) (at (sweep v w a) (v.tgt j))
    unfolding sweep
    met [] a l _ {j = j} x4 = elim x4 [ ]
    met (i ∷ w) a l (then h q) (Memᴰ.head e) =
        rw (e, settled v a h) (o.chain (rw (hit i a l) (o.right _ _)) (grows w (step v i a) (length-step v i a ∙ l) (v.tgt i)))
    met (i ∷ w) a l (then h q) (Memᴰ.tail m) = met w (step v i a) (length-step v i a ∙ l) q m

    -- every number is the one that it started with, or a connection offers it
    pub held : (w : List ℕ) (a : List ℤ) → length a ≡ n → Ordered v.src v.tgt w → (y : ℕ) → Held v w a (sweep v w a) y
    unfolding sweep
    held [] a l q y = inl refl
    held (i ∷ w) a l (then h q) y = from_rest (held w (step v i a) (length-step v i a ∙ l) q y)
      where
        b : List ℤ
        b = sweep v w (step v i a)

        chosen : v.tgt i ≡ y → at b y ≡ at (step v i a) y → (v.pick (at a (v.tgt i)) (v.go i (at a (v.src i))) ≡ at a (v.tgt i)) ⊎ (v.pick (at a (v.tgt i)) (v.go i (at a (v.src i))) ≡ v.go i (at a (v.src i))) → Held v (i ∷ w) a b y
        chosen t e (inl s) = inl (e ∙ rw (← t) (hit i a l ∙ s))
        chosen t e (inr s) = inr (i, Memᴰ.head refl, t, rw (settled v a h) (e ∙ rw (← t) (hit i a l ∙ s)))

        from_step : Dec (v.tgt i ≡ y) → at b y ≡ at (step v i a) y → Held v (i ∷ w) a b y
        from_step (yes t) e = chosen t e (o.one _ _)
        from_step (no t) e = inl (e ∙ miss v i a y t)

        from_rest : Held v w (step v i a) b y → Held v (i ∷ w) a b y
        from_rest (inl e) = from_step (ℕ_discrete (v.tgt i) y) e
        from_rest (inr m) = inr (m.0, Memᴰ.tail m.1, m.2, m.3)

    -- ---- how far it can fall

    -- the floor may sink with each connection, and a connection carries what is past one floor past the next
    module _ (low : ℕ → ℤ) (sinks : (k : ℕ) → R (low (suc k)) (low k)) (keep : (k j : ℕ) (z : ℤ) → R (low k) z → R (low (suc k)) (v.go j z)) (within : (j : ℕ) → v.src j < n) where
      -- then every number that is past floor k, or has a connection of w to come into it, ends past the floor as many further as w has connections
      pub floored : (k : ℕ) (w : List ℕ) (a : List ℤ) → length a ≡ n → Ordered v.src v.tgt w → ((x : ℕ) → x < n → Coming v R (low k) w a x) → (x : ℕ) → x < n → R (low (k + length w)) (at (sweep v w a) x)
      unfolding sweep
      floored k [] a l q f x b = simp unary_clauses (⊎_elim (λ r. r) (λ (m : (j : ℕ) × Memᴰ j [] × (v.tgt j ≡ x)). absurd (Memᴰ.not-nil m.1)) (f x b))
      floored k (i ∷ w) a l (then h q) f x b =
          let e : k + suc (length w) ≡ suc k + length w = omega arith in
          rw e (floored (suc k) w (step v i a) (length-step v i a ∙ l) q (λ y c. next y (ℕ_discrete (v.tgt i) y) (f y c)) x b)
        where
          source : Coming v R (low k) (i ∷ w) a (v.src i) → R (low k) (at a (v.src i))
          source (inl r) = r
          source (inr m) = absurd (h m.0 m.1 m.2)

          later : {y : ℕ} → (v.tgt i ≡ y → ⊥) → (j : ℕ) → Memᴰ j (i ∷ w) → v.tgt j ≡ y → Coming v R (low (suc k)) w (step v i a) y
          later t j (Memᴰ.head e) s = absurd (t (rw e at s))
          later t j (Memᴰ.tail m) s = inr (j, m, s)

          next : (y : ℕ) → Dec (v.tgt i ≡ y) → Coming v R (low k) (i ∷ w) a y → Coming v R (low (suc k)) w (step v i a) y
          next y (yes e) g = inl (rw (← e, hit i a l) (o.chain (keep k i _ (source (f (v.src i) (within i)))) (o.right _ _)))
          next y (no e) (inl r) = inl (rw (miss v i a y e) (o.chain (sinks k) r))
          next y (no e) (inr m) = later e m.0 m.1 m.2

-- ---- the list the other way round

-- j may follow u where no connection of u, nor j, goes out of j's target
ordered_end : {src tgt : ℕ → ℕ} (u : List ℕ) (j : ℕ) → Ordered src tgt u → ((k : ℕ) → Memᴰ k (j ∷ u) → tgt j ≡ src k → ⊥) → Ordered src tgt (u ++ (j ∷ []))
ordered_end {src} {tgt} [] j none h = then {j = j} (λ k m e. h j (Memᴰ.head refl) (ap tgt (sym (Memᴰ.eq_of_singleton m)) ∙ e)) none
ordered_end {src} {tgt} (i ∷ u) j (then f q) h = then first (ordered_end u j q (λ k m e. h k (up m) e))
  where
    up : {k : ℕ} → Memᴰ k (j ∷ u) → Memᴰ k (j ∷ i ∷ u)
    up (Memᴰ.head e) = Memᴰ.head e
    up (Memᴰ.tail m) = Memᴰ.tail (Memᴰ.tail m)

    first : (k : ℕ) → Memᴰ k (i ∷ u ++ (j ∷ [])) → tgt k ≡ src i → ⊥
    first k m e = ⊎_elim (λ n. f k n e) (λ n. h i (Memᴰ.tail (Memᴰ.head refl)) (ap tgt (sym (Memᴰ.eq_of_singleton n)) ∙ e)) (Memᴰ.append_cases (i ∷ u) m)

-- what is in a list is in it the other way round
pub in_reverse : {j : ℕ} (w : List ℕ) → Memᴰ j w → Memᴰ j (reverse w)
in_reverse {j = j} [] x' = elim x' [ ]
in_reverse (i ∷ w) (Memᴰ.head e) = rw (reverse-cons i w) (Memᴰ.append_right (reverse w) (Memᴰ.head e))
in_reverse (i ∷ w) (Memᴰ.tail m) = rw (reverse-cons i w) (Memᴰ.append_left (i ∷ []) (in_reverse w m))

-- and the converse
pub of_reverse : {j : ℕ} (w : List ℕ) → Memᴰ j (reverse w) → Memᴰ j w
of_reverse {j = j} [] m = elim m [ ]
of_reverse {j} (i ∷ w) m = ⊎_elim (λ n. Memᴰ.tail (of_reverse w n)) (λ n. Memᴰ.head (Memᴰ.eq_of_singleton n)) (Memᴰ.append_cases (reverse w) (rw (reverse-cons i w) at m))

-- what is in order forward is in order backward, source and target changed
pub ordered_back : {src tgt : ℕ → ℕ} (w : List ℕ) → Ordered src tgt w → Ordered tgt src (reverse w)
ordered_back [] none = none
ordered_back {src} {tgt} (j ∷ w) (then h q) = rw (reverse-cons j w) (ordered_end (reverse w) j (ordered_back w q) (λ k m e. h k (back m) (sym e)))
  where
    back : {k : ℕ} → Memᴰ k (j ∷ reverse w) → Memᴰ k (j ∷ w)
    back (Memᴰ.head e) = Memᴰ.head e
    back (Memᴰ.tail m) = Memᴰ.tail (of_reverse w m)

-- ---- the numbers from s on

-- they are in order where each connection goes to a higher number and targets never fall
pub ordered_from : {src tgt : ℕ → ℕ} (s n : ℕ) → ((j : ℕ) → j < s + n → src j < tgt j) → ((j k : ℕ) → j ≤ k → k < s + n → tgt j ≤ tgt k) → Ordered src tgt (up_from s n)
unfolding up_from
ordered_from s zero r o = none
ordered_from s (suc n) r o =
    then (λ k m e. let (p, q) = from_out s (suc n) m in omega (arith, r s (omega arith), o s k p q)) (ordered_from (suc s) n (λ j b. r j (omega arith)) (λ j k p b. o j k p (omega arith)))
