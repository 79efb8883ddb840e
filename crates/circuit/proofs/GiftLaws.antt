-- What gifts of delay do to a way, and Lemma 3 and Corollary 1 of 001.
use Rattle.std.specs.Prelude.{◌≡◌, refl, ◌⊎◌, ◌↔◌, ℕ, ◌+◌, ◌≤◌, pos, ◌+ℤ◌, ◌-ℤ◌, ◌≤ℤ◌, List, [], ◌∷◌, map, ℤ}
use Rattle.std.proofs.Common.{ap, arith, inl, inr, ⊎_elim}
use mathlib.Core.List.Memᴰ
use mathlib.Core.List.{Memᴰ}
use Rattle.std.specs.Int.Signed.{≤ℤ_refl}
use Rattle.whole.specs.Whole.{whole, sum, diff}
use Rattle.circuit.specs.Circuit.{Net, Circuit, into, To, start, then, reach, On, Path, path_slack, InTime, slack, Timed, Ranked, Served, gift, add}
use Rattle.circuit.proofs.SlackLaws.{lemma1, lemma2}
use Rattle.circuit.proofs.DelayLaws.{◌⊑◌, Gift, gift_cases, gift_here, into_mono, into_add, begin_hit, begin_once, reach_mono}

-- ---- one gift

on_rank : {n : Net} (k : Ranked n) {v x : ℕ} (p : To n x) → On v p → k.rank v ≤ k.rank x
on_rank {n = n} k {v = v} (start b) (Memᴰ.tail h) = elim h [ ]
on_rank k (start b) (Memᴰ.head h) = omega (arith, ap k.rank h)
on_rank k (then p w) (Memᴰ.head h) = omega (arith, ap k.rank h)
on_rank k (then p w) (Memᴰ.tail h) = omega (arith, on_rank k p h, k.rises w)

module _ (d : ℕ → ℤ) (s e : ℕ) where
  pub add_more : d ⊑ add s e d
  add_more x = omega (whole, sum (d x) (pos (gift s e x)))

  -- a gift to s makes a way that has s longer by it
  pub hit : (c : Circuit) {x : ℕ} (p : To c.net x) → Served c.net s → On s p → (reach c d p +ℤ pos e) ≤ℤ reach c (add s e d) p
  unfolding reach
  hit c (start b) served (Memᴰ.tail h) = elim h [ ]
  hit c (start b) served (Memᴰ.head h) = begin_hit c d s e b served h
  hit c (then {x} {y} p w) served (Memᴰ.head h) =
      let i = into c d x y in
      let j = into c (add s e d) x y in
      omega (whole, reach_mono c add_more p, into_add c d s e x y, gift_here e h, sum (reach c d p) i, sum (reach c (add s e d) p) j, sum (reach c d p +ℤ i) (pos e), sum i (pos (gift s e y)))
  hit c (then {x} {y} p w) served (Memᴰ.tail h) =
      let i = into c d x y in
      let j = into c (add s e d) x y in
      omega (whole, hit c p served h, into_mono c add_more x y, sum (reach c d p) i, sum (reach c (add s e d) p) j, sum (reach c d p +ℤ i) (pos e), sum (reach c d p) (pos e))

  -- and of those that rise it has s at most once
  module _ (c : Circuit) (k : Ranked c.net) where
    -- a way is left as it was, or has s and is longer by e
    abbrev Effect : {x : ℕ} → To c.net x → Type 0
    Effect p = (reach c (add s e d) p ≡ reach c d p) ⊎ (On s p × (reach c (add s e d) p ≡ reach c d p +ℤ pos e))

    pub once : {x : ℕ} (p : To c.net x) → Effect p
    unfolding reach
    once (start {x} b) = ⊎_elim (λ q. inl q) (λ q. inr (Memᴰ.head q.0, q.1)) (begin_once c d s e x)
    once (then {x} {y} p w) = go (once p) (gift_cases s e y)
      where
        u : ℤ
        u = reach c d p

        u' : ℤ
        u' = reach c (add s e d) p

        i : ℤ
        i = into c d x y

        j : ℤ
        j = into c (add s e d) x y

        more : j ≡ i +ℤ pos (gift s e y)
        more = into_add c d s e x y

        go : Effect p → Gift s e y → Effect (then p w)
        go (inl q) (inl g) = inr (Memᴰ.head g.0, omega (whole, q, g.1, sum u i, more, sum u' j, sum i (pos (gift s e y)), sum (u +ℤ i) (pos e)))
        go (inl q) (inr g) = inl (omega (whole, q, g.1, sum u i, more, sum u' j, sum i (pos (gift s e y))))
        go (inr q) (inl g) = absurd (omega (arith, on_rank k p q.0, k.rises w, ap k.rank g.0))
        go (inr q) (inr g) = inr (Memᴰ.tail q.0, omega (whole, q.1, g.1, sum u i, more, sum u' j, sum i (pos (gift s e y)), sum (u +ℤ i) (pos e), sum u (pos e)))

-- ---- a list of gifts

-- gifts, each to a component, one after the other; what they come to; who receives one
unfoldable pub give : List (ℕ × ℕ) → (ℕ → ℤ) → ℕ → ℤ
give [] d = d
give (g ∷ l) d = give l (add g.0 g.1 d)

unfoldable pub total : List (ℕ × ℕ) → ℕ
total [] = 0
total (g ∷ l) = g.1 + total l

abbrev pub Receives : ℕ → List (ℕ × ℕ) → Type 0
Receives s l = Memᴰ s (map (λ g. g.0) l)

pub give_more : (l : List (ℕ × ℕ)) (d : ℕ → ℤ) → d ⊑ give l d
unfolding give
give_more [] d x = ≤ℤ_refl (d x)
give_more (g ∷ l) d x = omega (whole, add_more d g.0 g.1 x, give_more l (add g.0 g.1 d) x)

-- a way that has all the receivers is longer by the total
pub all_hit : (c : Circuit) {x : ℕ} (p : To c.net x) (l : List (ℕ × ℕ)) (d : ℕ → ℤ) → ((s : ℕ) → Receives s l → Served c.net s × On s p) → (reach c d p +ℤ pos (total l)) ≤ℤ reach c (give l d) p
unfolding give total
all_hit c p [] d h = omega (whole, sum (reach c d p) (pos 0))
all_hit c p (g ∷ l) d h =
    let here = h g.0 (Memᴰ.head refl) in
    let d' = add g.0 g.1 d in
    omega (whole, hit d g.0 g.1 c p here.0 here.1, all_hit c p l d' (λ s m. h s (Memᴰ.tail m)), sum (reach c d p) (pos g.1), sum (reach c d' p) (pos (total l)), sum (reach c d p) (pos (g.1 + total l)))

-- any way is left as it was, or has a receiver and is longer by the total at most
abbrev pub Moved : (c : Circuit) {x : ℕ} → To c.net x → List (ℕ × ℕ) → (ℕ → ℤ) → Type 0
Moved c p l d = (reach c (give l d) p ≡ reach c d p) ⊎ ((s : ℕ) × Receives s l × On s p × (reach c (give l d) p ≤ℤ (reach c d p +ℤ pos (total l))))

pub moved : (c : Circuit) → Ranked c.net → {x : ℕ} (p : To c.net x) (l : List (ℕ × ℕ)) (d : ℕ → ℤ) → Moved c p l d
unfolding give total
moved c k p [] d = inl refl
moved c k p (g ∷ l) d = go (once d g.0 g.1 c k p) (moved c k p l d')
  where
    d' : ℕ → ℤ
    d' = add g.0 g.1 d

    go : (reach c d' p ≡ reach c d p) ⊎ (On g.0 p × (reach c d' p ≡ reach c d p +ℤ pos g.1)) → Moved c p l d' → Moved c p (g ∷ l) d
    go (inl e) (inl f) = inl (omega (whole, e, f))
    go (inl e) (inr m) = inr (m.0, Memᴰ.tail m.1, m.2, omega (whole, e, m.3, sum (reach c d' p) (pos (total l)), sum (reach c d p) (pos (g.1 + total l))))
    go (inr e) (inl f) = inr (g.0, Memᴰ.head refl, e.0, omega (whole, e.1, f, sum (reach c d p) (pos g.1), sum (reach c d p) (pos (g.1 + total l))))
    go (inr e) (inr m) = inr (g.0, Memᴰ.head refl, e.0, omega (whole, e.1, m.3, sum (reach c d p) (pos g.1), sum (reach c d' p) (pos (total l)), sum (reach c d p) (pos (g.1 + total l))))

-- Lemma 3: gifts whose total is within the slack of each receiver leave a circuit in time
pub lemma3 : {c : Circuit} {d a r : ℕ → ℤ} → Timed c d a r → Ranked c.net → InTime c d → (l : List (ℕ × ℕ)) → ((s : ℕ) → Receives s l → pos (total l) ≤ℤ slack a r s) → InTime c (give l d)
lemma3 {c} {d} {a} {r} t k safe l h p = go (moved c k p.way l d)
  where
    go : Moved c p.way l d → pos 0 ≤ℤ path_slack c (give l d) p
    go (inl e) = omega (whole, e, safe p, diff (c.time p.last) (reach c d p.way), diff (c.time p.last) (reach c (give l d) p.way))
    go (inr m) = omega (whole, m.3, h m.0 m.1, lemma1 t p m.2, diff (c.time p.last) (reach c d p.way), diff (c.time p.last) (reach c (give l d) p.way), sum (reach c d p.way) (pos (total l)))

-- e more on a served component leaves some path through it with no more than its slack less e
pub over : {c : Circuit} {d a r : ℕ → ℤ} → Timed c d a r → Ranked c.net → {x : ℕ} → Served c.net x → (e : ℕ) → (p : Path c.net) × (path_slack c (add x e d) p ≤ℤ (slack a r x -ℤ pos e))
over {c} {d} {a} {r} t k {x} served e =
    let (p, has, q) = lemma2 t k served.part in
    let z = c.time p.last in
    (p, omega (whole, q, hit d x e c p.way served has, sum (reach c d p.way) (pos e), diff z (reach c d p.way), diff z (reach c (add x e d) p.way), diff (slack a r x) (pos e)))

-- Corollary 1: what one component alone can be given is its slack
pub corollary1 : {c : Circuit} {d a r : ℕ → ℤ} → Timed c d a r → Ranked c.net → InTime c d → {x : ℕ} → Served c.net x → (e : ℕ) → InTime c (add x e d) ↔ (pos e ≤ℤ slack a r x)
unfolding give total
corollary1 {c} {d} {a} {r} t k safe {x} served e = (only, enough)
  where
    only : InTime c (add x e d) → pos e ≤ℤ slack a r x
    only still = let (p, q) = over t k served e in omega (whole, q, still p, diff (slack a r x) (pos e))

    enough : pos e ≤ℤ slack a r x → InTime c (add x e d)
    enough h = lemma3 t k safe ((x, e) ∷ []) λ s m. rw (Memᴰ.eq_of_singleton m) (omega whole)
