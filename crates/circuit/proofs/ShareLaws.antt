-- The share: what it bounds, and that nothing in time gives every picked component more.
use Rattle.std.specs.Prelude.{◌≡◌, ◌⊎◌, Bool, true, false, cond, ◌&&◌, ℕ, suc, ◌≤◌, ◌<◌, leb, ℤ, pos, ◌+ℤ◌, ◌≤ℤ◌}
use Rattle.std.proofs.Common.{inl, inr, arith, leb-true, leb-false}
use Rattle.std.proofs.lemmas.Bool.{and_parts, cond_both}
use Rattle.whole.specs.Whole.{whole, sum}
use Rattle.circuit.specs.Circuit.{Circuit, Ranked, Served, Timed, InTime, slack, gift, add, lift, Share}
use Rattle.circuit.proofs.ListLaws.{some_or_none}
use Rattle.circuit.proofs.DelayLaws.{◌⊑◌, in_time_mono, Gift, gift_cases}
use Rattle.circuit.proofs.GiftLaws.{corollary1}

-- delays that give each picked component t at least, and none less than it had, are no less than `lift`
pub lift_least : (who : ℕ → Bool) (t : ℕ) {d d' : ℕ → ℤ} → ((x : ℕ) → who x ≡ true → (d x +ℤ pos t) ≤ℤ d' x) → d ⊑ d' → lift who t d ⊑ d'
lift_least who t {d} {d'} h g x = cond_both (who x) t 0 (λ e. (d x +ℤ pos e) ≤ℤ d' x) (h x) (λ e. omega (whole, g x, sum (d x) (pos 0)))

pub lift_more : (who : ℕ → Bool) (t : ℕ) (d : ℕ → ℤ) → d ⊑ lift who t d
lift_more who t d x = omega (whole, sum (d x) (pos (cond (who x) t 0)))

pub lift_at : (who : ℕ → Bool) (t : ℕ) (d : ℕ → ℤ) (x : ℕ) → who x ≡ true → lift who t d x ≡ d x +ℤ pos t
lift_at who t d x h = rw h

pub lift_mono : (who : ℕ → Bool) {t u : ℕ} (d : ℕ → ℤ) → t ≤ u → lift who t d ⊑ lift who u d
lift_mono who {t} {u} d h = lift_least who t (λ x w. omega (whole, lift_at who u d x w, sum (d x) (pos t), sum (d x) (pos u))) (lift_more who u d)

module _ (c : Circuit) (who : ℕ → Bool) (d : ℕ → ℤ) where
  -- what all could take, they could take less of
  pub share_down : {t u : ℕ} → t ≤ u → InTime c (lift who u d) → InTime c (lift who t d)
  share_down h = in_time_mono c (lift_mono who d h)

  pub share_unique : {t u : ℕ} → Share c who d t → Share c who d u → t ≡ u
  share_unique s z = omega (arith, s.largest _ z.fits, z.largest _ s.fits)

  -- in time at t and not at t + 1: t is the share
  pub share_edge : {t : ℕ} → InTime c (lift who t d) → (InTime c (lift who (suc t) d) → ⊥) → Share c who d t
  share_edge {t} safe not_safe = record {
    fits = safe;
    largest = λ u still. let above : t < u → ⊥ = λ l. not_safe (share_down l still) in omega arith;
  }

  -- no assignment that is in time gives every picked component more than the share
  pub share_best : {t : ℕ} → Share c who d t → (m : ℕ) (d' : ℕ → ℤ) → ((x : ℕ) → who x ≡ true → (d x +ℤ pos m) ≤ℤ d' x) → d ⊑ d' → InTime c d' → m ≤ t
  share_best s m d' h g safe = s.largest m (in_time_mono c (lift_least who m h g) safe)

  -- so that one of the picked, who are all below n, gets no more than the share
  pub share_least : {t : ℕ} → Share c who d t → (n : ℕ) → ((x : ℕ) → who x ≡ true → x < n) → (g : ℕ → ℕ) → InTime c (λ x. d x +ℤ pos (g x)) →
      (x : ℕ) × (who x ≡ true) × (g x ≤ t)
  share_least {t} s n all g safe = go (some_or_none (λ x. who x && leb (g x) t) n)
    where
      go : ((x : ℕ) × (x < n) × (who x && leb (g x) t ≡ true)) ⊎ ((x : ℕ) → x < n → who x && leb (g x) t ≡ false) → (x : ℕ) × (who x ≡ true) × (g x ≤ t)
      go (inl f) = let (p, q) = and_parts (who f.0) (leb (g f.0) t) f.2 in (f.0, p, leb-true (g f.0) t q)
      go (inr f) = absurd (omega (arith, share_best s (suc t) (λ x. d x +ℤ pos (g x)) (λ x w. more x w) (λ x. omega (whole, sum (d x) (pos (g x)))) safe))
        where
          more : (x : ℕ) → who x ≡ true → (d x +ℤ pos (suc t)) ≤ℤ (d x +ℤ pos (g x))
          more x w =
              let e = leb-false (g x) t (rw w at (f x (all x w))) in
              omega (whole, sum (d x) (pos (suc t)), sum (d x) (pos (g x)))

-- a picked component's slack bounds what all could take
pub share_bound : {c : Circuit} {d a r : ℕ → ℤ} (who : ℕ → Bool) → Timed c d a r → Ranked c.net → InTime c d → {x : ℕ} → Served c.net x → who x ≡ true → (t : ℕ) → InTime c (lift who t d) → pos t ≤ℤ slack a r x
share_bound {c} {d} who timed k safe {x} served w t still = (corollary1 timed k safe served t).0 (in_time_mono c (λ y. less y (gift_cases x t y)) still)
  where
    full : {y : ℕ} → x ≡ y → cond (who y) t 0 ≡ t
    full {y} e = let v : who y ≡ true = rw e at w in rw v

    less : (y : ℕ) → Gift x t y → add x t d y ≤ℤ lift who t d y
    less y (inl g) = omega (whole, g.1, full g.0, sum (d y) (pos (gift x t y)), sum (d y) (pos (cond (who y) t 0)))
    less y (inr g) = omega (whole, g.1, sum (d y) (pos (gift x t y)), sum (d y) (pos (cond (who y) t 0)))
