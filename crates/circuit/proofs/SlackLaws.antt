-- Lemmas 1 and 2 of 001: the least path slack through a component is its slack. And in time, said of paths, of outputs and of all components.
use Rattle.std.specs.Prelude.{◌≡◌, refl, ◌↔◌, ℤ, pos, ◌+ℤ◌, ◌-ℤ◌, ◌≤ℤ◌, ℕ, zero, suc, ◌+◌, ◌<◌}
use Rattle.std.proofs.Common.{inl, inr, ⊎_elim, arith}
use mathlib.Core.List.Memᴰ
use Rattle.whole.specs.Whole.{whole, sum, diff}
use Rattle.circuit.specs.Circuit.{Net, Circuit, begin, into, To, start, then, From, stop, on, reach, due, On, Path, path_slack, InTime, LeastThrough, slack, Arrives, Needed, Timed, Ranked}

-- A way to x and a way on from x make a path, whose slack is what the two leave.
pub join : {n : Net} {x : ℕ} → To n x → From n x → Path n
join p (stop {x} e) = record { last = x; way = p; ends = e }
join p (on w q) = join (then p w) q

pub join_slack : (c : Circuit) (d : ℕ → ℤ) {x : ℕ} (p : To c.net x) (q : From c.net x) → path_slack c d (join p q) ≡ due c d q -ℤ reach c d p
unfolding join reach due
join_slack c d p (stop e) = refl
join_slack c d p (on {x} {y} w q) =
    let i = into c d x y in
    omega (whole, join_slack c d (then p w) q, sum (reach c d p) i, diff (due c d q) i, diff (due c d q) (reach c d p +ℤ i), diff (due c d q -ℤ i) (reach c d p))

pub join_on : {n : Net} {v x : ℕ} (p : To n x) (q : From n x) → On v p → On v (join p q).way
unfolding join
join_on p (stop e) h = h
join_on p (on w q) h = join_on (then p w) q (Memᴰ.tail h)

-- v is a stop of the way to v
pub on_last : {n : Net} {v : ℕ} (p : To n v) → On v p
on_last (start s) = Memᴰ.head refl
on_last (then p w) = Memᴰ.head refl

module _ {c : Circuit} {d a r : ℕ → ℤ} (t : Timed c d a r) where
  pub reach_le : {x : ℕ} (p : To c.net x) → reach c d p ≤ℤ a x
  unfolding reach
  reach_le (start s) = t.offered s
  reach_le (then {x} {y} p w) = omega (whole, t.carried w, reach_le p, sum (reach c d p) (into c d x y), sum (a x) (into c d x y))

  pub due_le : {x : ℕ} (q : From c.net x) → r x ≤ℤ due c d q
  unfolding due
  due_le (stop e) = t.allowed e
  due_le (on {x} {y} w q) = omega (whole, t.asked w, due_le q, diff (due c d q) (into c d x y), diff (r y) (into c d x y))

  -- Lemma 1, for a way that may go on
  last_slack : {y : ℕ} (p : To c.net y) → (r y -ℤ a y) ≤ℤ (r y -ℤ reach c d p)
  last_slack {y} p = omega (whole, reach_le p, diff (r y) (a y), diff (r y) (reach c d p))

  on_slack : {v y : ℕ} (p : To c.net y) → On v p → (r v -ℤ a v) ≤ℤ (r y -ℤ reach c d p)
  unfolding reach
  on_slack {v = v} (start s) (Memᴰ.tail h) = elim h [ ]
  on_slack (start s) (Memᴰ.head e) = rw e (last_slack (start s))
  on_slack (then p w) (Memᴰ.head e) = rw e (last_slack (then p w))
  on_slack (then {x} {y} p w) (Memᴰ.tail h) =
      let i = into c d x y in
      omega (whole, on_slack p h, t.asked w, sum (reach c d p) i, diff (r y) i, diff (r x) (reach c d p), diff (r y) (reach c d p +ℤ i))

  pub lemma1 : {v : ℕ} (p : Path c.net) → On v p.way → (r v -ℤ a v) ≤ℤ path_slack c d p
  lemma1 {v} p h =
      omega (whole, on_slack p.way h, t.allowed p.ends, diff (r p.last) (reach c d p.way), diff (c.time p.last) (reach c d p.way))

  pub ends→in_time : ((x : ℕ) → c.net.Ends x → pos 0 ≤ℤ slack a r x) → InTime c d
  ends→in_time safe p = omega (whole, safe p.last p.ends, lemma1 p (on_last p.way))

  -- Where no wire enters a start and none leaves an end, the times are said by cases: these, and `carried`, `arrives`, `asked`, `needed` at the rest.
  pub start_arrival : {x : ℕ} → ((z : ℕ) → c.net.Wire z x → ⊥) → c.net.Part x → a x ≡ begin c d x
  start_arrival quiet h = ⊎_elim (λ s. s.1) (λ s. absurd (quiet s.0 s.1)) (t.arrives h)

  pub end_required : {x : ℕ} → ((z : ℕ) → c.net.Wire x z → ⊥) → c.net.Part x → r x ≡ c.time x
  end_required quiet h = ⊎_elim (λ s. s.1) (λ s. absurd (quiet s.0 s.1)) (t.needed h)

  module _ (k : Ranked c.net) where
    -- a way that takes as long as the arrival says, by recursion on a bound on the rank
    latest : (n : ℕ) {x : ℕ} → c.net.Part x → k.rank x < n → (p : To c.net x) × (reach c d p ≡ a x)
    unfolding reach
    latest zero h l = absurd (omega arith)
    latest (suc n) {x} h l = go (λ z part less. latest n {x = z} part less) (t.arrives h)
      where
        go : ((z : ℕ) → c.net.Part z → k.rank z < n → (p : To c.net z) × (reach c d p ≡ a z)) → Arrives c d a x → (p : To c.net x) × (reach c d p ≡ a x)
        go f (inl s) = (start s.0, omega (whole, s.1))
        go f (inr s) =
            let q = f s.0 (k.from_part s.1) (omega (arith, k.rises s.1)) in
            (then q.0 s.1, omega (whole, q.1, s.2, sum (reach c d q.0) (into c d s.0 x), sum (a s.0) (into c d s.0 x)))

    -- a way on that is as short of time as the required time says
    tightest : (n : ℕ) {x : ℕ} → c.net.Part x → k.top < k.rank x + n → (q : From c.net x) × (due c d q ≡ r x)
    unfolding due
    tightest zero h l = absurd (omega (arith, k.below h))
    tightest (suc n) {x} h l = go (λ z part less. tightest n {x = z} part less) (t.needed h)
      where
        go : ((z : ℕ) → c.net.Part z → k.top < k.rank z + n → (q : From c.net z) × (due c d q ≡ r z)) → Needed c d r x → (q : From c.net x) × (due c d q ≡ r x)
        go f (inl s) = (stop s.0, omega (whole, s.1))
        go f (inr s) =
            let q = f s.0 (k.to_part s.1) (omega (arith, k.rises s.1)) in
            (on s.1 q.0, omega (whole, q.1, s.2, diff (due c d q.0) (into c d x s.0), diff (r s.0) (into c d x s.0)))

    pub last_way : {x : ℕ} → c.net.Part x → (p : To c.net x) × (reach c d p ≡ a x)
    last_way {x} h = latest (suc (k.rank x)) h (omega arith)

    pub first_way : {x : ℕ} → c.net.Part x → (q : From c.net x) × (due c d q ≡ r x)
    first_way {x} h = tightest (suc k.top) h (omega arith)

    pub lemma2 : {x : ℕ} → c.net.Part x → (p : Path c.net) × On x p.way × (path_slack c d p ≡ r x -ℤ a x)
    lemma2 {x} h =
        let (p, e) = last_way h in
        let (q, f) = first_way h in
        (join p q, join_on p q (on_last p), omega (whole, join_slack c d p q, e, f, diff (r x) (a x), diff (due c d q) (reach c d p)))

    -- a component's slack is the least path slack through it
    pub least_through : {x : ℕ} → c.net.Part x → LeastThrough c d x (slack a r x)
    least_through h = record { none_less = λ p m. lemma1 p m; attained = lemma2 h }

    -- in time, said of paths, of every component and of the outputs, is one thing
    pub in_time→slack : InTime c d → {x : ℕ} → c.net.Part x → pos 0 ≤ℤ slack a r x
    in_time→slack safe h = let (p, _, e) = lemma2 h in omega (whole, safe p, e)

    module _ (ends_part : (x : ℕ) → c.net.Ends x → c.net.Part x) where
      pub in_time_parts : InTime c d ↔ ((x : ℕ) → c.net.Part x → pos 0 ≤ℤ slack a r x)
      in_time_parts = (λ safe x h. in_time→slack safe h, λ safe. ends→in_time (λ x e. safe x (ends_part x e)))

      pub in_time_ends : InTime c d ↔ ((x : ℕ) → c.net.Ends x → pos 0 ≤ℤ slack a r x)
      in_time_ends = (λ safe x e. in_time→slack safe (ends_part x e), λ safe. ends→in_time safe)
