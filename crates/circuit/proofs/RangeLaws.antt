-- How far the numbers go. Here, and nowhere above, delays are not negative.
use Rattle.std.specs.Prelude.{ℕ, ◌*◌, ℤ, pos, ◌+ℤ◌, ◌-ℤ◌, ◌≤ℤ◌}
use Rattle.std.proofs.Common.{mul-le-mul_left}
use Rattle.std.specs.Int.Signed.{≤ℤ_refl}
use Rattle.whole.specs.Whole.{whole, sum, diff}
use Rattle.circuit.specs.Circuit.{Net, Circuit, begin, into, To, start, then, From, stop, on, reach, due, InTime, Ranked}
use Rattle.circuit.proofs.SlackLaws.{join, join_slack}

-- where a way starts
abbrev pub origin : {n : Net} {x : ℕ} → To n x → ℕ
origin (start {x} s) = x
origin (then p w) = origin p

-- and where a way on stops
abbrev pub finish : {n : Net} {x : ℕ} → From n x → ℕ
finish (stop {x} e) = x
finish (on w q) = finish q

module _ (c : Circuit) (d : ℕ → ℤ) where
  -- A way is no longer than its start and the most that entering adds, once for each step of the rank.
  pub reach_most : (k : Ranked c.net) (h : ℤ) (m : ℕ) → ((x : ℕ) → c.net.Starts x → begin c d x ≤ℤ h) → ((x y : ℕ) → c.net.Wire x y → into c d x y ≤ℤ pos m) →
      {x : ℕ} (p : To c.net x) → reach c d p ≤ℤ (h +ℤ pos (m * k.rank x))
  unfolding reach
  reach_most k h m f g (start {x} s) = omega (whole, f x s, sum h (pos (m * k.rank x)))
  reach_most k h m f g (then {x} {y} p w) =
      omega (whole, reach_most k h m f g p, g x y w, mul-le-mul_left m (k.rises w), sum (reach c d p) (into c d x y), sum h (pos (m * k.rank x)), sum h (pos (m * k.rank y)))

  module _ (positive : (x y : ℕ) → c.net.Wire x y → pos 0 ≤ℤ into c d x y) where
    pub reach_least : {x : ℕ} (p : To c.net x) → begin c d (origin p) ≤ℤ reach c d p
    unfolding reach
    reach_least (start {x} s) = ≤ℤ_refl (begin c d x)
    reach_least (then {x} {y} p w) = omega (whole, reach_least p, positive x y w, sum (reach c d p) (into c d x y))

    due_most : {x : ℕ} (q : From c.net x) → due c d q ≤ℤ c.time (finish q)
    unfolding due
    due_most (stop {x} e) = ≤ℤ_refl (c.time x)
    due_most (on {x} {y} w q) = omega (whole, due_most q, positive x y w, diff (due c d q) (into c d x y))

    -- so in time no entry takes more than there is between the start and the end of any path by it
    pub entry_most : InTime c d → {x y : ℕ} (p : To c.net x) (w : c.net.Wire x y) (q : From c.net y) → into c d x y ≤ℤ (c.time (finish q) -ℤ begin c d (origin p))
    unfolding reach
    entry_most safe {x} {y} p w q =
        let i = into c d x y in
        let b = begin c d (origin p) in
        omega (whole, safe (join (then p w) q), join_slack c d (then p w) q, reach_least p, due_most q, sum (reach c d p) i, diff (due c d q) (reach c d p +ℤ i), diff (c.time (finish q)) b)
