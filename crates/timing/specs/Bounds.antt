-- How far times go, for delays of either sign: no connection takes a time further than by the bound on delays. So what starts within 2^60
-- stays within 2^61 for 4,096 connections, in any order.
use Rattle.std.specs.Prelude.{◌≡◌, refl, Bool, true, false, cond, List, [], ◌∷◌, reverse, ℕ, ◌+◌, ◌*◌, ◌^◌, ◌≤◌, ltb, eqb, ℤ, pos, length, get_or, take}
use Rattle.std.proofs.Common.{arith, ltb-true, ltb-false, length-take}
use Rattle.std.proofs.Math.ListN.{length-reverse, get_or-eq_default}
use Rattle.whole.specs.Range.{Within, within_more, within_sum, within_diff, within_max, within_min, Bounded, bounded_set, bounded_more}
use Rattle.circuit.specs.Lists.{at, tabulate}
use Rattle.circuit.proofs.ListLaws.{length-tabulate, get_or-tabulate}
use Rattle.circuit.specs.Netlist.{Netlist, parts}
use Rattle.circuit.specs.Times.{Way, never, ever, step, sweep, order, anchor, forward, backward, arrivals, requireds}
use Rattle.circuit.proofs.TimesLaws.{length-order, length-arrivals, length-requireds}
use Rattle.timing.specs.Ready.{Ready, Gauged}
use Rattle.timing.specs.Sweep.{Sweeping}

-- ---- along connections

-- no connection of the way takes a time further than by 2^29, and neither does the choice
pub record Mild (v : Way) : Type 0 where
  pub go : {m : ℕ} {z : ℤ} (j : ℕ) → Within m z → Within (m + 2 ^ 29) (v.go j z)
  pub pick : {m : ℕ} {x y : ℤ} → Within m x → Within m y → Within m (v.pick x y)

pub forward_mild : {d : List ℤ} (fs ts : List ℕ) → Bounded (2 ^ 29) d → Mild (forward fs ts d)
forward_mild fs ts b = record { go = λ j w. within_sum w (b.at _); pick = within_max }

pub backward_mild : {d : List ℤ} (fs ts : List ℕ) → Bounded (2 ^ 29) d → Mild (backward fs ts d)
backward_mild fs ts b = record { go = λ j w. within_diff w (b.at _); pick = within_min }

-- so a step takes none further than by 2^29
step_bounded : {v : Way} {m : ℕ} {a : List ℤ} (j : ℕ) → Mild v → Bounded m a → Bounded (m + 2 ^ 29) (step v j a)
unfolding step
step_bounded j q b = bounded_set _ (bounded_more (omega arith) b) (q.pick (within_more (omega arith) (b.at _)) (q.go j (b.at _)))

-- and a sweep none further than by that for each of its connections
sweep_bounded : {v : Way} (m : ℕ) (w : List ℕ) {a : List ℤ} → Mild v → Bounded m a → Bounded (m + length w * 2 ^ 29) (sweep v w a)
unfolding sweep
sweep_bounded m [] q b = bounded_more (omega arith) b
sweep_bounded m (j ∷ w) q b = bounded_more (omega arith) (sweep_bounded (m + 2 ^ 29) w q (step_bounded j q b))

-- wherever a loop is, it can go on
pub sweeping_bounded : {v : Way} {w : List ℕ} {a₀ a : List ℤ} {k : ℕ} → Sweeping v w a₀ a k → Mild v → k ≤ 4096 → Bounded (2 ^ 60) a₀ → Bounded (2 ^ 61) a
sweeping_bounded {w = w} {k = k} s q h b = rw s.is (bounded_more (omega (arith, length-take k w)) (sweep_bounded (2 ^ 60) (take k w) q b))

-- ---- what a sweep starts from

-- a list of numbers that are all within b
tabulate_bounded : (f : ℕ → ℤ) (b : ℕ) → ((x : ℕ) → Within b (f x)) → (n : ℕ) → Bounded b (tabulate f n)
tabulate_bounded f b h n = record { at = λ k. by k (ltb k n) refl }
  where
    by : (k : ℕ) (t : Bool) → ltb k n ≡ t → Within b (get_or (tabulate f n) k (pos 0))
    by k true e = rw (get_or-tabulate f n k (pos 0) (ltb-true k n e)) (h k)
    by k false e = rw (get_or-eq_default (tabulate f n) (pos 0) {n = k} (rw (length-tabulate f n) (ltb-false k n e))) (omega arith)

-- times, and z where there is none
pub anchor_bounded : {tm : List ℤ} {z : ℤ} (ks : List ℕ) (k n : ℕ) → Bounded (2 ^ 27) tm → Within (2 ^ 60) z → Bounded (2 ^ 60) (tabulate (anchor ks tm k z) n)
unfolding anchor
anchor_bounded {tm} {z} ks k n b h = tabulate_bounded _ (2 ^ 60) (λ x. by x (eqb (get_or ks x 0) k)) n
  where
    by : (x : ℕ) (t : Bool) → Within (2 ^ 60) (cond t (at tm x) z)
    by x true = within_more (omega arith) (b.at x)
    by x false = h

-- no time yet, in either direction
pub never_within : Within (2 ^ 60) never
never_within = omega arith

pub ever_within : Within (2 ^ 60) ever
ever_within = omega arith

-- ---- the times

module _ {n : Netlist} {d : List ℤ} (q : Ready n d) where
  pub arrivals_bounded : Bounded (2 ^ 61) (arrivals n d)
  unfolding arrivals
  arrivals_bounded =
      bounded_more (omega (arith, length-order n, q.wired.few))
      (sweep_bounded (2 ^ 60) (order n) (forward_mild n.froms n.tos q.delays_in) (anchor_bounded n.kinds 0 (parts n) q.times_in (omega arith)))

  pub requireds_bounded : Bounded (2 ^ 61) (requireds n d)
  unfolding requireds
  requireds_bounded =
      bounded_more (omega (arith, length-reverse (order n), length-order n, q.wired.few))
      (sweep_bounded (2 ^ 60) (reverse (order n)) (backward_mild n.froms n.tos q.delays_in) (anchor_bounded n.kinds 2 (parts n) q.times_in (omega arith)))

  -- so slacks can be taken of them
  pub times_gauged : Gauged (arrivals n d) (requireds n d)
  times_gauged = record {
    paired = rw (length-arrivals n d, length-requireds n d);
    arrivals_in = arrivals_bounded;
    requireds_in = requireds_bounded;
  }
