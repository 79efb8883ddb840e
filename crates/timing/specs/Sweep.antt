-- What a loop over the connections keeps, over any way and any order.
use Rattle.std.specs.Prelude.{◌≡◌, refl, List, [], ◌∷◌, ◌++◌, reverse, ℕ, ◌+◌, ◌-◌, ◌<◌, ◌≤◌, ℤ, length, get_or, take}
use Rattle.std.proofs.Common.{sym, ◌∙◌, add-one, arith, take-suc, take_all}
use Rattle.std.proofs.lemmas.List.{length-reverse, get_or-reverse}
use Rattle.circuit.specs.Lists.{up_from, tabulate}
use Rattle.circuit.proofs.ListLaws.{length_from, from_at}
use Rattle.circuit.proofs.SweepLaws.{length-sweep}
use Rattle.circuit.specs.Netlist.{Netlist, parts, wires}
use Rattle.circuit.specs.Times.{Way, step, sweep, order, starts, ends, forward, backward, arrivals, requireds}

-- one connection more at the end is one step more
sweep_end : (v : Way) (w : List ℕ) (a : List ℤ) (i : ℕ) → sweep v (w ++ (i ∷ [])) a ≡ step v i (sweep v w a)
unfolding sweep
sweep_end v [] a i = refl
sweep_end v (j ∷ w) a i = sweep_end v w (step v j a) i

-- a is what the first k connections of w make of a₀
pub record Sweeping (v : Way) (w : List ℕ) (a₀ a : List ℤ) (k : ℕ) : Type 0 where
  pub is : a ≡ sweep v (take k w) a₀

pub sweeping_starts : {v : Way} {w : List ℕ} {a : List ℤ} → Sweeping v w a a 0
unfolding sweep
sweeping_starts = record { is = refl }

pub sweeping_next : {v : Way} {w : List ℕ} {a₀ a b : List ℤ} {i k : ℕ} →
    Sweeping v w a₀ a k → k < length w → i ≡ get_or w k 0 → b ≡ step v i a → Sweeping v w a₀ b (k + 1)
sweeping_next {v} {w} {a₀} {i = i} {k = k} s h e q =
    record { is = q ∙ rw (s.is, add-one, take-suc w k 0 h, sym e) (sym (sweep_end v (take k w) a₀ i)) }

pub sweeping_ends : {v : Way} {w : List ℕ} {a₀ a : List ℤ} {k : ℕ} → Sweeping v w a₀ a k → length w ≤ k → a ≡ sweep v w a₀
sweeping_ends {w = w} {k = k} s h = s.is ∙ rw (take_all k w h)

-- there are as many times as before
pub sweeping_length : {v : Way} {w : List ℕ} {a₀ a : List ℤ} {k : ℕ} → Sweeping v w a₀ a k → length a ≡ length a₀
sweeping_length {v} {w} {a₀} {k = k} s = rw s.is (length-sweep v (take k w) a₀)

-- ---- the connections as they stand, and the last first

-- as they stand, connection k comes after k others
pub order_at : (n k : ℕ) → k < n → k ≡ get_or (up_from 0 n) k 0
order_at n k h = omega (arith, from_at 0 n k h)

-- the last first, there are as many
pub length_back : (n : ℕ) → length (reverse (up_from 0 n)) ≡ n
length_back n = length-reverse (up_from 0 n) ∙ length_from 0 n

-- and after k others comes the one before which n - 1 - k stand
pub back_at : (n k : ℕ) → k < n → n - 1 - k ≡ get_or (reverse (up_from 0 n)) k 0
back_at n k h = rw (get_or-reverse (up_from 0 n) k 0 (rw length_from h), length_from) (order_at n (n - 1 - k) (omega arith))

-- ---- the times as sweeps

pub arrivals_as_sweep : (n : Netlist) (d : List ℤ) → arrivals n d ≡ sweep (forward n.froms n.tos d) (up_from 0 (wires n)) (tabulate (starts n) (parts n))
unfolding arrivals order
arrivals_as_sweep n d = refl

pub requireds_as_sweep : (n : Netlist) (d : List ℤ) → requireds n d ≡ sweep (backward n.froms n.tos d) (reverse (up_from 0 (wires n))) (tabulate (ends n) (parts n))
unfolding requireds order
requireds_as_sweep n d = refl
