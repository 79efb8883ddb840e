-- The share that the descent finds is the largest.
use Rattle.std.specs.Prelude.{◌≡◌, ◌⊎◌, true, cond, List, ℤ, pos, ◌+ℤ◌, length, ℕ, zero, suc, ◌+◌, ◌^◌, ◌<◌, ◌≤◌}
use Rattle.std.proofs.Math.Path.{fun_ext}
use Rattle.std.proofs.Common.{sym, ◌∙◌, inl, inr, arith, pow_pos}
use Rattle.std.specs.Int.Signed.{≤ℤ_refl}
use Rattle.std.proofs.lemmas.Bool.{both_ways, cases_lt, cond_both}
use Rattle.std.proofs.lemmas.List.{get_or_past}
use Rattle.whole.specs.Whole.{whole, sum}
use Rattle.circuit.specs.Circuit.{InTime, lift, Share}
use Rattle.circuit.specs.Lists.{at, tabulate}
use Rattle.circuit.proofs.ListLaws.{length-tabulate, get_or-tabulate}
use Rattle.circuit.specs.Netlist.{Netlist, circuit_of, marked}
use Rattle.circuit.specs.Times.{in_time}
use Rattle.circuit.specs.Share.{lifted, descend, share_of}
use Rattle.circuit.proofs.ShareLaws.{share_edge, lift_least}
use Rattle.circuit.proofs.DelayLaws.{in_time_mono}

pub length-lifted : (sv : List ℕ) (t : ℕ) (d : List ℤ) → length (lifted sv t d) ≡ length d
unfolding lifted
length-lifted sv t d = length-tabulate _ (length d)

-- the list with t more is the delays with t more
pub lifted_at : (sv : List ℕ) (t : ℕ) (d : List ℤ) → length sv ≡ length d → (x : ℕ) → at (lifted sv t d) x ≡ lift (marked sv) t (at d) x
unfolding lifted
lifted_at sv t d l x = by (cases_lt x (length d))
  where
    f : ℕ → ℤ
    f y = at d y +ℤ pos (cond (marked sv y) t 0)

    by : (x < length d) ⊎ (length d ≤ x) → at (tabulate f (length d)) x ≡ f x
    by (inl h) = get_or-tabulate f (length d) x (pos 0) h
    by (inr past) =
        let none = get_or_past d x (pos 0) past in
        let unmarked = get_or_past sv x 0 (rw l past) in
        get_or_past (tabulate f (length d)) x (pos 0) (rw (length-tabulate f (length d)) past) ∙ sym (rw (none, unmarked))

pub lifted_is : (sv : List ℕ) (t : ℕ) (d : List ℤ) → length sv ≡ length d → at (lifted sv t d) ≡ lift (marked sv) t (at d)
lifted_is sv t d l = fun_ext (lifted_at sv t d l)

-- ---- the descent

-- the test of the descent tells whether all that are marked could take u
pub record Tells (n : Netlist) (sv : List ℕ) (d : List ℤ) (u : ℕ) : Type 0 where
  pub only : in_time n (lifted sv u d) ≡ true → InTime (circuit_of n) (lift (marked sv) u (at d))
  pub holds : InTime (circuit_of n) (lift (marked sv) u (at d)) → in_time n (lifted sv u d) ≡ true

module _ (n : Netlist) (sv : List ℕ) (d : List ℤ) (tells : (u : ℕ) → u < 2 ^ 28 → Tells n sv d u) where
  abbrev Fits : ℕ → Type 0
  Fits u = InTime (circuit_of n) (lift (marked sv) u (at d))

  -- in time at t and not at t + 2^k: the share lies between, and k more bits find it
  descends : (k t : ℕ) → t + 2 ^ k ≤ 2 ^ 28 → Fits t → (Fits (t + 2 ^ k) → ⊥) → Share (circuit_of n) (marked sv) (at d) (descend n sv d k t)
  unfolding descend
  descends zero t h safe late = share_edge (circuit_of n) (marked sv) (at d) safe (λ g. late (let e : t + 1 ≡ suc t = omega arith in rw e g))
  descends (suc k) t h safe late = cond_both (in_time n (lifted sv (t + 2 ^ k) d)) (t + 2 ^ k) t (λ u. Share (circuit_of n) (marked sv) (at d) (descend n sv d k u))
      (λ e. descends k (t + 2 ^ k) (omega arith) (test.only e) (λ g. late (let q : t + 2 ^ suc k ≡ t + 2 ^ k + 2 ^ k = omega arith in rw q g)))
      (λ e. descends k t (omega arith) safe (λ g. both_ways _ e (test.holds g)))
    where
      test : Tells n sv d (t + 2 ^ k)
      test = tells (t + 2 ^ k) (omega (arith, pow_pos k))

  -- what the 28 bits find is the share, where nothing is late at d and no more than 200,000,000 fits
  pub share_found : InTime (circuit_of n) (at d) → ((u : ℕ) → Fits u → u ≤ 200000000) → Share (circuit_of n) (marked sv) (at d) (share_of n sv d)
  unfolding share_of
  share_found safe most = descends 28 0 (omega arith) (in_time_mono (circuit_of n) (lift_least (marked sv) 0 (λ x w. omega (whole, sum (at d x) (pos 0))) (λ x. ≤ℤ_refl (at d x))) safe) (λ g. absurd (omega (arith, most (0 + 2 ^ 28) g)))
