-- What the outcome of a budget says, whatever the mode: the theorems that the calls' promises stand on.
use Rattle.std.specs.Prelude.{◌≡◌, ◌⊎◌, List, ℕ, ◌≤◌, ◌<◌, ℤ, length, get_or}
use Rattle.std.proofs.Common.{◌∙◌, inl, inr}
use Rattle.std.proofs.lemmas.Bool.{true≢false}
use Rattle.whole.specs.Whole.{whole}
use Rattle.circuit.specs.Circuit.{Path, InTime, Late, Share}
use Rattle.circuit.specs.Lists.{at}
use Rattle.circuit.specs.Netlist.{Netlist, parts, kind, net_of, circuit_of, serves, Based}
use Rattle.circuit.specs.Times.{Accepted, lowest_late}
use Rattle.circuit.specs.Budget.{to_serve, share_in, start_in, final_from, rounds_from, increments, LateAt, Budgeted, budget_of}
use Rattle.circuit.specs.RoundsEnd.{RoundsEnd}
use Rattle.circuit.specs.Demand.{bounds, Full, Demand3}
use Rattle.circuit.proofs.LateLaws.{FirstLate}
use Rattle.circuit.proofs.ClockLaws.{Clock, clock}
use Rattle.circuit.proofs.FinalLaws.{rounds_end, full_from, demand3_from, length-increments, increment_most, increment_none}
use Rattle.circuit.proofs.BudgetLaws.{plain_share, even_share, share_is, share_most, start_is, budget_is, budget_late, late_or_in_time}

-- share t, k rounds and increments l are those of mode m
pub record OfMode (m : ℕ) (n : Netlist) (b : List ℤ) (t k : ℕ) (l : List ℕ) : Type 0 where
  pub in_time : InTime (circuit_of n) (at b)
  pub share : t ≡ share_in m n b
  pub rounds : k ≡ rounds_from n (start_in m n b)
  pub increments : l ≡ increments n b (final_from n (start_in m n b))

module _ {n : Netlist} (q : Accepted n) {b : List ℤ} (g : Based n b) (m : ℕ) where
  k : Clock n
  k = clock q

  -- LATE names the lowest output with negative slack, and a path is late
  pub late_says : {x : ℕ} → budget_of m n b ≡ LateAt x → FirstLate n b x
  late_says {x} e = by (late_or_in_time k g)
    where
      by : (lowest_late n b < parts n) ⊎ InTime (circuit_of n) (at b) → FirstLate n b x
      by (inl h) =
          let (u, v) = budget_late k g m h in
          let same : lowest_late n b ≡ x = cc in
          rw same at v
      by (inr safe) = let u = budget_is k g safe m in absurd (true≢false cc)

  -- where a path is late, the outcome is LATE
  pub late_path : (p : Path (net_of n)) → Late (circuit_of n) (at b) p → budget_of m n b ≡ LateAt (lowest_late n b)
  late_path p late = by (late_or_in_time k g)
    where
      by : (lowest_late n b < parts n) ⊎ InTime (circuit_of n) (at b) → budget_of m n b ≡ LateAt (lowest_late n b)
      by (inl h) = (budget_late k g m h).0
      by (inr safe) = absurd (omega (whole, safe p, late))

  -- whatever the mode, the rounds end by themselves
  pub ends : InTime (circuit_of n) (at b) → RoundsEnd n (start_in m n b)
  ends safe = rounds_end k (start_is k g safe m).safe

  -- a budget is the mode's share, rounds and increments, and the base delays are in time
  pub budget_says : {t r : ℕ} {l : List ℕ} → budget_of m n b ≡ Budgeted t r l → OfMode m n b t r l
  budget_says {t} {r} {l} e = by (late_or_in_time k g)
    where
      by : (lowest_late n b < parts n) ⊎ InTime (circuit_of n) (at b) → OfMode m n b t r l
      by (inl h) = let u = (budget_late k g m h).0 in absurd (true≢false cc)
      by (inr safe) = let u = budget_is k g safe m in record { in_time = safe; share = cc; rounds = cc; increments = cc }

  module _ {t r : ℕ} {l : List ℕ} (s : OfMode m n b t r l) where
    -- the rounds are no more than the components to serve
    pub rounds_most : r ≤ to_serve n
    rounds_most = rw s.rounds (ends s.in_time).few

    -- every path stays in time at the bounds, and one picosecond more on any one makes some path late: in each mode
    pub full : Full (circuit_of n) (serves n) (bounds (at b) (λ x. get_or l x 0))
    full = rw s.increments (full_from k g (start_is k g s.in_time m))

    -- "an increment above 200,000,000" is refused (RESULT), and none is written
    pub increments_most : (x : ℕ) → get_or l x 0 ≤ 200000000
    increments_most = rw s.increments (increment_most k g (start_is k g s.in_time m))

    -- there is one for each component, and none for an input
    pub increments_all : length l ≡ parts n
    increments_all = rw s.increments (length-increments n b (final_from n (start_in m n b)))

    pub increments_none : (x : ℕ) → kind n x ≡ 0 → get_or l x 0 ≡ 0
    increments_none = rw s.increments (increment_none k g (start_is k g s.in_time m))

    -- in plain mode the share is 0
    pub share_plain : m ≡ 0 → t ≡ 0
    share_plain e = s.share ∙ plain_share n b e

    module _ (even : m ≡ 0 → ⊥) where
      -- in even mode the largest
      pub share_even : Share (circuit_of n) (serves n) (at b) t
      share_even = rw (s.share, even_share n b even) (share_is k g s.in_time)

      -- "share above 200,000,000" is refused (RESULT), and none is written
      pub share_small : t ≤ 200000000
      share_small = share_most k g s.in_time t share_even.fits

      -- and demand 3 holds
      pub demand3 : Demand3 (circuit_of n) (serves n) (at b) t (λ x. get_or l x 0)
      demand3 = rw s.increments (demand3_from k g (rw s.share (start_is k g s.in_time m)) share_even)
