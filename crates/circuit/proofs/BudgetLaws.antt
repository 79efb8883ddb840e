-- The budget of an accepted circuit in a mode: its share is the largest, its start is in time, and the outcome is LATE exactly if a path is
-- late, and otherwise share, rounds and increments that meet demand 3.
use Rattle.std.specs.Prelude.{◌≡◌, refl, ◌⊎◌, Bool, true, false, cond, List, ℕ, ◌^◌, ◌<◌, ◌≤◌, ℤ, pos, ◌+ℤ◌, length}
use Rattle.std.proofs.Common.{sym, ◌∙◌, inl, inr, ⊎_elim, arith, eq-eqb, ne_eqb}
use Rattle.std.proofs.lemmas.Bool.{cases_lt, cases_eq}
use Rattle.std.specs.Int.Signed.{≤ℤ_refl}
use Rattle.whole.specs.Whole.{whole, sum}
use Rattle.whole.specs.Range.{Within, Bounded}
use Rattle.whole.specs.Pick.{if_yes, if_no}
use Rattle.circuit.specs.Circuit.{InTime, Timed, Share, lift}
use Rattle.circuit.specs.Lists.{at}
use Rattle.circuit.specs.Netlist.{Netlist, parts, circuit_of, served_of, serves, Based}
use Rattle.circuit.specs.Times.{arrivals, requireds, lowest_late}
use Rattle.circuit.specs.Share.{lifted, share_of}
use Rattle.circuit.specs.Budget.{share_in, start_in, final_from, rounds_from, increments, LateAt, Budgeted, budget_of}
use Rattle.circuit.proofs.DelayLaws.{in_time_mono}
use Rattle.circuit.proofs.ShareLaws.{lift_least, lift_more, lift_at, share_bound}
use Rattle.circuit.proofs.ServedLaws.{length-served, serves_is, serves_no, serves_part, some_served}
use Rattle.circuit.proofs.LateLaws.{FirstLate, late_le, late_is, in_time_is, in_time_holds, late_none_is, late_none_holds}
use Rattle.circuit.proofs.ClockLaws.{Clock}
use Rattle.circuit.specs.Safe.{Safe}
use Rattle.circuit.proofs.SafeLaws.{safe_timed, slack_range, based_bounded}
use Rattle.circuit.proofs.DescentLaws.{length-lifted, lifted_at, lifted_is, Tells, share_found}
use Rattle.circuit.proofs.FinalLaws.{Start}

-- ---- the starts of the modes

-- the share of a mode: 0 in plain mode, the share of the served otherwise
module _ {m : ℕ} (n : Netlist) (b : List ℤ) where
  pub plain_share : m ≡ 0 → share_in m n b ≡ 0
  unfolding share_in
  plain_share e = rw (eq-eqb m 0 e)

  pub even_share : (m ≡ 0 → ⊥) → share_in m n b ≡ share_of n (served_of n.kinds) b
  unfolding share_in
  even_share e = rw (ne_eqb m 0 e)

module _ {n : Netlist} {b : List ℤ} (g : Based n b) where
  pub marks_all : length (served_of n.kinds) ≡ length b
  marks_all = length-served n.kinds ∙ sym g.all

  -- base delays with less than 2^28 more can be timed
  pub lifted_bounded : (u : ℕ) → u < 2 ^ 28 → Bounded (2 ^ 29) (lifted (served_of n.kinds) u b)
  lifted_bounded u h = record { at = λ x. rw (lifted_at (served_of n.kinds) u b marks_all x) (by x (serves n x)) }
    where
      by : (x : ℕ) (c : Bool) → Within (2 ^ 29) (at b x +ℤ pos (cond c u 0))
      by x true = let low = g.least x in let high = g.most x in let e = sum (at b x) (pos u) in record { upper = omega whole; lower = omega whole }
      by x false = let low = g.least x in let high = g.most x in let e = sum (at b x) (pos 0) in record { upper = omega whole; lower = omega whole }

module _ {n : Netlist} (k : Clock n) {b : List ℤ} (g : Based n b) where
  abbrev sv : List ℕ
  sv = served_of n.kinds

  abbrev marks : length sv ≡ length b
  marks = marks_all g

  lifted_timed : (u : ℕ) → u < 2 ^ 28 → Timed (circuit_of n) (at (lifted sv u b)) (at (arrivals n (lifted sv u b))) (at (requireds n (lifted sv u b)))
  lifted_timed u h = k.timed (lifted sv u b) (lifted_bounded g u h)

  tells : (u : ℕ) → u < 2 ^ 28 → Tells n sv b u
  tells u h = record {
    only = λ e. rw (← lifted_is sv u b marks) (in_time_is n (lifted sv u b) (lifted_timed u h) e);
    holds = λ safe. in_time_holds n (lifted sv u b) (lifted_timed u h) k.ranked (rw (lifted_is sv u b marks) safe);
  }

  module _ (safe : InTime (circuit_of n) (at b)) where
    based_safe : Safe n b
    based_safe = record { all = g.all; least = g.least; quiet = g.none; safe = safe }

    -- what all the served could take is at most 200,000,000
    pub share_most : (u : ℕ) → InTime (circuit_of n) (lift (serves n) u (at b)) → u ≤ 200000000
    share_most u still =
        let (x, h) = some_served n k.judged in
        let r = (slack_range k g x (serves_part n x h)).highest in
        omega (whole, share_bound (serves n) (safe_timed k based_safe) k.ranked safe (serves_is n x h) h u still)

    -- the share found is the largest
    pub share_is : Share (circuit_of n) (serves n) (at b) (share_of n sv b)
    share_is = share_found n sv b tells safe share_most

    nothing_more : InTime (circuit_of n) (lift (serves n) 0 (at b))
    nothing_more = in_time_mono (circuit_of n) (lift_least (serves n) 0 (λ x w. omega (whole, sum (at b x) (pos 0))) (λ x. ≤ℤ_refl (at b x))) safe

    -- it leaves the circuit in time
    share_fits : (m : ℕ) → InTime (circuit_of n) (lift (serves n) (share_in m n b) (at b))
    share_fits m = ⊎_elim (λ e. rw (plain_share n b e) nothing_more) (λ e. rw (even_share n b e) share_is.fits) (cases_eq m 0)

    -- every mode starts in time, and with its share on each served component
    pub start_is : (m : ℕ) → Start n b (share_in m n b) (start_in m n b)
    unfolding start_in
    start_is m =
        let t = share_in m n b in
        let e = lifted_at sv t b marks in
        record {
          safe = record {
            all = length-lifted sv t b ∙ g.all;
            least = λ x. omega (whole, e x, lift_more (serves n) t (at b) x, g.least x);
            quiet = λ x q. e x ∙ rw (serves_no n x q) (omega (whole, g.none x q, sum (at b x) (pos 0)));
            safe = rw (lifted_is sv t b marks) (share_fits m);
          };
          more = λ x. omega (whole, e x, lift_more (serves n) t (at b) x);
          share = λ x h. omega (whole, e x, lift_at (serves n) t (at b) x h);
        }

    -- ---- the outcome

    -- in time, a budget is share, rounds and increments
    pub budget_is : (m : ℕ) → budget_of m n b ≡ Budgeted (share_in m n b) (rounds_from n (start_in m n b)) (increments n b (final_from n (start_in m n b)))
    unfolding budget_of
    budget_is m =
        let e = late_none_holds n b (safe_timed k based_safe) k.ranked safe in
        sym (if_no _ _ (omega arith) refl)

  -- a path is late, and the budget names the lowest late output
  pub budget_late : (m : ℕ) → lowest_late n b < parts n → (budget_of m n b ≡ LateAt (lowest_late n b)) × FirstLate n b (lowest_late n b)
  unfolding budget_of
  budget_late m h = (sym (if_yes _ _ h refl), late_is n b (k.timed b (based_bounded g)) k.ranked h)

  -- one of the two holds
  pub late_or_in_time : (lowest_late n b < parts n) ⊎ InTime (circuit_of n) (at b)
  late_or_in_time = ⊎_elim inl (λ l. inr (late_none_is n b (k.timed b (based_bounded g)) (omega (arith, late_le n b)))) (cases_lt (lowest_late n b) (parts n))
