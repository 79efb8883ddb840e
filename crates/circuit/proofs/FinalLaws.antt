-- What the rounds leave, from any delays that are in time: and demand 3, from a start that has at least base plus share on each served
-- component. The modes differ only in the start.
use Rattle.std.specs.Prelude.{◌≡◌, ◌⊎◌, true, List, ℤ, pos, ◌+ℤ◌, ◌-ℤ◌, ◌≤ℤ◌, length, get_or, ℕ, ◌<◌, ◌≤◌}
use Rattle.std.proofs.Math.Path.{fun_ext}
use Rattle.std.proofs.Common.{inl, inr, arith}
use Rattle.std.proofs.lemmas.Bool.{cases_lt}
use Rattle.std.proofs.lemmas.List.{get_or_past}
use Rattle.whole.specs.Whole.{whole, up, sum, diff, apart}
use Rattle.circuit.specs.Circuit.{Share}
use Rattle.circuit.specs.Lists.{at, tabulate}
use Rattle.circuit.proofs.ListLaws.{length-tabulate, get_or-tabulate, count_mono}
use Rattle.circuit.specs.Netlist.{Netlist, parts, kind, circuit_of, served_of, serves, Based}
use Rattle.circuit.specs.Times.{arrivals, requireds, slack_at}
use Rattle.circuit.specs.Rounds.{Run, positive}
use Rattle.circuit.specs.Budget.{to_serve, final_from, rounds_from, increments}
use Rattle.circuit.specs.RoundsEnd.{RoundsEnd}
use Rattle.circuit.specs.Demand.{bounds, Full, Demand3}
use Rattle.circuit.proofs.DelayLaws.{◌⊑◌}
use Rattle.circuit.proofs.GiftLaws.{over}
use Rattle.circuit.proofs.ShareLaws.{share_least}
use Rattle.circuit.proofs.ServedLaws.{serves_is, serves_part}
use Rattle.circuit.proofs.ClockLaws.{Clock}
use Rattle.circuit.specs.Safe.{Safe}
use Rattle.circuit.proofs.SafeLaws.{safe_timed, safe_bounded}
use Rattle.circuit.proofs.RunLaws.{positives, positive_is, Done, run_done, run_found, run_is}

-- delays d to start rounds from: in time, nowhere below base, and at least t above base on each served component
pub record Start (n : Netlist) (b : List ℤ) (t : ℕ) (d : List ℤ) : Type 0 where
  pub safe : Safe n d
  pub more : at b ⊑ at d
  pub share : (x : ℕ) → serves n x ≡ true → (at b x +ℤ pos t) ≤ℤ at d x

pub length-increments : (n : Netlist) (b f : List ℤ) → length (increments n b f) ≡ parts n
unfolding increments
length-increments n b f = length-tabulate _ (parts n)

module _ {n : Netlist} (k : Clock n) where
  module _ {d : List ℤ} (s : Safe n d) where
    -- at most the served have positive slack
    pub positives_few : positives n d ≤ to_serve n
    positives_few = count_mono (positive (served_of n.kinds) (arrivals n d) (requireds n d)) (serves n) (parts n) (λ x h p. (positive_is (served_of n.kinds) (arrivals n d) (requireds n d) x p).0)

    final_run : Run n (served_of n.kinds) d (final_from n d) (rounds_from n d)
    unfolding final_from rounds_from
    final_run = run_found k _ d s (omega (arith, positives_few))

    final_only : {f : List ℤ} {c : ℕ} → Run n (served_of n.kinds) d f c → (f ≡ final_from n d) × (c ≡ rounds_from n d)
    unfolding final_from rounds_from
    final_only q = run_is q _ (omega (arith, (run_done k q s).few, positives_few))

    -- what the rounds leave
    pub final_done : Done k d (final_from n d) (rounds_from n d)
    final_done = run_done k final_run s

    -- from delays in time the rounds end by themselves
    pub rounds_end : RoundsEnd n d
    rounds_end = record {
      none_left = λ x h. omega (whole, final_done.spent x h);
      run = final_run;
      only = final_only;
      few = omega (arith, final_done.few, positives_few);
    }

  module _ {b d : List ℤ} {t : ℕ} (g : Based n b) (s : Start n b t d) where
    abbrev f : List ℤ
    f = final_from n d

    abbrev inc : ℕ → ℕ
    inc x = get_or (increments n b f) x 0

    done : Done k d f (rounds_from n d)
    done = final_done s.safe

    -- no final delay is below base
    pub final_more : at b ⊑ at f
    final_more x = omega (whole, s.more x, done.more x)

    -- base plus increment is the final delay
    pub bounds_are : (x : ℕ) → bounds (at b) inc x ≡ at f x
    unfolding increments
    bounds_are x = by (cases_lt x (parts n))
      where
        rise : ℕ → ℕ
        rise y = up (at f y -ℤ at b y)

        by : (x < parts n) ⊎ (parts n ≤ x) → (at b x +ℤ pos (get_or (tabulate rise (parts n)) x 0)) ≡ at f x
        by (inl l) =
            let h = get_or-tabulate rise (parts n) x 0 l in
            rw h (omega (whole, final_more x, diff (at f x) (at b x), apart (at f x -ℤ at b x), sum (at b x) (pos (rise x))))
        by (inr past) =
            let none = get_or_past (tabulate rise (parts n)) x 0 (rw (length-tabulate rise (parts n)) past) in
            let no_base = get_or_past b x (pos 0) (rw g.all past) in
            let no_delay = get_or_past f x (pos 0) (rw done.safe.all past) in
            rw (none, no_base, no_delay)

    -- every path stays in time, and one picosecond more on any served component makes some path late
    pub full_from : Full (circuit_of n) (serves n) (bounds (at b) inc)
    full_from = rw (fun_ext bounds_are) (record {
      in_time = done.safe.safe;
      no_more = λ x h.
          let (p, q) = over (safe_timed k done.safe) k.ranked (serves_is n x h) 1 in
          (p, omega (whole, q, done.spent x h, diff (slack_at (arrivals n f) (requireds n f) x) (pos 1)));
    })

    -- demand 3
    pub demand3_from : Share (circuit_of n) (serves n) (at b) t → Demand3 (circuit_of n) (serves n) (at b) t inc
    demand3_from share = record {
      at_least = enough;
      the_most = share;
      none_better = λ a safe.
          let (x, w, l) = share_least (circuit_of n) (serves n) (at b) share (parts n) (serves_part n) a safe in
          (x, w, λ y v. omega (arith, l, enough y v));
      full = full_from;
    }
      where
        enough : (x : ℕ) → serves n x ≡ true → t ≤ inc x
        enough x h = omega (whole, bounds_are x, s.share x h, done.more x, sum (at b x) (pos t), sum (at b x) (pos (inc x)))

    -- no increment is above 200,000,000
    pub increment_most : (x : ℕ) → inc x ≤ 200000000
    increment_most x = omega (whole, bounds_are x, (safe_bounded k done.safe).at x, g.least x, sum (at b x) (pos (inc x)))

    -- an input has none
    pub increment_none : (x : ℕ) → kind n x ≡ 0 → inc x ≡ 0
    increment_none x e = omega (whole, bounds_are x, done.safe.quiet x e, g.none x e, sum (at b x) (pos (inc x)))
