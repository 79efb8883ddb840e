-- In time, and the lowest output that is late: what the tests on arrivals and slacks say of the paths.
use Rattle.std.specs.Prelude.{◌≡◌, Bool, false, ◌&&◌, List, ℕ, ◌<◌, ◌≤◌, eqb, ℤ, pos, ◌≤ℤ◌, ◌<ℤ◌, true}
use Rattle.std.proofs.Common.{arith, eqb-true, eq-eqb}
use Rattle.std.proofs.lemmas.Bool.{and_parts}
use Rattle.std.specs.Int.Signed.{lt_z}
use Rattle.whole.specs.Whole.{whole, diff, lt_true, lt_false}
use Rattle.circuit.specs.Circuit.{Path, reach, On, InTime, Late, Timed, Ranked}
use Rattle.circuit.specs.Lists.{at, lowest}
use Rattle.circuit.proofs.ListLaws.{lowest_le, lowest_is, lowest_first}
use Rattle.circuit.specs.Netlist.{Netlist, parts, kind, net_of, circuit_of}
use Rattle.circuit.specs.Times.{arrivals, requireds, slack_at, overdue, in_time, late, lowest_late}
use Rattle.circuit.proofs.SlackLaws.{reach_le, last_way, lemma2, ends→in_time, in_time→slack}

-- where none passes, the lowest that passes is the count
lowest_none : (f : ℕ → Bool) (n : ℕ) → ((x : ℕ) → x < n → f x ≡ true → ⊥) → lowest f n ≡ n
lowest_none f n h = let none : lowest f n < n → ⊥ = λ b. h (lowest f n) b (lowest_is f n b) in omega (arith, lowest_le f n)

-- what passes the test for an output and two integers is an output, and the first is less
passes : (k : ℕ) (u v : ℤ) → eqb k 2 && lt_z u v ≡ true → (k ≡ 2) × (u <ℤ v)
passes k u v h = let (a, b) = and_parts (eqb k 2) (lt_z u v) h in (eqb-true k 2 a, omega (whole, lt_true u v b))

-- an output that does not pass: the first is no less
fails : (k : ℕ) (u v : ℤ) → eqb k 2 && lt_z u v ≡ false → k ≡ 2 → v ≤ℤ u
fails k u v h e = omega (whole, lt_false u v (rw (eq-eqb k 2 e) at h))

-- x is the lowest output that is late: its slack is negative, that of no lower output is, and a path through it is late
pub record FirstLate (n : Netlist) (d : List ℤ) (x : ℕ) : Type 0 where
  pub ends : (net_of n).Ends x
  pub negative : slack_at (arrivals n d) (requireds n d) x <ℤ pos 0
  pub first : (y : ℕ) → y < x → kind n y ≡ 2 → pos 0 ≤ℤ slack_at (arrivals n d) (requireds n d) y
  pub path : (p : Path (net_of n)) × On x p.way × Late (circuit_of n) (at d) p

pub late_le : (n : Netlist) (d : List ℤ) → lowest_late n d ≤ parts n
unfolding lowest_late
late_le n d = lowest_le (late n.kinds (arrivals n d) (requireds n d)) (parts n)

module _ (n : Netlist) (d : List ℤ) (t : Timed (circuit_of n) (at d) (at (arrivals n d)) (at (requireds n d))) where
  -- where no output is overdue the circuit is in time
  pub in_time_is : in_time n d ≡ true → InTime (circuit_of n) (at d)
  unfolding in_time overdue
  in_time_is h p =
      let x = p.last in
      let e = eqb-true (lowest (overdue n.kinds n.times (arrivals n d)) (parts n)) (parts n) h in
      let l = fails (kind n x) (at n.times x) (at (arrivals n d) x) (lowest_first (overdue n.kinds n.times (arrivals n d)) (parts n) x (omega (arith, e, p.ends.0))) p.ends.1 in
      omega (whole, l, reach_le t p.way, diff (at n.times x) (reach (circuit_of n) (at d) p.way))

  -- where no output is late it is in time
  pub late_none_is : lowest_late n d ≡ parts n → InTime (circuit_of n) (at d)
  unfolding lowest_late late
  late_none_is h = ends→in_time t (λ x e. fails (kind n x) (slack_at (arrivals n d) (requireds n d) x) (pos 0) (lowest_first (late n.kinds (arrivals n d) (requireds n d)) (parts n) x (omega (arith, h, e.0))) e.1)

  module _ (k : Ranked (net_of n)) where
    -- where the circuit is in time no output is overdue
    pub in_time_holds : InTime (circuit_of n) (at d) → in_time n d ≡ true
    unfolding in_time overdue
    in_time_holds safe = eq-eqb (lowest (overdue n.kinds n.times (arrivals n d)) (parts n)) (parts n) (lowest_none (overdue n.kinds n.times (arrivals n d)) (parts n) over)
      where
        over : (x : ℕ) → x < parts n → overdue n.kinds n.times (arrivals n d) x ≡ true → ⊥
        over x h e =
            let (o, l) = passes (kind n x) (at n.times x) (at (arrivals n d) x) e in
            let (p, s) = last_way t k {x = x} h in
            omega (whole, l, s, safe (record { last = x; way = p; ends = (h, o) }), diff (at n.times x) (reach (circuit_of n) (at d) p))

    -- nor is any late
    pub late_none_holds : InTime (circuit_of n) (at d) → lowest_late n d ≡ parts n
    unfolding lowest_late late
    late_none_holds safe = lowest_none (late n.kinds (arrivals n d) (requireds n d)) (parts n) (λ x h e. omega (whole, (passes (kind n x) (slack_at (arrivals n d) (requireds n d) x) (pos 0) e).1, in_time→slack t k safe {x = x} h))

    -- where one is, the lowest is the one that is named
    pub late_is : lowest_late n d < parts n → FirstLate n d (lowest_late n d)
    unfolding lowest_late late
    late_is h =
        let x = lowest_late n d in
        let (o, l) = passes (kind n x) (slack_at (arrivals n d) (requireds n d) x) (pos 0) (lowest_is (late n.kinds (arrivals n d) (requireds n d)) (parts n) h) in
        let (p, m, e) = lemma2 t k {x = x} h in
        record {
          ends = (h, o);
          negative = l;
          first = λ y b e. fails (kind n y) (slack_at (arrivals n d) (requireds n d) y) (pos 0) (lowest_first (late n.kinds (arrivals n d) (requireds n d)) (parts n) y b) e;
          path = (p, m, omega (whole, e, l));
        }
