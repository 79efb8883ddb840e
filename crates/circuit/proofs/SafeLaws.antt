-- Delays that keep a circuit in time are at most 200,000,000, so that their times can be worked out; and how far analysed slack goes.
use Rattle.std.specs.Prelude.{◌≡◌, ◌⊎◌, true, List, [], ℕ, ◌*◌, ◌<◌, ◌^◌, ℤ, negsuc, ◌≤ℤ◌, refl, pos}
use Rattle.std.proofs.Common.{inl, inr, arith}
use Rattle.std.proofs.Math.Decide.{ℕ_discrete}
use Rattle.whole.specs.Whole.{whole, sum, diff}
use Rattle.whole.specs.Range.{Within, Bounded, bounded_more}
use Rattle.circuit.specs.Circuit.{Path, begin, into, To, From, reach, Timed}
use Rattle.circuit.specs.Lists.{at}
use Rattle.circuit.specs.Netlist.{Netlist, parts, wires, kind, from, to, net_of, circuit_of, serves, Based}
use Rattle.circuit.specs.Times.{arrivals, requireds, slack_at}
use Rattle.circuit.specs.Safe.{Safe}
use Rattle.circuit.proofs.SlackLaws.{join, last_way, first_way, lemma2}
use Rattle.circuit.proofs.RangeLaws.{origin, finish, reach_most, reach_least, entry_most}
use Rattle.circuit.proofs.ServedLaws.{serves_yes, serves_kind, serves_part}
use Rattle.circuit.proofs.ClockLaws.{Clock}

-- where analysed slack lies
pub record Analysed (z : ℤ) : Type 0 where
  pub lowest : negsuc 267042304 ≤ℤ z
  pub highest : z ≤ℤ pos 200000000

pub based_bounded : {n : Netlist} {b : List ℤ} → Based n b → Bounded (2 ^ 29) b
based_bounded g = record { at = λ x. let low = g.least x in let high = g.most x in record { upper = omega whole; lower = omega whole } }

nothing : Bounded (2 ^ 29) []
nothing = record { at = λ k. record { upper = omega arith; lower = omega arith } }

module _ {n : Netlist} (k : Clock n) where
  -- there is a way to each component, and one on from it
  pub way_to : (x : ℕ) → x < parts n → To (net_of n) x
  way_to x h = (last_way (k.timed [] nothing) k.ranked h).0

  pub way_on : (x : ℕ) → x < parts n → From (net_of n) x
  way_on x h = (first_way (k.timed [] nothing) k.ranked h).0

  -- so there is a path, with an input and an output at its ends
  pub some_path : Path (net_of n)
  some_path = join (way_to 0 k.judged.some) (way_on 0 k.judged.some)

  module _ {d : List ℤ} (s : Safe n d) where
    -- in time, no delay is above 200,000,000
    pub served_most : (x : ℕ) → serves n x ≡ true → at d x ≤ℤ pos 200000000
    unfolding into begin
    served_most x h = by (k.judged.entered x (serves_part n x h))
      where
        by : (kind n x ≡ 0) ⊎ ((j : ℕ) × (j < wires n) × (to n j ≡ x)) → at d x ≤ℤ pos 200000000
        by (inl e) = absurd (serves_kind n x h e)
        by (inr w) =
            let y = from n w.0 in
            let p = way_to y (k.judged.wired.source w.0) in
            let q = way_on x (serves_part n x h) in
            let early = k.judged.times_in.at (origin p) in
            let late = k.judged.times_in.at (finish q) in
            omega (whole, entry_most (circuit_of n) (at d) (λ u v m. s.least v) s.safe p (w.0, w.1, refl, w.2) q, diff (at n.times (finish q)) (at n.times (origin p)))

    pub safe_bounded : Bounded 200000000 d
    safe_bounded = record { at = λ x. within x (ℕ_discrete (kind n x) 0) }
      where
        within : (x : ℕ) → Dec (kind n x ≡ 0) → Within 200000000 (at d x)
        within x (yes e) = rw (s.quiet x e) (omega arith)
        within x (no e) =
            let low = s.least x in
            let high = served_most x (serves_yes n x e) in
            record { upper = omega whole; lower = omega whole }

    pub safe_timed : Timed (circuit_of n) (at d) (at (arrivals n d)) (at (requireds n d))
    safe_timed = k.timed d (bounded_more (omega arith) safe_bounded)

  module _ (d : List ℤ) (t : Timed (circuit_of n) (at d) (at (arrivals n d)) (at (requireds n d))) (least : (x : ℕ) → pos 0 ≤ℤ at d x) where
    -- no slack is above 200,000,000
    pub slack_most : (x : ℕ) → x < parts n → slack_at (arrivals n d) (requireds n d) x ≤ℤ pos 200000000
    unfolding into begin
    slack_most x h =
        let (p, has, e) = lemma2 t k.ranked h in
        let early = k.judged.times_in.at (origin p.way) in
        let late = k.judged.times_in.at p.last in
        omega (whole, e, reach_least (circuit_of n) (at d) (λ v y m. least y) p.way, diff (at n.times p.last) (reach (circuit_of n) (at d) p.way))

  -- Analysed slack lies from −267,042,305 to 200,000,000: a path has at most 1,023 non-inputs of 65,535 ps each.
  pub slack_range : {b : List ℤ} → Based n b → (x : ℕ) → x < parts n → Analysed (slack_at (arrivals n b) (requireds n b) x)
  unfolding into begin
  slack_range {b} g x h =
      let t = k.timed b (based_bounded g) in
      let (p, has, e) = lemma2 t k.ranked h in
      let u = reach (circuit_of n) (at b) p.way in
      let z = at n.times p.last in
      let late = k.judged.times_in.at p.last in
      let long = reach_most (circuit_of n) (at b) k.ranked (pos 100000000) 65535 (λ y m. starts_by y) (λ v y m. g.most y) p.way in
      let rank = k.ranked.below p.ends.0 in
      let few = k.judged.few in
      let low = k.low in
      record { lowest = omega (whole, e, diff z u, sum (pos 100000000) (pos (65535 * k.ranked.rank p.last))); highest = slack_most b t g.least x h }
    where
      starts_by : (y : ℕ) → at n.times y ≤ℤ pos 100000000
      starts_by y = let within = k.judged.times_in.at y in omega whole
