-- What an accepted netlist gives to every law above it: a rank below the component count, and times that satisfy the equations at all delays
-- within 2^29 of either sign; that no other times do; and that the slacks are the least path slacks.
use Rattle.std.specs.Prelude.{◌≡◌, List, ℕ, ◌<◌, ◌^◌, ℤ}
use Rattle.std.proofs.Common.{ap, ◌∙◌}
use Rattle.whole.specs.Range.{Bounded}
use Rattle.circuit.specs.Circuit.{begin, LeastThrough, Timed, Ranked}
use Rattle.circuit.specs.Lists.{at}
use Rattle.circuit.specs.Netlist.{Netlist, parts, kind, net_of, circuit_of, Judged}
use Rattle.circuit.specs.Times.{arrivals, requireds, slacks, Accepted}
use Rattle.circuit.proofs.SlackLaws.{start_arrival, end_required, least_through}
use Rattle.circuit.proofs.RoundLaws.{times_unique}
use Rattle.circuit.proofs.TimesLaws.{timed, judged_joined, slack_at_lem}
use Rattle.circuit.proofs.OrderLaws.{layered}

pub record Clock (n : Netlist) : Type 0 where
  pub judged : Judged n
  pub ranked : Ranked (net_of n)
  pub low : ranked.top < parts n
  pub timed : (d : List ℤ) → Bounded (2 ^ 29) d → Timed (circuit_of n) (at d) (at (arrivals n d)) (at (requireds n d))

pub clock : {n : Netlist} → Accepted n → Clock n
clock {n} q =
    let j = q.judged in
    let l = layered j.some j.wired q.ordered in
    record { judged = j; ranked = l.ranked; low = l.low; timed = λ d h. timed (judged_joined j) q.ordered h }

module _ {n : Netlist} (k : Clock n) {d : List ℤ} (small : Bounded (2 ^ 29) d) where
  -- the times that the functions give are the only ones that satisfy the equations
  pub times_only : {a r : ℕ → ℤ} → Timed (circuit_of n) (at d) a r → (x : ℕ) → x < parts n → (a x ≡ at (arrivals n d) x) × (r x ≡ at (requireds n d) x)
  times_only t x h = times_unique t (k.timed d small) k.ranked {x = x} h

  -- said by kinds, as document 01 says it: an input's arrival and an output's required time is its own time
  pub input_arrival : (x : ℕ) → x < parts n → kind n x ≡ 0 → at (arrivals n d) x ≡ at n.times x
  unfolding begin
  input_arrival x h e = start_arrival (k.timed d small) {x = x} (λ z w. k.judged.not_in w.0 w.1 (ap (kind n) w.3 ∙ e)) h

  pub output_required : (x : ℕ) → x < parts n → kind n x ≡ 2 → at (requireds n d) x ≡ at n.times x
  output_required x h e = end_required (k.timed d small) {x = x} (λ z w. k.judged.not_out w.0 w.1 (ap (kind n) w.2 ∙ e)) h

  -- what is analysed is the least path slack through each component
  pub slacks_least : (x : ℕ) → x < parts n → LeastThrough (circuit_of n) (at d) x (at (slacks n d) x)
  slacks_least x h = rw (slack_at_lem n d {x = x} h) (least_through (k.timed d small) k.ranked {x = x} h)
