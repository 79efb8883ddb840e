-- What a round's functions ask, and what they give.
use Rattle.std.specs.Prelude.{◌≡◌, refl, Option, Some, None, Bool, true, false, cond, List, ℕ, ◌+◌, ◌*◌, ◌^◌, ◌<◌, ◌≤◌, ℤ, length}
use Rattle.std.proofs.Common.{sym, ◌∙◌, arith, lt-ltb, le-ltb}
use Rattle.whole.specs.Whole.{whole, up, down, apart}
use Rattle.whole.specs.Range.{bounded_more}
use Rattle.circuit.specs.Lists.{below}
use Rattle.circuit.specs.Netlist.{Netlist, parts}
use Rattle.circuit.specs.Times.{arrivals, requireds, slack_at, Accepted}
use Rattle.circuit.specs.Rounds.{given, chosen, choice_of, moves, round_of}
use Rattle.circuit.proofs.TimesLaws.{length-arrivals}
use Rattle.circuit.proofs.ClockLaws.{clock}
use Rattle.circuit.specs.Safe.{Safe}
use Rattle.circuit.proofs.SafeLaws.{safe_bounded, safe_timed, slack_most}
use Rattle.timing.specs.Ready.{Ready}
use Rattle.segments.specs.Lent.{Laid}
use Rattle.circuit.proofs.BelowLaws.{below_is, below_not}

-- the netlist n at the delays d can be timed, and no slack is more than a round can share out
pub record Steady (n : Netlist) (d : List ℤ) : Type 0 where
  pub ready : Ready n d
  pub few : parts n ≤ 1024
  pub slack : (x : ℕ) → x < parts n → up (slack_at (arrivals n d) (requireds n d) x) ≤ 2 ^ 30

up_most : (z : ℤ) (b : ℕ) → up z ≤ b + down z → up z ≤ b
up_most z b h = omega (arith, apart z)

-- in time, so no delay is above 200,000,000: the one law that bounds the rounds
pub steady : {n : Netlist} {d : List ℤ} → Accepted n → Safe n d → Steady n d
steady {n} {d} q s =
    let k = clock q in
    let j = q.judged in
    record {
      ready = record { wired = j.wired; times_all = j.times_all; delays_all = s.all; times_in = bounded_more (omega arith) j.times_in; delays_in = bounded_more (omega arith) (safe_bounded k s) };
      few = j.few;
      slack = λ x h. up_most (slack_at (arrivals n d) (requireds n d) x) (2 ^ 30) (omega (whole, slack_most k d (safe_timed k s) s.least x h));
    }

-- whether a round was done, and the delays after it
pub record Rounded (n : Netlist) (sv : List ℕ) (d d' : List ℤ) (b : Bool) : Type 0 where
  pub moved : b ≡ moves n sv d
  pub after : d' ≡ cond b (round_of n sv d) d

-- whether there is a component to start from, and what is spent there
module _ {n : Netlist} (sv : List ℕ) {d a r : List ℤ} (t : (a ≡ arrivals n d) × (r ≡ requireds n d)) where
  pub round_yes : {x : ℕ} {d' : List ℤ} → Some x ≡ below (parts n) (chosen n sv d) → d' ≡ given n.froms n.tos sv d a r x → Rounded n sv d d' true
  unfolding moves round_of
  round_yes {x} h e =
      let (q, i) = below_is (parts n) (chosen n sv d) h in
      record { moved = sym (rw (← q) (lt-ltb x (parts n) i)); after = e ∙ rw (t.0, t.1, q) refl }

pub round_no : {n : Netlist} {sv : List ℕ} {d : List ℤ} → None ≡ below (parts n) (chosen n sv d) → Rounded n sv d d false
unfolding moves
round_no {n} {sv} {d} h = record { moved = sym (le-ltb (chosen n sv d) (parts n) (below_not (parts n) (chosen n sv d) h)); after = refl }

-- the times of a round, and what the choice among them answers
module _ {n : Netlist} (sv : List ℕ) {d a r : List ℤ} (s : Steady n d) (l : length sv ≡ parts n) (t : (a ≡ arrivals n d) × (r ≡ requireds n d)) where
  pub chose : {x : Option ℕ} → x ≡ below (length sv) (choice_of sv a r (length sv)) → x ≡ below (parts n) (chosen n sv d)
  unfolding chosen
  chose h = h ∙ rw (t.0, t.1, l) refl

  pub choosable : length a ≡ length sv
  choosable = rw (t.0, l) (length-arrivals n d)

  pub laid : Laid n.froms n.tos d a × (length sv ≡ length d)
  laid =
      let w = s.ready in
      (rw t.0 (record { wires = rw w.delays_all w.wired; times_all = length-arrivals n d ∙ sym w.delays_all; delays_in = w.delays_in }), l ∙ sym w.delays_all)

  module _ {x : ℕ} (h : Some x ≡ below (length sv) (choice_of sv a r (length sv))) where
    -- all that spending a slack asks of the component
    pub spendable : {room : ℕ} → room ≡ 2 * length d + 1 → (x < length d) × (length d ≤ 1024) × (room ≡ 2 * length d + 1) × (up (slack_at a r x) ≤ 2 ^ 30)
    spendable m =
        let e = s.ready.delays_all in
        let i = (below_is (parts n) (chosen n sv d) (chose h)).1 in
        (omega arith, rw e s.few, m, rw (t.0, t.1) (s.slack x i))
