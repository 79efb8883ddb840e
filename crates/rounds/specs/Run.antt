-- What the loop of the rounds keeps.
use Rattle.std.specs.Prelude.{◌≡◌, refl, Bool, true, false, List, ℕ, suc, ◌+◌, ◌<◌, ◌≤◌, ℤ, length}
use Rattle.std.proofs.Common.{sym, ◌∙◌, arith}
use Rattle.circuit.specs.Netlist.{Netlist, parts, served_of}
use Rattle.circuit.proofs.ListLaws.{count_le}
use Rattle.circuit.specs.Times.{Accepted, arrivals, requireds}
use Rattle.circuit.specs.Rounds.{Run, halt, turn, positive}
use Rattle.circuit.proofs.ClockLaws.{clock}
use Rattle.circuit.specs.Safe.{Safe}
use Rattle.circuit.proofs.RunLaws.{positives, round_keeps, round_falls}
use Rattle.rounds.specs.Round.{Rounded}

-- c rounds led from the delays d₀ to d, so that a run from d is one from d₀ with c rounds more; and each of them left fewer served components with
-- positive slack, so that the count stays small
pub record Running (n : Netlist) (d₀ d : List ℤ) (c : ℕ) : Type 0 where
  pub onward : {f : List ℤ} {e : ℕ} → Run n (served_of n.kinds) d f e → Run n (served_of n.kinds) d₀ f (c + e)
  pub few : c + positives n d ≤ parts n
  pub safe : Safe n d
  pub same : length d ≡ length d₀

pub running_starts : {n : Netlist} {d : List ℤ} → Safe n d → Running n d d 0
running_starts {n} {d} s = record {
  onward = λ {f} {e} q. let l : 0 + e ≡ e = omega arith in rw l q;
  few = omega (arith, count_le (positive (served_of n.kinds) (arrivals n d) (requireds n d)) (parts n));
  safe = s;
  same = refl;
}

module _ {n : Netlist} {d₀ d d' : List ℤ} {c : ℕ} {b : Bool} (q : Accepted n) (r : Running n d₀ d c) (e : Rounded n (served_of n.kinds) d d' b) where
  module _ (h : b ≡ true) where
    -- what the loop's end rests on: a round leaves fewer served components with positive slack
    pub running_falls : positives n d' < positives n d
    running_falls = rw (rw h at e.after) (round_falls (clock q) r.safe (sym e.moved ∙ h))

    pub running_few : c < 1024
    running_few = let i = r.few in let j = q.judged.few in omega (arith, running_falls)

    pub running_next : Running n d₀ d' (c + 1)
    running_next =
        let t = sym e.moved ∙ h in
        let i = r.few in
        let s = round_keeps (clock q) r.safe t in
        rw (rw h at e.after) (record {
          onward = λ {f} {e = k} u. let l : c + 1 + k ≡ c + suc k = omega arith in rw l (r.onward (turn t u));
          few = omega (arith, round_falls (clock q) r.safe t);
          safe = s;
          same = s.all ∙ sym r.safe.all ∙ r.same;
        })

  pub running_stops : b ≡ false → Run n (served_of n.kinds) d₀ d' c
  running_stops h =
      let l : c + 0 ≡ c = omega arith in
      rw (rw h at e.after) (rw l at (r.onward (halt (sym e.moved ∙ h))))
