-- That the rounds end by themselves (request 6 of document 02), said of a netlist n and of the delays d that they start from.
use Rattle.std.specs.Prelude.{◌≡◌, true, List, ℕ, ◌≤◌, ℤ, pos, ◌≤ℤ◌}
use Rattle.circuit.specs.Netlist.{Netlist, served_of, serves}
use Rattle.circuit.specs.Times.{arrivals, requireds, slack_at}
use Rattle.circuit.specs.Rounds.{Run}
use Rattle.circuit.specs.Budget.{to_serve, final_from, rounds_from}

-- no served component has positive slack at the delays f
abbrev pub NoneLeft : Netlist → List ℤ → Type 0
NoneLeft n f = (x : ℕ) → serves n x ≡ true → slack_at (arrivals n f) (requireds n f) x ≤ℤ pos 0

-- After as many rounds as there are components to serve, none of them has positive slack: `none_left` of the final delays. So there is a run, it ends
-- where `final_from` does after as many rounds as `rounds_from` counts, there is no other, and its rounds are no more than the components to serve.
pub record RoundsEnd (n : Netlist) (d : List ℤ) : Type 0 where
  pub none_left : NoneLeft n (final_from n d)
  pub run : Run n (served_of n.kinds) d (final_from n d) (rounds_from n d)
  pub only : {f : List ℤ} {c : ℕ} → Run n (served_of n.kinds) d f c → (f ≡ final_from n d) × (c ≡ rounds_from n d)
  pub few : rounds_from n d ≤ to_serve n
