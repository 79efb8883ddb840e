-- From the records and ENDS to the netlist.
use Rattle.std.specs.Prelude.{◌≡◌, List, ℕ, ◌≤◌, length, take, Option, Some, None, Ok, Err}
use Rattle.std.proofs.Common.{refl, ap, sym, ◌∙◌, arith}
use Rattle.whole.specs.Pick.{if_yes, if_no}
use Rattle.circuit.specs.Lists.{below}
use Rattle.circuit.proofs.BelowLaws.{below_is, below_not}
use Rattle.circuit.specs.Netlist.{Netlist, netlist, Judged, Rising, Based}
use Rattle.circuit.specs.declared.Circuit.{Circuit}
use Rattle.netlists.specs.declared.Extent.{Extent}
use Rattle.netlists.specs.declared.Fault.{Fault}
use Rattle.netlists.specs.declared.Fault.TheVariants.{Ends}
use Rattle.netlists.specs.declared.Decoded.{Decoded}
use Rattle.netlists.specs.Judge.{lowest_fault, with_ends, board_of, judge_of}
use Rattle.netlists.specs.Held.{Front, BoardIn, Read, Judges}
use Rattle.netlists.specs.Ends.{Below, fault_of}
use Rattle.netlists.specs.BoardLaws.{Final}
use Rattle.netlists.specs.FuelLaws.{board_fine}
use Rattle.netlists.specs.Accepted.{Accepted, accepted}

-- ---- ENDS, and the verdict

-- a refusal of its records is the netlist's
pub read_refused : {s : List ℕ} {f : Fault} {a : Decoded} → Read s (Err f) a → Judges s (Err f) a
unfolding judge_of
read_refused {s} r = record { judged = ap (with_ends (board_of s)) r.judged; decodes = tt }

module _ {s : List ℕ} {e : Extent} {a : Decoded} (read : Read s (Ok e) a) where
  final : Final (board_of s) (Ok e)
  final = rw (← read.judged) at (board_fine s).1

  -- no more than the arrays have room for
  pub read_few : e.components ≤ 1024
  read_few = omega (arith, final.0, (board_fine s).0.few)

  pub read_fewer : e.connections ≤ 4096
  read_fewer = omega (arith, final.1, (board_fine s).0.fewer)

  module _ {c : Circuit} (f : Front c e a) where
    pub read_parts : length c.kinds.now ≡ e.components
    read_parts = rw (f.kinds, read.decodes.kinds) (sym final.0)

    -- what ENDS asks of the columns: the connections of a fine board are between its components
    pub read_from : Below c.from.now (length c.kinds.now)
    read_from = let fine = (board_fine s).0 in rw (f.from, read.decodes.froms, f.kinds, read.decodes.kinds) (record { each = λ j h. (fine.wires j h).source })

    pub read_to : Below c.to.now (length c.kinds.now)
    read_to = let fine = (board_fine s).0 in rw (f.to, read.decodes.tos, f.kinds, read.decodes.kinds) (record { each = λ j h. (fine.wires j (omega arith)).target })

    -- ENDS over the columns is ENDS over the board
    ends_same : fault_of c.kinds.now c.from.now c.to.now ≡ lowest_fault (board_of s)
    unfolding fault_of lowest_fault
    ends_same = rw (f.kinds, f.from, f.to, read.decodes.kinds, read.decodes.froms, read.decodes.tos) refl

    module _ {r : Option ℕ} (found : r ≡ below (length c.kinds.now) (fault_of c.kinds.now c.from.now c.to.now)) where
      -- what the search for a fault found, over the board
      told : r ≡ below e.components (lowest_fault (board_of s))
      told = found ∙ rw (read_parts, ends_same) refl

      pub read_faulty : {x : ℕ} → r ≡ Some x → Judges s (Err (Ends x)) a
      unfolding judge_of
      read_faulty q =
          let (p, h) = below_is e.components (lowest_fault (board_of s)) (sym q ∙ told) in
          record { judged = rw (← read.judged) (if_yes _ _ (omega (arith, final.0)) (rw p refl)); decodes = tt }

      pub read_sound : r ≡ None → Judges s (Ok e) a
      unfolding judge_of
      read_sound q =
          let h = below_not e.components (lowest_fault (board_of s)) (sym q ∙ told) in
          record { judged = rw (← read.judged) (if_no _ _ (omega (arith, final.0)) refl); decodes = read.decodes }

-- ---- what the caller of a taken netlist has in the arrays

-- the netlist of this extent at the front of the arrays
abbrev pub net_at : Extent → Decoded → Netlist
net_at e a = netlist (take e.components a.kinds) (take e.components a.times) (take e.connections a.from) (take e.connections a.to)

pub record Loaded (e : Extent) (a : Decoded) : Type 0 where
  pub parts_few : e.components ≤ 1024
  pub wires_few : e.connections ≤ 4096
  pub parts_are : length (take e.components a.kinds) ≡ e.components
  pub wires_are : length (take e.connections a.from) ≡ e.connections
  pub judged : Judged (net_at e a)
  pub rising : Rising (net_at e a)
  pub based : Based (net_at e a) (take e.components a.bases)

loads : (s : List ℕ) {e : Extent} {a : Decoded} → Accepted s e → BoardIn (board_of s) e a → Loaded e a
loads s q d = record {
  parts_few = omega (arith, q.parts_are, q.judged.few);
  wires_few = omega (arith, q.wires_are, q.judged.wired.few);
  parts_are = rw d.kinds (sym q.parts_are);
  wires_are = rw d.froms (sym q.wires_are);
  judged = rw (d.kinds, d.times, d.froms, d.tos) q.judged;
  rising = rw (d.kinds, d.times, d.froms, d.tos) q.rising;
  based = rw (d.kinds, d.times, d.froms, d.tos, d.bases) q.based;
}

pub loaded : {s : List ℕ} {a : Decoded} {e : Extent} → Judges s (Ok e) a → Loaded e a
loaded {s} j = loads s (accepted s (sym j.judged)) j.decodes
