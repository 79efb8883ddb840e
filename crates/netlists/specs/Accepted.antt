-- What an accepted netlist has, and that the place of every verdict is small.
use Rattle.std.specs.Prelude.{◌≡◌, refl, ◌⊎◌, List, ℕ, ◌≤◌, ◌<◌, pos, get_or, Ok, Err}
use Rattle.std.proofs.Common.{ap, ◌∙◌, inl, inr, ⊎_elim, arith}
use Rattle.std.proofs.Math.Decide.{ℕ_discrete}
use Rattle.std.proofs.Math.ListN.{length, get_or-eq_default}
use Rattle.whole.specs.Whole.{whole}
use Rattle.whole.specs.Range.{Within, Bounded}
use Rattle.whole.specs.Pick.{lt, decide, if_cases}
use Rattle.circuit.specs.Lists.{tabulate}
use Rattle.circuit.proofs.ListLaws.{get_or-tabulate, lowest_first}
use Rattle.circuit.specs.Netlist.{Wired, Sorted, Judged, Rising, Based}
use Rattle.netlists.specs.declared.Extent.{Extent}
use Rattle.netlists.specs.declared.Fault.{Fault}
use Rattle.netlists.specs.declared.Fault.TheVariants.{Broken, Tag, Size, Field, Wiring, Ends}
use Rattle.netlists.specs.Judge.{Verdict, Board, net_on, key, ends, faulty, lowest_fault, with_ends, board_of, records_of, judge_of, place_of}
use Rattle.netlists.specs.BoardLaws.{Delay, Fine, Early, Final}
use Rattle.netlists.specs.FuelLaws.{board_fine}
use Rattle.netlists.specs.EndsLaws.{Ended, not_faulty, ends_none, ends_some}

-- ---- what holds below the length of a list, and of 0 past it, holds everywhere

everywhere : {A : Type 0} (P : A → Type 0) (l : List A) (d : A) → P d → ((x : ℕ) → x < length l → P (get_or l x d)) → (x : ℕ) → P (get_or l x d)
everywhere P l d p f x = ⊎_elim (λ h. f x h) (λ h. rw (get_or-eq_default l d {n = x} h) p) (decide (lt x (length l)))

-- ---- the netlist of a fine board

-- a key rises with `to`, and with `from` where `to` stays
by_key : {f t f' t' : ℕ} → f < 65536 → f' < 65536 → key f t < key f' t' → (t < t') ⊎ ((t ≡ t') × (f < f'))
by_key {f} {t} {f'} {t'} h h' g = by (ℕ_discrete t t')
  where
    by : Dec (t ≡ t') → (t < t') ⊎ ((t ≡ t') × (f < f'))
    by (yes e) = inr (e, omega arith)
    by (no e) = inl (omega arith)

module _ {b : Board} (fine : Fine b) (some : 0 < length b.kinds) where
  times_in : Bounded 100000000 b.times
  times_in = record { at = everywhere (Within 100000000) b.times (pos 0) (record { upper = omega arith; lower = omega arith }) (λ x h. (fine.times x (omega arith)).in_range) }

  wired : Wired b.froms b.tos (length b.kinds)
  wired = record {
    source = everywhere (λ x. x < length b.kinds) b.froms 0 some (λ j h. (fine.wires j h).source);
    target = everywhere (λ x. x < length b.kinds) b.tos 0 some (λ j h. (fine.wires j (omega arith)).target);
    paired = fine.paired;
    few = fine.fewer;
  }

  sorted : Sorted b.froms b.tos
  sorted = record {
    rise = λ i j h g.
        let p = fine.wires i (omega arith) in
        let q = fine.wires j g in
        by_key (omega arith) (omega arith) (fine.sorted i j h g);
  }

  rising : Rising (net_on b)
  rising = record { rise = λ j h. (fine.wires j h).rises }

  delay : (x : ℕ) → Delay (get_or b.kinds x 0) (get_or b.bases x (pos 0))
  delay x = ⊎_elim (λ h. fine.delays x h) (λ h. past h) (decide (lt x (length b.kinds)))
    where
      past : length b.kinds ≤ x → Delay (get_or b.kinds x 0) (get_or b.bases x (pos 0))
      past h = rw (get_or-eq_default b.kinds 0 {n = x} h, get_or-eq_default b.bases (pos 0) {n = x} (omega arith)) (record { size = 0; is = refl; most = omega arith; none = λ e. refl })

  based : Based (net_on b) b.bases
  based = record {
    all = fine.bases_all;
    least = λ x. rw (delay x).is (omega whole);
    most = λ x. let d = delay x in rw d.is (omega whole);
    none = λ x e. (delay x).is ∙ ap pos ((delay x).none e);
  }

  -- where no component is faulty
  module _ (none : length b.kinds ≤ lowest_fault b) where
    ended : (x : ℕ) → x < length b.kinds → Ended (get_or b.kinds x 0) (ends b.tos x) (ends b.froms x)
    unfolding lowest_fault
    ended x h =
        let n = length b.kinds in
        let ins = tabulate (ends b.tos) n in
        let outs = tabulate (ends b.froms) n in
        rw (get_or-tabulate (ends b.tos) n x 0 h, get_or-tabulate (ends b.froms) n x 0 h) at
        (not_faulty b.kinds ins outs x (lowest_first (faulty b.kinds ins outs) n x (omega arith)))

    judged : Judged (net_on b)
    judged = record {
      some = some;
      few = fine.few;
      times_all = fine.times_all;
      times_in = times_in;
      wired = wired;
      sorted = sorted;
      not_in = λ j h e. ends_none b.tos (get_or b.tos j 0) ((ended (get_or b.tos j 0) (fine.wires j h).target).input e) j (omega (arith, fine.paired)) refl;
      not_out = λ j h e. ends_none b.froms (get_or b.froms j 0) ((ended (get_or b.froms j 0) (fine.wires j h).source).output e) j h refl;
      entered = λ x h. enters x h (ℕ_discrete (get_or b.kinds x 0) 0);
      left = λ x h. leaves x h (ℕ_discrete (get_or b.kinds x 0) 2);
    }
      where
        enters : (x : ℕ) → x < length b.kinds → Dec (get_or b.kinds x 0 ≡ 0) → (get_or b.kinds x 0 ≡ 0) ⊎ ((j : ℕ) × (j < length b.froms) × (get_or b.tos j 0 ≡ x))
        enters x h (yes e) = inl e
        enters x h (no e) = let (j, l, q) = ends_some b.tos x ((ended x h).fed e) in inr (j, omega (arith, fine.paired), q)

        leaves : (x : ℕ) → x < length b.kinds → Dec (get_or b.kinds x 0 ≡ 2) → (get_or b.kinds x 0 ≡ 2) ⊎ ((j : ℕ) × (j < length b.froms) × (get_or b.froms j 0 ≡ x))
        leaves x h (yes e) = inl e
        leaves x h (no e) = inr (ends_some b.froms x ((ended x h).feeds e))

-- ---- the verdicts

-- what a verdict says, with ENDS, of the board where the records ended
abbrev Outcome : Board → Verdict → Type 0
Outcome b (Ok e) = (e.components ≡ length b.kinds) × (e.connections ≡ length b.froms) × (0 < e.components) × (length b.kinds ≤ lowest_fault b)
Outcome b (Err (Broken a)) = a ≤ 61440
Outcome b (Err (Tag a)) = a ≤ 61440
Outcome b (Err (Size a)) = a ≤ 61440
Outcome b (Err (Field a)) = a ≤ 61440
Outcome b (Err (Wiring a)) = a ≤ 61440
Outcome b (Err (Ends x)) = x < length b.kinds

early : (b : Board) (f : Fault) → Early f → Outcome b (Err f)
early b (Broken a) h = h
early b (Tag a) h = h
early b (Size a) h = h
early b (Field a) h = h
early b (Wiring a) h = h
early b (Ends x) h = absurd h

outcome : (b : Board) (v : Verdict) → Final b v → Outcome b (with_ends b v)
outcome b (Ok e) f = if_cases (Outcome b) _ _ _ (λ h. h) (λ h. (f.0, f.1, f.2, h))
outcome b (Err e) f = early b e f

judge_outcome : (s : List ℕ) → Outcome (board_of s) (judge_of s)
unfolding judge_of
judge_outcome s = outcome (board_of s) (records_of s) (board_fine s).1

-- what an accepted netlist of this extent has
pub record Accepted (s : List ℕ) (e : Extent) : Type 0 where
  pub parts_are : e.components ≡ length (board_of s).kinds
  pub wires_are : e.connections ≡ length (board_of s).froms
  pub judged : Judged (net_on (board_of s))
  pub rising : Rising (net_on (board_of s))
  pub based : Based (net_on (board_of s)) (board_of s).bases
  pub known : (x : ℕ) → x < e.components → get_or (board_of s).kinds x 0 ≤ 2
  pub inner : (x : ℕ) → x < e.components → get_or (board_of s).kinds x 0 ≡ 1 → get_or (board_of s).times x (pos 0) ≡ pos 0

pub accepted : (s : List ℕ) {e : Extent} → judge_of s ≡ Ok e → Accepted s e
accepted s q =
    let fine = (board_fine s).0 in
    let (parts, wires, some, none) = rw q at (judge_outcome s) in
    record {
      parts_are = parts;
      wires_are = wires;
      judged = judged fine (omega arith) none;
      rising = rising fine (omega arith);
      based = based fine (omega arith);
      known = λ x h. (fine.times x (omega arith)).known;
      inner = λ x h. (fine.times x (omega arith)).inner;
    }

small : (b : Board) (v : Verdict) → length b.kinds ≤ 1024 → Outcome b v → place_of v < 65536
small b (Ok e) h o = omega arith
small b (Err (Broken a)) h o = omega arith
small b (Err (Tag a)) h o = omega arith
small b (Err (Size a)) h o = omega arith
small b (Err (Field a)) h o = omega arith
small b (Err (Wiring a)) h o = omega arith
small b (Err (Ends x)) h o = omega arith

-- whatever the file's length
pub place_small : (s : List ℕ) → place_of (judge_of s) < 65536
place_small s = small (board_of s) (judge_of s) (board_fine s).0.few (judge_outcome s)
