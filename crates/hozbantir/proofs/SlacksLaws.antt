-- How the code meets analyse: the times that it holds of a netlist that was judged, their slacks, and what it leaves.
use Rattle.std.specs.Prelude.{◌≡◌, refl, List, ◌++◌, ℕ, ◌<◌, ℤ, pos, length, get_or, take, drop, Ok, Err}
use Rattle.std.proofs.Common.{sym, ap, ◌∙◌, arith, length-take, length-take-le, take_at}
use Rattle.whole.specs.Whole.{whole}
use Rattle.circuit.proofs.ListLaws.{length-tabulate, get_or-tabulate}
use Rattle.circuit.specs.Netlist.{Netlist, parts}
use Rattle.circuit.specs.Times.{arrivals, requireds, slack_at, slacks}
use Rattle.circuit.proofs.TimesLaws.{length-arrivals, length-requireds}
use Rattle.circuit.proofs.ClockLaws.{clock}
use Rattle.circuit.proofs.SafeLaws.{slack_range}
use Rattle.timing.specs.Ready.{Ready, Gauged, Narrow}
use Rattle.timing.specs.Bounds.{times_gauged}
use Rattle.rounds.specs.Budgets.{given_ready}
use Rattle.netlists.specs.declared.Extent.{Extent}
use Rattle.netlists.specs.declared.Fault.{Fault}
use Rattle.netlists.specs.declared.Decoded.{Decoded}
use Rattle.netlists.specs.Judge.{net_on, board_of}
use Rattle.netlists.specs.Held.{BoardIn, Judges}
use Rattle.hozbantir.specs.declared.answers.Refusal.TheVariants as R
use Rattle.hozbantir.specs.Answers.{Answer, number_of, place_of, refusal, in_room}
use Rattle.hozbantir.proofs.AnswerLaws.{Refused, unless_refused, unless_done}
use Rattle.hozbantir.specs.Calls.{taken_of, analysis_on, analysis_of}
use Rattle.hozbantir.proofs.CallLaws.{taken_refused, taken_done}
use Rattle.hozbantir.specs.Taken.{Taken, net_in}
use Rattle.hozbantir.proofs.TakenLaws.{taken_given, said_taken, taken_count}
use Rattle.hozbantir.specs.Slacks.{slacks_by, AtBase, Clocked, Paired}

pub length-slacks : (n : Netlist) (b : List ℤ) → length (slacks n b) ≡ parts n
unfolding slacks
length-slacks n b = length-tabulate _ (parts n)

module _ (a r : List ℤ) where
  pub length-by : length (slacks_by a r) ≡ length a
  length-by = length-tabulate (slack_at a r) (length a)

  pub slack_by : (x : ℕ) → x < length a → slack_at a r x ≡ get_or (slacks_by a r) x (pos 0)
  slack_by x h = sym (get_or-tabulate (slack_at a r) (length a) x (pos 0) h)

-- ---- the times of a netlist

-- times that were put in the first k places of their arrays
pub timed_front : {n : Netlist} {b arr req : List ℤ} {k : ℕ} (arr₀ req₀ : List ℤ) → length arr ≡ k → length req ≡ k → AtBase n b arr req
    → AtBase n b (take k (arr ++ drop k arr₀)) (take k (req ++ drop k req₀))
timed_front {arr = arr} {req} {k} arr₀ req₀ f g t = rw (take_at arr (drop k arr₀) k f, take_at req (drop k req₀) k g) t

module _ {n : Netlist} {b : List ℤ} (g : Taken n b) where
  pub taken_ready : Ready n b
  taken_ready = given_ready (taken_given g refl)

  narrow : Narrow (arrivals n b) (requireds n b)
  narrow = record { at = λ x h. let r = slack_range (clock g.accepted) g.based x (rw (length-arrivals n b) at h) in record { upper = omega whole; lower = omega whole } }

  module _ {arr req : List ℤ} (t : AtBase n b arr req) where
    -- their slacks can be taken, and go into 32 bits
    timed_gauged : Gauged arr req
    timed_gauged = rw (t.arrived, t.due) (times_gauged taken_ready)

    timed_narrow : Narrow arr req
    timed_narrow = rw (t.arrived, t.due) narrow

    timed_slacks : slacks_by arr req ≡ slacks n b
    unfolding slacks
    timed_slacks = rw (t.arrived, t.due, length-arrivals n b)

-- ---- the netlist file

module _ {s : List ℕ} {a : Decoded} {arr req : List ℤ} where
  pub clocked_not : {f : Fault} → Judges s (Err f) a → Clocked s (Err (R.Netlist f)) arr req
  clocked_not j = let (q, g) = taken_refused j in record { answer = q; held = λ {n} d. absurd (g n d) }

  pub clocked_good : {e : Extent} → Judges s (Ok e) a → AtBase (net_in e a) (take e.components a.bases) (take e.components arr) (take e.components req) → Clocked s (Ok e.components) arr req
  clocked_good {e} j t = record { answer = taken_done j; held = λ {n = k} d. rw (sym (ap place_of d)) (rw (b.kinds, b.times, b.froms, b.tos, b.bases) at t) }
    where
      b : BoardIn (board_of s) e a
      b = j.decodes

-- ---- the slacks

pub length-paired : {n : ℕ} {arr req : List ℤ} → Paired n arr req → length (slacks_by (take n arr) (take n req)) ≡ n
length-paired {n} {arr} {req} p = length-by (take n arr) (take n req) ∙ length-take-le n arr p.arrs_all

module _ {s : List ℕ} {r : Answer} {arr req : List ℤ} (t : Clocked s r arr req) where
  pub analysis_refused : (room : ℕ) → Refused r → analysis_of s room ≡ refusal r
  unfolding analysis_of
  analysis_refused room h = rw (sym t.answer) (unless_refused r _ h)

  module _ {n : ℕ} (e : r ≡ Ok n) where
    abbrev done : taken_of s ≡ Ok n
    done = sym t.answer ∙ e

    count : n ≡ length (board_of s).kinds
    count = ap place_of (sym done ∙ taken_count s done)

    pub clocked_paired : Paired n arr req
    clocked_paired =
        let taken = said_taken s done in
        let h = t.held e in
        record {
          gauged = timed_gauged taken h;
          narrow = timed_narrow taken h;
          arrs_all = omega (arith, length-take n arr, ap length h.arrived, length-arrivals (net_on (board_of s)) (board_of s).bases, count);
          reqs_all = omega (arith, length-take n req, ap length h.due, length-requireds (net_on (board_of s)) (board_of s).bases, count);
        }

    pub analysis_done : (room : ℕ) → analysis_of s room ≡ in_room room n (slacks_by (take n arr) (take n req))
    unfolding analysis_of analysis_on
    analysis_done room = unless_done (taken_of s) _ (ap number_of done) ∙ rw (sym count, timed_slacks (said_taken s done) (t.held e))

    -- the same, counting what is in front
    pub analysis_by : (room : ℕ) → analysis_of s room ≡ in_room room (length (take n arr)) (slacks_by (take n arr) (take n req))
    analysis_by room = analysis_done room ∙ ap (λ k. in_room room k (slacks_by (take n arr) (take n req))) (sym (length-take-le n arr clocked_paired.arrs_all))
