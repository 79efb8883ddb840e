-- How the code meets read back: what it holds of a netlist and a result that were judged, and what it leaves.
use Rattle.std.specs.Prelude.{◌≡◌, refl, List, ◌++◌, ℕ, ℤ, length, take, drop, Result, Ok, Err}
use Rattle.std.proofs.Math.Path.{sym, ap}
use Rattle.std.proofs.Common.{◌∙◌, arith, length-take, length-take-le, take_at}
use Rattle.circuit.specs.Netlist.{served_of}
use Rattle.circuit.proofs.ServedLaws.{length-served}
use Rattle.netlists.specs.declared.Extent.{Extent}
use Rattle.netlists.specs.declared.Fault.{Fault}
use Rattle.netlists.specs.declared.Decoded.{Decoded}
use Rattle.netlists.specs.Judge.{net_on, board_of, judge_of}
use Rattle.netlists.specs.Held.{BoardIn, Judges}
use Rattle.results.specs.declared.Summary.{Summary}
use Rattle.results.specs.declared.Misfit.{Misfit}
use Rattle.results.specs.Result.{says, told_of, bounds_read}
use Rattle.results.specs.Judging.{Heard}
use Rattle.results.specs.Bounds.{length-read}
use Rattle.results.specs.Accepted as Q
use Rattle.hozbantir.specs.declared.answers.Refusal.TheVariants as R
use Rattle.hozbantir.specs.Answers.{Answer, number_of, place_of, refusal, in_room, on_told}
use Rattle.hozbantir.proofs.AnswerLaws.{Refused, unless_refused, unless_done, verdict_good}
use Rattle.hozbantir.specs.Calls.{taken_of, result_on, both_of, said_of, bounds_on, read_back_of}
use Rattle.hozbantir.proofs.CallLaws.{both_refused, both_taken}
use Rattle.hozbantir.specs.Taken.{Taken}
use Rattle.hozbantir.proofs.TakenLaws.{accepted_taken, good_filled}
use Rattle.hozbantir.proofs.BudgetingLaws.{taken_bases, taken_columns}
use Rattle.hozbantir.specs.Reading.{Listened, ToldIn, Both, Listed}

-- ---- the result

module _ {ks : List ℕ} {b : List ℤ} {q sv incs : List ℕ} (e : sv ≡ served_of ks) where
  pub listened_wrong : {m : Misfit} → Heard q sv b (Err m) incs → Listened ks b q (Err (R.Result m.0)) sv incs
  unfolding result_on
  listened_wrong h = record { answer = rw (← e, ← h.told); marks = e; says = λ {n} d. cc }

  pub listened_right : {y : Summary} → Heard q sv b (Ok y) incs → Listened ks b q (Ok (length ks)) sv incs
  unfolding result_on
  listened_right h = record { answer = rw (← e, ← h.told); marks = e; says = λ {n} d. h.read refl ∙ rw e refl }

-- marks and increments that were put in the first n places of their arrays
pub listened_front : {ks : List ℕ} {b : List ℤ} {q sv incs : List ℕ} {r : Answer} {n : ℕ} (sv₀ incs₀ : List ℕ) → length sv ≡ n → length incs ≡ n → Listened ks b q r sv incs
    → Listened ks b q r (take n (sv ++ drop n sv₀)) (take n (incs ++ drop n incs₀))
listened_front {sv = sv} {incs} {n = n} sv₀ incs₀ p i l = rw (take_at sv (drop n sv₀) n p, take_at incs (drop n incs₀) n i) l

-- ---- netlist and result

-- where a result is taken, there are as many components as the answer counts
told_taken : (told : Result Summary Misfit) {c n : ℕ} → on_told told (Ok c) ≡ Ok n → ((m : ℕ) × (t : ℕ) × (k : ℕ) × (told ≡ Ok (says m t k))) × (n ≡ c)
told_taken (Ok t) e = ((t.mode, t.share, t.rounds, refl), sym (ap place_of e))
told_taken (Err m) e = cc

result_taken : (ks : List ℕ) (b : List ℤ) (q : List ℕ) {n : ℕ} → result_on ks b q ≡ Ok n → ((m : ℕ) × (t : ℕ) × (k : ℕ) × (told_of q (served_of ks) b ≡ Ok (says m t k))) × (n ≡ length ks)
unfolding result_on
result_taken ks b q e = told_taken (told_of q (served_of ks) b) e

-- the netlist s and the result q are taken, with n components, and the result's summary says mode m, share t and k rounds
pub record Agree (s q : List ℕ) (n m t k : ℕ) : Type 0 where
  pub taken : Taken (net_on (board_of s)) (board_of s).bases
  pub count : n ≡ length (board_of s).kinds
  pub told : told_of q (served_of (board_of s).kinds) (board_of s).bases ≡ Ok (says m t k)

pub both_agree : (s q : List ℕ) {n : ℕ} → both_of s q ≡ Ok n → (m : ℕ) × (t : ℕ) × (k : ℕ) × Agree s q n m t k
unfolding both_of
both_agree s q e =
    let (taken, done) = verdict_good (judge_of s) (result_on (board_of s).kinds (board_of s).bases q) e in
    let ((m, t, k, told), count) = result_taken (board_of s).kinds (board_of s).bases q done in
    (m, t, k, record { taken = accepted_taken s taken.1; count = count; told = told })

pub agree_both : (s q : List ℕ) {n m t k : ℕ} → taken_of s ≡ Ok n → told_of q (served_of (board_of s).kinds) (board_of s).bases ≡ Ok (says m t k) → both_of s q ≡ Ok (length (board_of s).kinds)
unfolding taken_of both_of result_on
agree_both s q e told =
    let taken = (verdict_good (judge_of s) (Ok (length (board_of s).kinds)) e).0.1 in
    rw (taken, told)

module _ {s : List ℕ} {a : Decoded} (q : List ℕ) where
  pub both_not : {f : Fault} {sv incs : List ℕ} → Judges s (Err f) a → Both s q (Err (R.Netlist f)) a.bases sv incs
  both_not j = let (f, g) = both_refused j q in record { answer = f; held = λ {n} d. absurd (g n d) }

  pub both_heard : {e : Extent} {r : Answer} {sv incs : List ℕ} → Judges s (Ok e) a
      → Listened (take e.components a.kinds) (take e.components a.bases) q r (take e.components sv) (take e.components incs) → Both s q r a.bases sv incs
  both_heard {e} {r} {sv} {incs} j l = record { answer = both_taken j q l.answer; held = held' }
    where
      b : BoardIn (board_of s) e a
      b = j.decodes

      held' : {c : ℕ} → r ≡ Ok c → ToldIn s q c a.bases sv incs
      held' {c} d =
          let same : c ≡ e.components = (result_taken (take e.components a.kinds) (take e.components a.bases) q (sym l.answer ∙ d)).1 ∙ (good_filled j).parts_are in
          rw same (record { bases = b.bases; marks = l.marks ∙ rw b.kinds refl; increments = l.says d ∙ rw (b.kinds, b.bases) refl })

-- ---- the bounds

pub length-listed : {n : ℕ} {sv : List ℕ} {bs : List ℤ} {incs : List ℕ} → Listed n sv bs incs → length (bounds_read (take n sv) (take n bs) (take n incs)) ≡ n
length-listed {n} {sv} {bs} {incs} l = length-read (take n sv) (take n bs) (take n incs) ∙ length-take-le n sv l.marks_all

module _ {s q : List ℕ} {r : Answer} {bs : List ℤ} {sv incs : List ℕ} (b : Both s q r bs sv incs) where
  pub reads_refused : (room : ℕ) → Refused r → read_back_of s q room ≡ refusal r
  unfolding read_back_of
  reads_refused room h = rw (sym b.answer) (unless_refused r _ h)

  module _ {n : ℕ} (e : r ≡ Ok n) where
    abbrev done : both_of s q ≡ Ok n
    done = sym b.answer ∙ e

    pub both_listed : Listed n sv bs incs
    both_listed =
        let (m, t, k, a) = both_agree s q done in
        let l = b.held e in
        let says = (Q.accepted q (served_of (board_of s).kinds) (board_of s).bases a.told).says in
        let all : length (said_of s q) ≡ length (board_of s).kinds = says.all ∙ length-served (board_of s).kinds in
        record {
          aligned = rw (l.bases, l.marks, l.increments) (taken_columns a.taken refl all);
          bases = rw l.bases (taken_bases a.taken);
          increments = rw l.increments (record { most = says.raised.most });
          marks_all = omega (arith, length-take n sv, ap length l.marks, length-served (board_of s).kinds, a.count);
          bases_all = omega (arith, length-take n bs, ap length l.bases, a.taken.based.all, a.count);
          incs_all = omega (arith, length-take n incs, ap length l.increments, all, a.count);
        }

    pub reads_done : (room : ℕ) → read_back_of s q room ≡ in_room room n (bounds_read (take n sv) (take n bs) (take n incs))
    unfolding read_back_of bounds_on
    reads_done room =
        let a = (both_agree s q done).3 in
        let l = b.held e in
        unless_done (both_of s q) _ (ap number_of done) ∙ rw (sym a.count, l.bases, l.marks, l.increments)
