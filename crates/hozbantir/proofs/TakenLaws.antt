-- What is known of a netlist that the reader took.
use Rattle.std.specs.Prelude.{◌≡◌, List, ℕ, ◌≤◌, ℤ, length, take, Ok}
use Rattle.std.proofs.Common.{sym, ◌∙◌, arith}
use Rattle.std.proofs.lemmas.List.{length-take}
use Rattle.circuit.specs.Netlist.{Netlist, served_of}
use Rattle.circuit.proofs.TimesLaws.{rising_order}
use Rattle.rounds.specs.Budgets.{Given}
use Rattle.netlists.specs.declared.Extent.{Extent}
use Rattle.netlists.specs.declared.Decoded.{Decoded}
use Rattle.netlists.specs.Held.{Judges}
use Rattle.netlists.specs.Judge.{net_on, board_of, judge_of}
use Rattle.netlists.specs.Accepted.{accepted}
use Rattle.netlists.specs.JudgeLaws.{loaded}
use Rattle.hozbantir.proofs.AnswerLaws.{verdict_good}
use Rattle.hozbantir.specs.Calls.{taken_of}
use Rattle.hozbantir.specs.Taken.{Taken, Filled}

pub taken_given : {n : Netlist} {sv : List ℕ} {b : List ℤ} → Taken n b → sv ≡ served_of n.kinds → Given n sv b
taken_given t e = record { accepted = t.accepted; based = t.based; marks = e }

-- what the netlist file s says of its circuit, where it is taken
pub accepted_taken : (s : List ℕ) {e : Extent} → judge_of s ≡ Ok e → Taken (net_on (board_of s)) (board_of s).bases
accepted_taken s e = let q = accepted s e in record { accepted = record { judged = q.judged; ordered = rising_order q.rising q.judged.sorted }; based = q.based }

pub said_taken : (s : List ℕ) {n : ℕ} → taken_of s ≡ Ok n → Taken (net_on (board_of s)) (board_of s).bases
unfolding taken_of
said_taken s e = accepted_taken s (verdict_good (judge_of s) (Ok (length (board_of s).kinds)) e).0.1

pub taken_count : (s : List ℕ) {n : ℕ} → taken_of s ≡ Ok n → taken_of s ≡ Ok (length (board_of s).kinds)
unfolding taken_of
taken_count s e = e ∙ sym (verdict_good (judge_of s) (Ok (length (board_of s).kinds)) e).1

-- a list with a front as long as asked is no shorter
reaches : {A : Type 0} (k : ℕ) (l : List A) → length (take k l) ≡ k → k ≤ length l
reaches k l e = omega (arith, e, length-take k l)

pub good_filled : {s : List ℕ} {e : Extent} {a : Decoded} → Judges s (Ok e) a → Filled e a
good_filled {s} {e} {a} j =
    let l = loaded j in
    record {
      taken = record { accepted = record { judged = l.judged; ordered = rising_order l.rising l.judged.sorted }; based = l.based };
      few = l.parts_few;
      fewer = l.wires_few;
      parts_are = l.parts_are;
      kinds_all = reaches _ _ l.parts_are;
      bases_all = reaches _ _ (l.based.all ∙ l.parts_are);
      times_all = reaches _ _ (l.judged.times_all ∙ l.parts_are);
      froms_all = reaches _ _ l.wires_are;
      tos_all = reaches _ _ (l.judged.wired.paired ∙ l.wires_are);
    }
