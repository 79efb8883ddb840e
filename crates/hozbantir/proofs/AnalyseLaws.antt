-- What analyse's promise means: what it writes for a component is the least slack of any path through it.
use Rattle.std.specs.Prelude.{List, ℕ, ◌<◌, ℤ, pos, length, drop, Ok}
use Rattle.std.proofs.Common.{arith}
use Rattle.std.proofs.Math.ListN.{get_or-append}
use Rattle.circuit.specs.Circuit.{LeastThrough}
use Rattle.circuit.specs.Lists.{at}
use Rattle.circuit.specs.Netlist.{circuit_of}
use Rattle.circuit.specs.Times.{slacks}
use Rattle.circuit.proofs.ClockLaws.{clock, slacks_least}
use Rattle.circuit.proofs.SafeLaws.{based_bounded}
use Rattle.netlists.specs.Judge.{net_on, board_of}
use Rattle.hozbantir.proofs.AnswerLaws.{done_taken, done_written}
use Rattle.hozbantir.specs.Calls.{taken_of, analysis_on, analysis_of, Analyses}
use Rattle.hozbantir.proofs.TakenLaws.{said_taken}
use Rattle.hozbantir.proofs.SlacksLaws.{length-slacks}

pub analysed_least : (s : List ℕ) {before after : List ℤ} {k : ℕ} → Analyses s before (Ok k) after
    → (x : ℕ) → x < k → LeastThrough (circuit_of (net_on (board_of s))) (at (board_of s).bases) x (at after x)
unfolding analysis_of analysis_on
analysed_least s {before} {after} p x h =
    let b = board_of s in
    let (done, q) = done_taken (taken_of s) _ p in
    let w = slacks (net_on b) b.bases in
    let (few, room, wrote) = done_written (length before) (length b.kinds) w q in
    let t = said_taken s done.1 in
    let inside : x < length b.kinds = omega arith in
    let read = get_or-append w (drop (length w) before) (pos 0) x (rw (length-slacks (net_on b) b.bases) inside) in
    rw (wrote, read) (slacks_least (clock t.accepted) (based_bounded t.based) x inside)
