use Rattle.std.proofs.lemmas.Result.{err_from_is_err_and}
use Rattle.std.proofs.Common.{rules, ◌∙◌, length-take-le}
use Rattle.circuit.specs.Columns.{netlist_of}
use Rattle.hozbantir.specs.Slacks.{AtBase}
use Rattle.hozbantir.proofs.SlacksLaws.{clocked_not, clocked_good, taken_ready, timed_front}
use Rattle.hozbantir.proofs.TakenLaws.{good_filled}
use Rattle.hozbantir.proofs.analysis.timed.Goals as goal

pub returns-in_err-extent : goal.returns-in_err-extent
returns-in_err-extent c = let p = err_from_is_err_and c.from_residual.result c.from_residual.ensures.1 in rw (p.1, p.2) (clocked_not c.in_err-extent.ensures)

pub slice_bounds-times_at-end : goal.slice_bounds-times_at-end
slice_bounds-times_at-end c = let f = good_filled c.in_ok-extent.ensures in search rules

pub circuit-requires : goal.circuit-requires
circuit-requires c = let f = good_filled c.in_ok-extent.ensures in (f.few, f.fewer)

pub times_at-requires : goal.times_at-requires
times_at-requires c = let f = good_filled c.in_ok-extent.ensures in
    let q = c.circuit.ensures in
    (rw (q.kinds, q.times, q.from, q.to, c.bases.ensures) (taken_ready f.taken), rw (q.kinds, f.parts_are) (length-take-le _ c.args.arr.now (rw c.told-arr f.few)), rw (q.kinds, f.parts_are) (length-take-le _ c.args.req.now (rw c.told-req f.few)))

pub returns : goal.returns
returns c = let f = good_filled c.in_ok-extent.ensures in
    let q = c.circuit.ensures in
    let t : AtBase (netlist_of c.circuit.result) c.bases.result.now c.times_at.new.arr c.times_at.new.req = record { arrived = c.times_at.ensures.arrivals; due = c.times_at.ensures.required } in
    clocked_good c.in_ok-extent.ensures
    (timed_front c.args.arr.now c.args.req.now
    (c.times_at.auto.arr ∙ length-take-le _ c.args.arr.now (rw c.told-arr f.few))
    (c.times_at.auto.req ∙ length-take-le _ c.args.req.now (rw c.told-req f.few))
    (rw (q.kinds, q.times, q.from, q.to, c.bases.ensures) at t))
