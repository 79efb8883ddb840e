use Rattle.std.proofs.Common.{refl, rules, arith, length-drop, length-take}
use Rattle.results.specs.Writing.{bounding_starts, bounding_next, bounding_room}
use Rattle.results.proofs.Columns.put_bounds.Goals as goal

pub loop-x-init : goal.loop-x-init
loop-x-init c = (refl, bounding_starts)

pub put_bound_at-at-requires : goal.put_bound_at-at-requires
put_bound_at-at-requires c =
    let room = bounding_room c.loop-x.invariant.1 (omega arith) c.requires in
    (search rules, simp (length-take, length-drop) (omega arith))

pub loop-x-preserved : goal.loop-x-preserved
loop-x-preserved c = (search rules, bounding_next c.loop-x.invariant.1 c.put_bound_at-at.ensures.0 c.put_bound_at-at.ensures.1)
