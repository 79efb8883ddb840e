use Rattle.timing.specs.Bounds.{anchor_bounded}
use Rattle.timing.proofs.sweep.times_in.Goals as goal

pub follow_all-requires-clause-bounded : goal.follow_all-requires-clause-bounded
follow_all-requires-clause-bounded g c =
    let p = c.requires.0 in
    (rw c.start.ensures (anchor_bounded _ _ _ p.times_in g.met.D.Direction.far), p.delays_in)
