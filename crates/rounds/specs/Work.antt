-- The slices that a budget is worked out in.
use Rattle.std.specs.Prelude.{◌≡◌, length}
use Rattle.rounds.specs.declared.work.Work.{Work}

-- the same slices as before, and as long
pub record Kept (w w' : Work) : Type 0 where
  pub delays : w'.delays.ghost_name ≡ w.delays.ghost_name
  pub arrivals : w'.arrivals.ghost_name ≡ w.arrivals.ghost_name
  pub required : w'.required.ghost_name ≡ w.required.ghost_name
  pub segment : w'.segment.ghost_name ≡ w.segment.ghost_name
  pub delays_all : length w'.delays.now ≡ length w.delays.now
  pub arrivals_all : length w'.arrivals.now ≡ length w.arrivals.now
  pub required_all : length w'.required.now ≡ length w.required.now
  pub segment_all : length w'.segment.now ≡ length w.segment.now
