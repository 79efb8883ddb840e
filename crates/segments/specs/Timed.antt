-- What the definitions of the walks make of connections, delays and times that are lent together.
use Rattle.std.specs.Prelude.{Bool, List, ℕ}
use Rattle.circuit.specs.Rounds.{leads, feeds, after, before, segment_of}
use Rattle.segments.specs.declared.steps.Timed.{Timed}

abbrev pub leads_in : Timed → ℕ → ℕ → Bool
leads_in t = leads t.from.now t.to.now t.delays.now t.times.arrivals.now t.times.required.now

abbrev pub feeds_in : Timed → List ℕ → ℕ → ℕ → Bool
feeds_in t sv = feeds t.from.now t.to.now sv t.delays.now t.times.arrivals.now t.times.required.now

abbrev pub after_in : Timed → ℕ → ℕ
after_in t = after t.from.now t.to.now t.delays.now t.times.arrivals.now t.times.required.now

abbrev pub before_in : Timed → List ℕ → ℕ → ℕ
before_in t sv = before t.from.now t.to.now sv t.delays.now t.times.arrivals.now t.times.required.now

abbrev pub segment_in : Timed → List ℕ → ℕ → List ℕ
segment_in t sv = segment_of t.from.now t.to.now sv t.delays.now t.times.arrivals.now t.times.required.now
