-- What byte each kind of component has, and what a byte names.
use Rattle.std.specs.Prelude.{◌≡◌, ℕ, ◌<◌, Result, MatchResult}
use Rattle.circuit.specs.declared.kinds.Kind.{Kind}
use Rattle.circuit.specs.declared.kinds.Kind.TheVariants.{Input, Inner, Output}
use Rattle.circuit.specs.declared.kinds.UnknownKind.{UnknownKind}

abbrev pub byte_of : Kind → ℕ
byte_of Input = 0
byte_of Inner = 1
byte_of Output = 2

-- the kind that has this byte, or the byte itself where none has
abbrev pub Names : ℕ → Result Kind UnknownKind → Type 0
Names byte r = MatchResult r (λ k. byte_of k ≡ byte) (λ e. (e.0 ≡ byte) × (2 < byte))
