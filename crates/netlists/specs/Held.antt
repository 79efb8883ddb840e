-- What the code holds while it reads, said in the terms of the judge: the fields of a record, a board in a state and five arrays, and what a
-- step leaves.
use Rattle.std.specs.Prelude.{◌≡◌, Bool, not, ◌&&◌, List, [], ◌∷◌, ◌++◌, ℕ, ◌+◌, ℤ, pos, negsuc, length, get_or, take, Option, Some, None, Result, Ok, Err}
use Rattle.std.specs.Int.Signed.{lt_z}
use Rattle.whole.specs.Pick.{eq, if?}
use Rattle.whole.specs.Bytes.{number_at, signed_at}
use Rattle.circuit.specs.declared.Circuit.{Circuit}
use Rattle.netlists.specs.declared.Extent.{Extent}
use Rattle.netlists.specs.declared.Fault.{Fault}
use Rattle.netlists.specs.declared.Fault.TheVariants.{Size}
use Rattle.netlists.specs.declared.State.{State}
use Rattle.netlists.specs.declared.Component.{Component}
use Rattle.netlists.specs.declared.Connection.{Connection}
use Rattle.netlists.specs.declared.Decoded.{Decoded}
use Rattle.netlists.specs.Judge.{Verdict, good, Board, Turn, Go, Stop, finish, step_of, records_of, board_of, judge_of}

-- ---- the fields of a record with the contents p

abbrev pub component_of : List ℕ → Component
component_of p = record { kind = get_or p 0 0; base = number_at 4 p 1; time = signed_at p 5 }

abbrev pub connection_of : List ℕ → Connection
connection_of p = record { from = number_at 2 p 0; to = number_at 2 p 2 }

-- the range of a time, as `fields_ok` has it
abbrev pub time_in : ℤ → Bool
time_in t = not (lt_z t (negsuc 99999999)) && not (lt_z (pos 100000000) t)

-- ---- the arrays

-- five columns as arrays
abbrev pub arrays : (kinds : List ℕ) → (bases times : List ℤ) → (from to : List ℕ) → Decoded
arrays ks bs tm fs ts = record { kinds = ks; bases = bs; times = tm; from = fs; to = ts }

-- columns as long as the arrays are
pub record LongParts (ks : List ℕ) (bs tm : List ℤ) : Type 0 where
  pub ks_long : length ks ≡ 1024
  pub bs_long : length bs ≡ 1024
  pub tm_long : length tm ≡ 1024

pub record LongWires (fs ts : List ℕ) : Type 0 where
  pub fs_long : length fs ≡ 4096
  pub ts_long : length ts ≡ 4096

-- from the arrays e to the arrays x: component i is c, and connection j is w, behind those before them, which stay as they were
pub record OneComponent (e x : Decoded) (i : ℕ) (c : Component) : Type 0 where
  pub kinds : take (i + 1) x.kinds ≡ take i e.kinds ++ (c.kind ∷ [])
  pub bases : take (i + 1) x.bases ≡ take i e.bases ++ (pos c.base ∷ [])
  pub times : take (i + 1) x.times ≡ take i e.times ++ (c.time ∷ [])
  pub from : x.from ≡ e.from
  pub to : x.to ≡ e.to

pub record OneConnection (e x : Decoded) (j : ℕ) (w : Connection) : Type 0 where
  pub kinds : x.kinds ≡ e.kinds
  pub bases : x.bases ≡ e.bases
  pub times : x.times ≡ e.times
  pub from : take (j + 1) x.from ≡ take j e.from ++ (w.from ∷ [])
  pub to : take (j + 1) x.to ≡ take j e.to ++ (w.to ∷ [])

-- the columns c are the front of the arrays a, to this extent
pub record Front (c : Circuit) (e : Extent) (a : Decoded) : Type 0 where
  pub kinds : c.kinds.now ≡ take e.components a.kinds
  pub times : c.times.now ≡ take e.components a.times
  pub from : c.from.now ≡ take e.connections a.from
  pub to : c.to.now ≡ take e.connections a.to

-- the board in a state: so much of each array as was stored
abbrev pub held : State → Decoded → Board
held st a = record {
  at = st.at;
  kinds = take st.comps a.kinds;
  bases = take st.comps a.bases;
  times = take st.comps a.times;
  froms = take st.conns a.from;
  tos = take st.conns a.to;
  least = st.least;
}

-- the arrays have room for what was stored
pub record Room (st : State) (a : Decoded) : Type 0 where
  pub comps : length (take st.comps a.kinds) ≡ st.comps
  pub conns : length (take st.conns a.from) ≡ st.conns

-- the verdict at the end of a file of so many bytes
abbrev pub ended_at : (size comps conns : ℕ) → Verdict
ended_at size n m = if? (eq n 0) (Err (Size size)) (good n m)

-- a record taken from the arrays e to the arrays x is the judge's: it goes on with the board that is held now, or it is refused and leaves the
-- arrays
abbrev pub Turned : Result State Fault → (e x : Decoded) → Turn → Type 0
Turned (Ok st) e x t = (Go (held st x) ≡ t) × Room st x
Turned (Err f) e x t = (Stop (Err f) ≡ t) × (x ≡ e)

pub record Took (r : Result State Fault) (e x : Decoded) (t : Turn) : Type 0 where
  pub turned : Turned r e x t

-- the same of what stands at the state's offset, where the file may end
abbrev pub Stepped : Result (Option State) Fault → List ℕ → State → (e x : Decoded) → Type 0
Stepped (Ok (Some next)) s st e x = Turned (Ok next) e x (step_of s (held st e))
Stepped (Ok None) s st e x = (Stop (finish s (held st e)) ≡ step_of s (held st e)) × (x ≡ e)
Stepped (Err f) s st e x = Turned (Err f) e x (step_of s (held st e))

pub record OneStep (r : Result (Option State) Fault) (s : List ℕ) (st : State) (e x : Decoded) : Type 0 where
  pub stepped : Stepped r s st e x

-- where a netlist is taken, its board is in the arrays
pub record BoardIn (b : Board) (e : Extent) (a : Decoded) : Type 0 where
  pub kinds : take e.components a.kinds ≡ b.kinds
  pub bases : take e.components a.bases ≡ b.bases
  pub times : take e.components a.times ≡ b.times
  pub froms : take e.connections a.from ≡ b.froms
  pub tos : take e.connections a.to ≡ b.tos

abbrev pub Decodes : Verdict → Board → Decoded → Type 0
Decodes (Ok e) b a = BoardIn b e a
Decodes (Err f) b a = Unit

-- how the records of a file were read, and how the file was: the verdict, and the board of a taken one in the arrays
pub record Read (s : List ℕ) (v : Verdict) (a : Decoded) : Type 0 where
  pub judged : v ≡ records_of s
  pub decodes : Decodes v (board_of s) a

pub record Judges (s : List ℕ) (v : Verdict) (a : Decoded) : Type 0 where
  pub judged : v ≡ judge_of s
  pub decodes : Decodes v (board_of s) a
