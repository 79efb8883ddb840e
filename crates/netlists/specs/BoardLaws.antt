-- What every board on the way has: each record that is taken keeps it.
use Rattle.std.specs.Prelude.{◌≡◌, List, [], ◌∷◌, ◌++◌, ℕ, ◌+◌, ◌*◌, ◌≤◌, ◌<◌, ℤ, pos, get_or, Option, Some, None, Result, Ok, Err}
use Rattle.std.proofs.Common.{refl, sym, ◌∙◌, length-append, arith}
use Rattle.std.proofs.Math.Decide.{ℕ_discrete}
use Rattle.std.proofs.Math.ListN.{length, get_or-append}
use Rattle.std.proofs.lemmas.List.{get_or_at}
use Rattle.whole.specs.Range.{Within}
use Rattle.whole.specs.Pick.{if_cases}
use Rattle.whole.specs.Bytes.{number_at, signed_at}
use Rattle.records.specs.declared.Record.{Record}
use Rattle.records.specs.declared.Broken as R
use Rattle.records.specs.Record.{record_at, part_of}
use Rattle.netlists.specs.declared.Fault.{Fault}
use Rattle.netlists.specs.declared.Fault.TheVariants.{Broken, Tag, Size, Field, Wiring, Ends}
use Rattle.netlists.specs.Judge.{Verdict, Board, empty, with_component, key, with_connection, Turn, Go, Stop, on_component, on_connection, on_record, finish, on_found, step_of}
use Rattle.netlists.specs.RuleLaws.{Wire, wiring_is, Fields, fields_is}
use Rattle.records.specs.RecordLaws.{whole as record_whole, ended as record_ended, part_length}

-- ---- one element more

length_more : {A : Type 0} (xs : List A) (v : A) → length (xs ++ (v ∷ [])) ≡ length xs + 1
length_more xs v = length-append xs (v ∷ [])

-- what holds at each place of two lists holds there with one element more to each
each_more : {A B : Type 0} (P : A → B → Type 0) (xs : List A) (ys : List B) {v : A} {w : B} (d : A) (e : B) → length ys ≡ length xs
    → ((j : ℕ) → j < length xs → P (get_or xs j d) (get_or ys j e)) → P v w
    → (j : ℕ) → j < length xs + 1 → P (get_or (xs ++ (v ∷ [])) j d) (get_or (ys ++ (w ∷ [])) j e)
each_more P xs ys {v} {w} d e same all here j h = by (ℕ_discrete j (length xs))
  where
    by : Dec (j ≡ length xs) → P (get_or (xs ++ (v ∷ [])) j d) (get_or (ys ++ (w ∷ [])) j e)
    by (yes q) = rw (get_or_at xs v [] d j (sym q), get_or_at ys w [] e j (same ∙ sym q)) here
    by (no q) = rw (get_or-append xs (v ∷ []) d j (omega arith), get_or-append ys (w ∷ []) e j (omega arith)) (all j (omega arith))

-- ---- the boards

-- the key of connection j
abbrev pub key_at : (fs ts : List ℕ) → ℕ → ℕ
key_at fs ts j = key (get_or fs j 0) (get_or ts j 0)

-- a connection between components, and its key below the least that may come
pub record Placed (n least f t : ℕ) : Type 0 where
  pub source : f < n
  pub target : t < n
  pub rises : f < t
  pub below : key f t < least

-- a base delay and a time of a component of kind k
pub record Delay (k : ℕ) (d : ℤ) : Type 0 where
  pub size : ℕ
  pub is : d ≡ pos size
  pub most : size ≤ 65535
  pub none : k ≡ 0 → size ≡ 0

pub record Time (k : ℕ) (t : ℤ) : Type 0 where
  pub known : k ≤ 2
  pub inner : k ≡ 1 → t ≡ pos 0
  pub in_range : Within 100000000 t

-- a record takes at most 12 bytes
pub record Fine (b : Board) : Type 0 where
  pub few : length b.kinds ≤ 1024
  pub fewer : length b.froms ≤ 4096
  pub bases_all : length b.bases ≡ length b.kinds
  pub times_all : length b.times ≡ length b.kinds
  pub paired : length b.tos ≡ length b.froms
  pub early : b.at ≤ 12 * (length b.kinds + length b.froms)
  pub delays : (x : ℕ) → x < length b.kinds → Delay (get_or b.kinds x 0) (get_or b.bases x (pos 0))
  pub times : (x : ℕ) → x < length b.kinds → Time (get_or b.kinds x 0) (get_or b.times x (pos 0))
  pub wires : (j : ℕ) → j < length b.froms → Placed (length b.kinds) b.least (get_or b.froms j 0) (get_or b.tos j 0)
  pub sorted : (i j : ℕ) → i < j → j < length b.froms → key_at b.froms b.tos i < key_at b.froms b.tos j

pub fine_empty : Fine empty
fine_empty = record {
  few = omega arith;
  fewer = omega arith;
  bases_all = refl;
  times_all = refl;
  paired = refl;
  early = omega arith;
  delays = λ x h. absurd (omega arith);
  times = λ x h. absurd (omega arith);
  wires = λ j h. absurd (omega arith);
  sorted = λ i j h g. absurd (omega arith);
}

module _ {b : Board} (fine : Fine b) {next : ℕ} (near : next ≤ b.at + 12) where
  fine_component : {k d : ℕ} {t : ℤ} → length b.froms ≡ 0 → length b.kinds < 1024 → Fields k d t → Fine (with_component b next k d t)
  fine_component {k} {d} {t} h₁ h₂ f =
      let e = length_more b.kinds k in
      record {
        few = omega arith;
        fewer = fine.fewer;
        bases_all = rw (e, length_more b.bases (pos d)) (omega arith);
        times_all = rw (e, length_more b.times t) (omega arith);
        paired = fine.paired;
        early = omega arith;
        delays = λ x h. each_more Delay b.kinds b.bases 0 (pos 0) fine.bases_all fine.delays (record { size = d; is = refl; most = f.most; none = f.none }) x (omega arith);
        times = λ x h. each_more Time b.kinds b.times 0 (pos 0) fine.times_all fine.times (record { known = f.known; inner = f.inner; in_range = f.in_range }) x (omega arith);
        wires = λ j h. absurd (omega arith);
        sorted = λ i j h g. absurd (omega arith);
      }

  fine_connection : {f t : ℕ} → length b.froms < 4096 → Wire f t (length b.kinds) b.least → Fine (with_connection b next f t)
  fine_connection {f} {t} h₁ w =
      let e = length_more b.froms f in
      let n = length b.kinds in
      let least = key f t + 1 in
      record {
        few = fine.few;
        fewer = omega arith;
        bases_all = fine.bases_all;
        times_all = fine.times_all;
        paired = rw (e, length_more b.tos t) (omega arith);
        early = omega arith;
        delays = fine.delays;
        times = fine.times;
        wires = λ j h. each_more (Placed n least) b.froms b.tos 0 0 fine.paired (λ i g. let p = fine.wires i g in record { source = p.source; target = p.target; rises = p.rises; below = omega arith })
            (record { source = w.source; target = w.target; rises = w.rises; below = omega arith }) j (omega arith);
        sorted = λ i j h g. by i j (ℕ_discrete j (length b.froms)) h (omega arith);
      }
    where
      old : (i : ℕ) → i < length b.froms → key_at (b.froms ++ (f ∷ [])) (b.tos ++ (t ∷ [])) i ≡ key_at b.froms b.tos i
      old i h = rw (get_or-append b.froms (f ∷ []) 0 i h, get_or-append b.tos (t ∷ []) 0 i (rw fine.paired h)) refl

      new : (j : ℕ) → j ≡ length b.froms → key_at (b.froms ++ (f ∷ [])) (b.tos ++ (t ∷ [])) j ≡ key f t
      new j q = rw (get_or_at b.froms f [] 0 j (sym q), get_or_at b.tos t [] 0 j (fine.paired ∙ sym q)) refl

      by : (i j : ℕ) → Dec (j ≡ length b.froms) → i < j → j < length b.froms + 1 → key_at (b.froms ++ (f ∷ [])) (b.tos ++ (t ∷ [])) i < key_at (b.froms ++ (f ∷ [])) (b.tos ++ (t ∷ [])) j
      by i j (yes q) h g = let p = fine.wires i (omega arith) in rw (old i (omega arith), new j q) (omega arith)
      by i j (no q) h g = rw (old i (omega arith), old j (omega arith)) (fine.sorted i j h (omega arith))

-- ---- one step

-- no place is past all the records that there can be, and no record is refused for its ends
abbrev pub Early : Fault → Type 0
Early (Broken a) = a ≤ 61440
Early (Tag a) = a ≤ 61440
Early (Size a) = a ≤ 61440
Early (Field a) = a ≤ 61440
Early (Wiring a) = a ≤ 61440
Early (Ends x) = ⊥

-- what a verdict says of the board where it is reached
abbrev pub Final : Board → Verdict → Type 0
Final b (Ok e) = (e.components ≡ length b.kinds) × (e.connections ≡ length b.froms) × (0 < e.components)
Final b (Err f) = Early f

-- a step goes on to such a board, further on, or stops with what is final
abbrev pub Next : Board → Turn → Type 0
Next b (Go c) = Fine c × (b.at < c.at)
Next b (Stop v) = Final b v

module _ (s : List ℕ) (b : Board) (fine : Fine b) where
  place : b.at ≤ 61440
  place = omega arith

  -- a file that ends with no component is empty
  finished : length s ≤ b.at → Final b (finish s b)
  unfolding finish
  finished h = if_cases (Final b) _ _ _ (λ e. none e) (λ k. (refl, refl, omega arith))
    where
      none : length b.kinds ≡ 0 → length s ≤ 61440
      none e = omega arith

  module _ (p : List ℕ) (next : ℕ) (follows : next ≡ b.at + 3 + length p) where
    component : Next b (on_component p b next)
    unfolding on_component
    component =
        if_cases (Next b) _ _ _ (λ h₁.
        if_cases (Next b) _ _ _ (λ h₂.
        if_cases (Next b) _ _ _ (λ h₃.
        if_cases (Next b) _ _ _ (λ h₄. (fine_component fine (omega arith) h₂ h₃ (fields_is (get_or p 0 0) (number_at 4 p 1) (signed_at p 5) h₄), omega arith))
        (λ _. place)) (λ _. place)) (λ _. place)) (λ _. place)

    connection : Next b (on_connection p b next)
    unfolding on_connection
    connection =
        if_cases (Next b) _ _ _ (λ h₁.
        if_cases (Next b) _ _ _ (λ h₂.
        if_cases (Next b) _ _ _ (λ h₃. (fine_connection fine (omega arith) h₂ (wiring_is (number_at 2 p 0) (number_at 2 p 2) (length b.kinds) b.least h₃), omega arith))
        (λ _. place)) (λ _. place)) (λ _. place)

    any : (tag : ℕ) → Next b (on_record tag p b next)
    unfolding on_record
    any tag = if_cases (Next b) _ _ _ (λ _. component) (λ _. if_cases (Next b) _ _ _ (λ _. connection) (λ _. place))

  found : (f : Result (Option Record) R.Broken) → record_at s b.at ≡ f → Next b (on_found s b f)
  found (Ok None) e = finished (record_ended s b.at e)
  found (Err k) e = place
  found (Ok (Some r)) e = let w = record_whole s b.at e in let l = part_length s r.start r.len w.fits in any (part_of s r.start r.len) r.next (omega arith) r.tag

  pub stepped : Next b (step_of s b)
  unfolding step_of
  stepped = found (record_at s b.at) refl
