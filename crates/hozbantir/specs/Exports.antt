-- The calls as C makes them (document 01, "What we build"): "on numbers and byte slices".
use Rattle.std.specs.Prelude.{◌≡◌, List, [], ◌∷◌, ◌++◌, ℕ, ◌+◌, ◌*◌, ◌/◌, length, drop}
use Rattle.std.specs.Int.{w32}
use Rattle.std.proofs.Common.{of_z}
use Rattle.whole.specs.Bytes.{bytes_of}
use Rattle.hozbantir.specs.Answers.{Answer, number_of, place_of, Left}
use Rattle.hozbantir.specs.Calls.{analysis_of, budget_for, read_back_of}

-- "a call returns one unsigned 64-bit number, the answer's number times 4,294,967,296 plus its place"
abbrev pub packed : (number place : ℕ) → ℕ
packed number place = number * 4294967296 + place

abbrev pub code_of : Answer → ℕ
code_of a = packed (number_of a) (place_of a)

-- "a buffer of numbers is lent as bytes, four big-endian bytes to a number"; f is a number's bits
unfoldable pub spread : {A : Type 0} → (A → ℕ) → List A → List ℕ
spread f [] = []
spread f (x ∷ xs) = bytes_of 4 (f x) ++ spread f xs

abbrev pub sent : {A : Type 0} → (A → ℕ) → Left A → Left ℕ
sent f l = record { number = l.number; place = l.place; written = spread f l.written }

-- "a rest of fewer than four counts as none, and ROOM still counts numbers"
abbrev pub room_in : List ℕ → ℕ
room_in bytes = length bytes / 4

-- how a call that returns v leaves a buffer of bytes that held `before`
pub record Sends (l : Left ℕ) (before : List ℕ) (v : ℕ) (after : List ℕ) : Type 0 where
  pub codes : v ≡ packed l.number l.place
  pub writes : after ≡ l.written ++ drop (length l.written) before

-- slacks are signed, two's complement; bounds are unsigned
abbrev pub SendsAnalysis : (netlist before : List ℕ) → ℕ → (after : List ℕ) → Type 0
SendsAnalysis s before v after = Sends (sent (of_z w32) (analysis_of s (room_in before))) before v after

abbrev pub SendsBudget : (mode : ℕ) → (netlist before : List ℕ) → ℕ → (after : List ℕ) → Type 0
SendsBudget m s before v after = Sends (budget_for m s (length before)) before v after

abbrev pub SendsBounds : (netlist result before : List ℕ) → ℕ → (after : List ℕ) → Type 0
SendsBounds s q before v after = Sends (sent (λ x. x) (read_back_of s q (room_in before))) before v after

-- so that what is returned and the buffer are determined
pub sends_one : {l : Left ℕ} {before after after' : List ℕ} {v v' : ℕ} → Sends l before v after → Sends l before v' after' → (v ≡ v') × (after ≡ after')
sends_one p q =
    let c = p.codes in
    let d = q.codes in
    let e = p.writes in
    let f = q.writes in
    (cc, cc)
