-- What a found record says of the file, where one is found, and how long its contents are.
use Rattle.std.specs.Prelude.{◌≡◌, List, ℕ, ◌+◌, ◌≤◌, ◌<◌, length, get_or, Option, Some, None, Result, Ok, Err}
use Rattle.std.proofs.Math.Path.{refl, sym}
use Rattle.std.proofs.Common.{arith, length-take, length-drop}
use Rattle.whole.specs.Pick.{if_yes, if_no, if_cases}
use Rattle.whole.specs.Bytes.{number_at}
use Rattle.records.specs.declared.Record.{Record}
use Rattle.records.specs.declared.Broken.{Broken}
use Rattle.records.specs.Record.{record_at, part_of}

-- ---- what is found at a place

-- a whole record: its head stands at the place, its contents lie within the file, and the next place is right behind them
pub record Whole (s : List ℕ) (at : ℕ) (r : Record) : Type 0 where
  pub begins : r.start ≡ at + 3
  pub fits : r.start + r.len ≤ length s
  pub follows : r.next ≡ r.start + r.len
  pub tagged : r.tag ≡ get_or s at 0
  pub counted : r.len ≡ number_at 2 s (at + 1)

abbrev Says : List ℕ → ℕ → Result (Option Record) Broken → Type 0
Says s at (Ok (Some r)) = Whole s at r
Says s at (Ok None) = length s ≤ at
Says s at (Err b) = at < length s

module _ (s : List ℕ) (at : ℕ) where
  says : Says s at (record_at s at)
  unfolding record_at
  says =
      if_cases (Says s at) _ _ _ (λ h. h) (λ h.
      if_cases (Says s at) _ _ _ (λ _. h) (λ h₁.
      if_cases (Says s at) _ _ _ (λ _. h) (λ h₂.
      record { begins = refl; fits = omega arith; follows = refl; tagged = refl; counted = refl })))

  pub whole : {r : Record} → record_at s at ≡ Ok (Some r) → Whole s at r
  whole e = rw e at says

  pub broken : {b : Broken} → record_at s at ≡ Err b → at < length s
  broken e = rw e at says

  pub ended : record_at s at ≡ Ok None → length s ≤ at
  ended e = rw e at says

  -- and the other way: where a writer put a head and as many bytes as it says, that record is found
  pub found : {tag len : ℕ} → get_or s at 0 ≡ tag → number_at 2 s (at + 1) ≡ len → at + 3 + len ≤ length s
      → record_at s at ≡ Ok (Some (record { tag = tag; start = at + 3; len = len; next = at + 3 + len }))
  unfolding record_at
  found e₁ e₂ h = sym (if_no _ _ (omega arith) (if_no _ _ (omega arith) (if_no _ _ (omega arith) (rw (e₁, e₂) refl))))

  pub none_left : length s ≤ at → record_at s at ≡ Ok None
  unfolding record_at
  none_left h = sym (if_yes _ _ h refl)

-- ---- the contents, as a part of the file

pub part_length : (s : List ℕ) (a n : ℕ) → a + n ≤ length s → length (part_of s a n) ≡ n
part_length s a n h = simp (length-take, length-drop) (omega arith)
