-- The judge's steps as the code takes them, against those of the definitions: a record that is due, and the ledger that the place and the
-- first entries of the caller's array stand for.
use Rattle.std.specs.Prelude.{◌≡◌, Bool, true, false, List, ℕ, suc, ◌+◌, ◌-◌, ◌≤◌, ◌<◌, ℤ, length, set, take, Option, Some, None, Result, Ok, Err}
use Rattle.std.proofs.Common.{refl, sym, ◌∙◌, add-one, take_all, take-suc-set, arith}
use Rattle.std.proofs.Math.Nat.{sub-zero}
use Rattle.whole.specs.Pick.{if_yes, if_no, if_cases}
use Rattle.whole.specs.Bytes.{number_at}
use Rattle.whole.specs.Whole.{up}
use Rattle.circuit.specs.Lists.{at, count}
use Rattle.circuit.specs.Netlist.{marked}
use Rattle.records.specs.declared.Record.{Record}
use Rattle.records.specs.declared.Broken.{Broken}
use Rattle.records.specs.Record.{record_at, part_of}
use Rattle.records.specs.RecordLaws.{Whole, whole, part_length}
use Rattle.results.specs.declared.Summary.{Summary}
use Rattle.results.specs.declared.Misfit.{Misfit}
use Rattle.results.specs.declared.Bound.{Bound}
use Rattle.results.specs.Result.{bound_tag, summary_ok, bound_ok, misfit, and_then, due, summary_in, summary_at, bound_due, step_of, Ledger, read_from, bounds_at, told_of, increments_of}

-- ---- what the code ensures

-- the judge's place, and what it has stored so far
abbrev pub held : ℕ → List ℕ → Ledger
held a incs = record { at = a; incs = incs }

-- where the bounds end, and what the caller's array holds then
abbrev pub ledger : List ℕ → Result ℕ Misfit → Result Ledger Misfit
ledger incs (Ok a) = Ok (held a incs)
ledger incs (Err e) = Err e

-- what the judge ensures: its answer, and the increments of an accepted result
pub record Heard (s sv : List ℕ) (bases : List ℤ) (r : Result Summary Misfit) (incs : List ℕ) : Type 0 where
  pub told : r ≡ told_of s sv bases
  pub read : {y : Summary} → r ≡ Ok y → incs ≡ increments_of s sv bases

-- what holds of what follows, and of each refusal, holds of both in a row
pub bind_cases : {A B E : Type 0} (P : Result B E → Type 0) (t : Result A E) (f : A → Result B E) → ((v : A) → t ≡ Ok v → P (f v)) → ((e : E) → t ≡ Err e → P (Err e)) → P (and_then t f)
bind_cases P (Ok v) f g h = g v refl
bind_cases P (Err e) f g h = h e refl

-- ---- a record that is due

-- it is whole, and has this tag and so many bytes of contents
pub record Due (s : List ℕ) (a tag len : ℕ) (r : Record) : Type 0 where
  pub whole : Whole s a r
  pub tagged : r.tag ≡ tag
  pub long : r.len ≡ len

-- what is due is there, or the place is refused
abbrev pub OnDue : List ℕ → (place tag len : ℕ) → Result Record Misfit → Type 0
OnDue s a tag len (Ok r) = Due s a tag len r
OnDue s a tag len (Err e) = e.0 ≡ a

module _ (s : List ℕ) (a tag len : ℕ) where
  due_by : (f : Result (Option Record) Broken) → record_at s a ≡ f → OnDue s a tag len (due tag len a f)
  due_by (Ok None) e = refl
  due_by (Err b) e = refl
  due_by (Ok (Some r)) e =
      if_cases (OnDue s a tag len) _ _ _ (λ t. if_cases (OnDue s a tag len) _ _ _ (λ l. record { whole = whole s a e; tagged = t; long = l }) (λ _. refl)) (λ _. refl)

  pub on_due : OnDue s a tag len (due tag len a (record_at s a))
  on_due = due_by (record_at s a) refl

  pub not_due : {e : Misfit} → due tag len a (record_at s a) ≡ Err e → e.0 ≡ a
  not_due e = rw e at on_due

  pub was_due : {r : Record} → due tag len a (record_at s a) ≡ Ok r → Due s a tag len r
  was_due e = rw e at on_due

module _ (s : List ℕ) (a tag len : ℕ) {r : Record} (e : Ok (Some r) ≡ record_at s a) where
  pub due_is : r.tag ≡ tag → r.len ≡ len → Ok r ≡ due tag len a (record_at s a)
  due_is t l = rw (← e) (if_yes _ _ t (if_yes _ _ l refl))

  pub due_tag : (r.tag ≡ tag → ⊥) → misfit a ≡ due tag len a (record_at s a)
  due_tag t = rw (← e) (if_no _ _ t refl)

  pub due_len : r.tag ≡ tag → (r.len ≡ len → ⊥) → misfit a ≡ due tag len a (record_at s a)
  due_len t l = rw (← e) (if_yes _ _ t (if_no _ _ l refl))

pub length_due : {s : List ℕ} {a tag len : ℕ} {r : Record} → Due s a tag len r → length (part_of s r.start r.len) ≡ len
length_due {s} {a} {tag} {len} {r} d = part_length s r.start r.len d.whole.fits ∙ d.long

-- ---- the summary, and a bound, by what was read in the record that is due

module _ (s : List ℕ) (limit : ℕ) where
  pub summary_missing : {e : Misfit} → Err e ≡ due 16 7 0 (record_at s 0) → Err e ≡ summary_at s limit
  unfolding summary_at
  summary_missing h = rw (← h)

  module _ {r : Record} {y : Summary} {ok : Bool} (h : Ok r ≡ due 16 7 0 (record_at s 0)) (f : y ≡ summary_in (part_of s r.start r.len)) (o : ok ≡ summary_ok y limit) where
    pub summary_good : ok ≡ true → Ok y ≡ summary_at s limit
    unfolding summary_at
    summary_good g = rw (← h, ← f) (if_yes _ _ (sym o ∙ g) refl)

    pub summary_bad : ok ≡ false → misfit 0 ≡ summary_at s limit
    unfolding summary_at
    summary_bad g = rw (← h, ← f) (if_no _ _ (sym o ∙ g) refl)

module _ (s : List ℕ) (x b a : ℕ) where
  pub bound_missing : {e : Misfit} → Err e ≡ due bound_tag 10 a (record_at s a) → Err e ≡ bound_due s x b a
  unfolding bound_due
  bound_missing h = rw (← h)

  module _ {r : Record} {p : List ℕ} {ok : Bool} (h : Ok r ≡ due bound_tag 10 a (record_at s a)) (f : p ≡ part_of s r.start r.len) (o : ok ≡ bound_ok p x b) where
    pub bound_good : {i : ℕ} → ok ≡ true → i ≡ number_at 4 p 6 → Ok (record { next = r.next; increment = i }) ≡ bound_due s x b a
    unfolding bound_due
    bound_good g e = rw (← h, ← f, e) (if_yes _ _ (sym o ∙ g) refl)

    pub bound_bad : ok ≡ false → misfit a ≡ bound_due s x b a
    unfolding bound_due
    bound_bad g = rw (← h, ← f) (if_no _ _ (sym o ∙ g) refl)

module _ (s sv : List ℕ) (bases : List ℤ) (x a : ℕ) where
  pub step_served : marked sv x ≡ true → bound_due s x (up (at bases x)) a ≡ step_of s sv bases x a
  unfolding step_of
  step_served h = if_yes _ _ h refl

  pub step_none : marked sv x ≡ false → Ok (record { next = a; increment = 0 }) ≡ step_of s sv bases x a
  unfolding step_of
  step_none h = if_no _ _ h refl

-- ---- the loop

-- the components below x are read: what is read from x on is what the definition reads from the front
pub record Reading (s sv : List ℕ) (bases : List ℤ) (x place : ℕ) (incs : List ℕ) : Type 0 where
  pub rest : read_from s sv bases (length sv - x) x (held place (take x incs)) ≡ bounds_at s sv bases

module _ {s sv : List ℕ} {bases : List ℤ} where
  pub reading_starts : {incs : List ℕ} → Reading s sv bases 0 10 incs
  reading_starts = record { rest = rw sub-zero }

  module _ {x a : ℕ} {incs : List ℕ} (r : Reading s sv bases x a incs) (h : x < length sv) where
    left : read_from s sv bases (suc (length sv - (x + 1))) x (held a (take x incs)) ≡ bounds_at s sv bases
    left = let n : length sv - x ≡ suc (length sv - (x + 1)) = omega arith in rw n at r.rest

    pub reading_next : {b : Bound} → x < length incs → Ok b ≡ step_of s sv bases x a → Reading s sv bases (x + 1) b.next (set incs x b.increment)
    reading_next {b} k e = record { rest = rw (add-one x, take-suc-set incs x b.increment k) (rw (add-one x, ← e) at left) }

    pub reading_stops : {e : Misfit} → Err e ≡ step_of s sv bases x a → bounds_at s sv bases ≡ Err e
    reading_stops e = sym (rw (← e) at left)

  pub reading_ends : {x a : ℕ} {incs : List ℕ} → Reading s sv bases x a incs → length sv ≤ x → length incs ≤ x → bounds_at s sv bases ≡ Ok (held a incs)
  reading_ends {x} {a} {incs} r h k = let n : length sv - x ≡ 0 = omega arith in sym (rw (n, take_all x incs k) at r.rest)

-- ---- the judge

module _ {s sv : List ℕ} {bases : List ℤ} {incs : List ℕ} where
  pub heard_none : {e : Misfit} → Err e ≡ told_of s sv bases → Heard s sv bases (Err e) incs
  heard_none h = record { told = h; read = λ {y} g. absurd (let z : ◌≡◌ {A = ℕ} 0 1 = cc in omega arith) }

  pub summary_refused : {e : Misfit} → Err e ≡ summary_at s (count (marked sv) (length sv)) → Heard s sv bases (Err e) incs
  unfolding told_of
  summary_refused h = heard_none (rw (← h))

  module _ {y : Summary} (h : Ok y ≡ summary_at s (count (marked sv) (length sv))) where
    pub bound_refused : {e : Misfit} → bounds_at s sv bases ≡ Err e → Heard s sv bases (Err e) incs
    unfolding told_of
    bound_refused g = heard_none (rw (← h, g))

    module _ {a : ℕ} (g : bounds_at s sv bases ≡ Ok (held a incs)) where
      pub left_over : a < length s → Heard s sv bases (misfit a) incs
      unfolding told_of
      left_over l = heard_none (rw (← h, g) (if_yes _ _ l refl))

      pub accepted_all : length s ≤ a → Heard s sv bases (Ok y) incs
      unfolding told_of increments_of
      accepted_all l = record { told = rw (← h, g) (if_no _ _ l refl); read = λ {y} _. rw g }

-- ---- what the code's functions want of these

pub ruleset due_laws = (due_is, due_tag, due_len)

pub ruleset summary_laws = (was_due, length_due, summary_missing, summary_good, summary_bad)

pub ruleset bound_laws = (was_due, length_due, bound_missing, bound_good, bound_bad)

pub ruleset step_laws = (step_served, step_none)

pub ruleset reading_laws = (reading_starts, reading_next, reading_stops, reading_ends)

pub ruleset judge_laws = (summary_refused, bound_refused, left_over, accepted_all)
