-- How the code meets what a call leaves.
use Rattle.std.specs.Prelude.{◌≡◌, refl, List, ◌++◌, ℕ, ◌<◌, ◌≤◌, length, drop, Ok, Err}
use Rattle.std.proofs.Common.{sym, ◌∙◌, arith}
use Rattle.whole.specs.Pick.{Test, Yes, No, lt, eq, if?, if_yes, if_no, if_cases}
use Rattle.netlists.specs.declared.Extent.{Extent}
use Rattle.netlists.specs.Judge.{Verdict}
use Rattle.hozbantir.specs.declared.answers.Refusal.{Refusal}
use Rattle.hozbantir.specs.declared.answers.Refusal.TheVariants as R
use Rattle.hozbantir.specs.Answers.{Answer, number_of, place_of, Left, left, refusal, in_room, Leaves, unless, on_verdict}
use Rattle.hozbantir.proofs.AnswerOne.{answer_one}

-- it does not say that all went well
abbrev pub Refused : Answer → Type 0
Refused a = (n : ℕ) → a ≡ Ok n → ⊥

pub err_refused : (r : Refusal) → Refused (Err r)
err_refused r n e = cc

module _ {A : Type 0} where
  -- an answer that refuses leaves the buffer
  pub refusal_leaves : (a : Answer) (before : List A) → Leaves (refusal a) before a before
  refusal_leaves a before = record { number = refl; place = refl; writes = refl }

-- a netlist that is not taken is refused
pub verdict_refused : (v : Verdict) (a : Answer) → ((e : Extent) → v ≡ Ok e → ⊥) → Refused (on_verdict v a)
verdict_refused (Ok x) a h k e = h x refl
verdict_refused (Err f) a h k e = cc

-- and the other answer does not matter
pub verdict_same : (v : Verdict) (a b : Answer) → ((e : Extent) → v ≡ Ok e → ⊥) → on_verdict v a ≡ on_verdict v b
verdict_same (Ok x) a b h = absurd (h x refl)
verdict_same (Err f) a b h = refl

module _ {A : Type 0} {before after : List A} {r : Answer} where
  carry : {l k : Left A} → l ≡ k → Leaves l before r after → Leaves k before r after
  carry e p = rw (sym e) p

  -- what a choice leaves, by its test
  pub leaves_yes : (t : Test) (u w : Left A) → Yes t → Leaves u before r after → Leaves (if? t u w) before r after
  leaves_yes t u w h = carry (if_yes t w h refl)

  pub leaves_no : (t : Test) (u w : Left A) → No t → Leaves w before r after → Leaves (if? t u w) before r after
  leaves_no t u w h = carry (if_no t u h refl)

module _ {A : Type 0} where
  -- after a refusal nothing else is looked at, and where there is none, all is
  pub unless_refused : (a : Answer) (l : Left A) → Refused a → unless a l ≡ refusal a
  unless_refused a l h = sym (if_no (eq (number_of a) 0) l (λ e. h (place_of a) (answer_one e refl)) refl)

  pub unless_done : (a : Answer) (l : Left A) → number_of a ≡ 0 → unless a l ≡ l
  unless_done a l e = sym (if_yes (eq (number_of a) 0) (refusal a) e refl)

  pub done_unless : {before after : List A} {r : Answer} (a : Answer) (l : Left A) → number_of a ≡ 0 → Leaves (unless a l) before r after → Leaves l before r after
  done_unless a l e = carry (unless_done a l e)

module _ {A : Type 0} (room needed : ℕ) (w before : List A) where
  pub room_short : room < needed → Leaves (in_room room needed w) before (Err (R.Room needed)) before
  room_short h = leaves_yes (lt room needed) (refusal (Err (R.Room needed))) (left (Ok needed) w) h (refusal_leaves (Err (R.Room needed)) before)

  pub room_enough : {after : List A} → needed ≤ room → length w ≡ needed → after ≡ w ++ drop needed before → Leaves (in_room room needed w) before (Ok needed) after
  room_enough h e q = leaves_no (lt room needed) (refusal (Err (R.Room needed))) (left (Ok needed) w) h (record { number = refl; place = refl; writes = q ∙ rw e refl })

-- ---- success says that nothing was refused, and that the buffer has what was to be written

module _ {A : Type 0} {before after : List A} {k : ℕ} where
  pub done_taken : (a : Answer) (l : Left A) → Leaves (unless a l) before (Ok k) after → ((n : ℕ) × (a ≡ Ok n)) × Leaves l before (Ok k) after
  done_taken a l =
      if_cases (λ u. Leaves u before (Ok k) after → ((n : ℕ) × (a ≡ Ok n)) × Leaves l before (Ok k) after) (eq (number_of a) 0) l (refusal a)
      (λ e p. ((place_of a, answer_one e refl), p))
      (λ h p. absurd (h (sym p.number)))

  pub done_written : (room needed : ℕ) (w : List A) → Leaves (in_room room needed w) before (Ok k) after → (k ≡ needed) × (needed ≤ room) × (after ≡ w ++ drop (length w) before)
  done_written room needed w =
      if_cases (λ l. Leaves l before (Ok k) after → (k ≡ needed) × (needed ≤ room) × (after ≡ w ++ drop (length w) before)) (lt room needed) (refusal (Err (R.Room needed))) (left (Ok needed) w)
      (λ h p. absurd (let e = p.number in omega arith))
      (λ h p. (p.place, h, p.writes))

-- a netlist of which the verdict's answer says Ok was taken
pub verdict_good : (v : Verdict) (a : Answer) {n : ℕ} → on_verdict v a ≡ Ok n → ((x : Extent) × (v ≡ Ok x)) × (a ≡ Ok n)
verdict_good (Ok x) a e = ((x, refl), e)
verdict_good (Err f) a e = cc
