-- How the exports meet what they send: from what a call leaves to what C gets.
use Rattle.std.specs.Prelude.{◌≡◌, refl, List, ℕ, ◌<◌, ◌≤◌, Ok, Err}
use Rattle.std.proofs.Common.{sym, ◌∙◌}
use Rattle.whole.specs.Pick.{lt, if_yes, if_no}
use Rattle.hozbantir.specs.declared.answers.Refusal.TheVariants as R
use Rattle.hozbantir.specs.Answers.{Answer, place_of, Left, left, refusal, in_room, Leaves}
use Rattle.hozbantir.specs.Exports.{code_of, spread, sent, Sends}
use Rattle.hozbantir.specs.Spreading.{length-spread, laid}

-- ---- numbers lent as bytes

module _ {A : Type 0} (f : A → ℕ) where
  pub sent_refusal : (a : Answer) (bytes : List ℕ) → Leaves (sent f (refusal a)) bytes a bytes
  unfolding spread
  sent_refusal a bytes = record { number = refl; place = refl; writes = refl }

  module _ {room n : ℕ} (w : List A) {bytes : List ℕ} where
    pub sent_short : room < n → Leaves (sent f (in_room room n w)) bytes (Err (R.Room n)) bytes
    sent_short h =
        let e : refusal (Err (R.Room n)) ≡ in_room room n w = if_yes (lt room n) _ h refl in
        rw (sym e) (sent_refusal (Err (R.Room n)) bytes)

    pub sent_done : {after : List ℕ} → n ≤ room → after ≡ laid f w bytes → Leaves (sent f (in_room room n w)) bytes (Ok n) after
    sent_done h q =
        let e : left (Ok n) w ≡ in_room room n w = if_no (lt room n) _ h refl in
        rw (sym e) (record { number = refl; place = refl; writes = q ∙ rw (length-spread f w) refl })

-- ---- the answer as one number

pub leaves_small : {A : Type 0} {l : Left A} {before after : List A} {r : Answer} → l.place < 65536 → Leaves l before r after → place_of r < 65536
leaves_small h p = rw p.place h

pub leaves_sends : {l : Left ℕ} {before after : List ℕ} {r : Answer} {v : ℕ} → Leaves l before r after → v ≡ code_of r → Sends l before v after
leaves_sends p e = record { codes = e ∙ rw (p.number, p.place) refl; writes = p.writes }
