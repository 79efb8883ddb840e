-- Number and place tell the answer, so that answer and buffer are determined.
use Rattle.std.specs.Prelude.{◌≡◌, refl, List, [], ◌∷◌, ℕ, get_or, Ok, Err}
use Rattle.std.proofs.Common.{sym, ◌∙◌}
use Rattle.netlists.specs.declared.Fault.TheVariants as F
use Rattle.hozbantir.specs.declared.answers.Refusal.TheVariants as R
use Rattle.hozbantir.specs.Answers.{Answer, number_of, place_of, Left, Leaves}

-- (9 is nobody's; something has to stand there)
answer_of : ℕ → ℕ → Answer
answer_of n p =
    get_or
    (Ok p ∷ Err R.Mode ∷ Err (R.Netlist (F.Broken p)) ∷ Err (R.Netlist (F.Tag p)) ∷ Err (R.Netlist (F.Size p)) ∷ Err (R.Netlist (F.Field p)) ∷ Err (R.Netlist (F.Wiring p)) ∷ Err (R.Netlist (F.Ends p))
    ∷ Err (R.Late p) ∷ Err (R.Room p) ∷ Err (R.Room p) ∷ [])
    n (Err (R.Result p))

answer_is : (r : Answer) → answer_of (number_of r) (place_of r) ≡ r
unfolding answer_of
answer_is (Ok n) = refl
answer_is (Err R.Mode) = refl
answer_is (Err (R.Netlist (F.Broken a))) = refl
answer_is (Err (R.Netlist (F.Tag a))) = refl
answer_is (Err (R.Netlist (F.Size a))) = refl
answer_is (Err (R.Netlist (F.Field a))) = refl
answer_is (Err (R.Netlist (F.Wiring a))) = refl
answer_is (Err (R.Netlist (F.Ends x))) = refl
answer_is (Err (R.Late x)) = refl
answer_is (Err (R.Room n)) = refl
answer_is (Err (R.Result a)) = refl

pub answer_one : {r r' : Answer} → number_of r ≡ number_of r' → place_of r ≡ place_of r' → r ≡ r'
answer_one {r} {r'} e f = sym (answer_is r) ∙ rw (e, f) (answer_is r')

pub leaves_one : {A : Type 0} {l : Left A} {before after after' : List A} {r r' : Answer} → Leaves l before r after → Leaves l before r' after' → (r ≡ r') × (after ≡ after')
leaves_one p q =
    let e = p.writes in
    let f = q.writes in
    (answer_one (p.number ∙ sym q.number) (p.place ∙ sym q.place), cc)
