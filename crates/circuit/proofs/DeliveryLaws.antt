-- What a delivery gives: portions that come to the whole, to members only, each what is still to be given divided by those still to serve and
-- rounded down. And that the function `deliver` gives just these.
use Rattle.std.specs.Prelude.{◌≡◌, refl, ℕ, suc, ◌+◌, ◌-◌, ◌*◌, ◌/◌, ◌<◌, ◌≤◌, ℤ, pos, ◌+ℤ◌, length, set, List, [], ◌∷◌}
use Rattle.std.proofs.Common.{sym, ap, ◌∙◌, ⊎_elim, arith, div-le_self, div-mul-le_self, eq-eqb, ne_eqb, length-set, get_or-set_same, get_or-set_other}
use mathlib.Core.List.{Memᴰ}
use Rattle.std.proofs.Math.Path.{fun_ext}
use Rattle.std.proofs.lemmas.Bool.{cases_eq}
use Rattle.std.proofs.Math.Nat.{lt-div-mul-add}
use Rattle.whole.specs.Whole.{whole, sum}
use Rattle.circuit.specs.Circuit.{gift}
use Rattle.circuit.specs.Lists.{at}
use Rattle.circuit.specs.Rounds.{deliver}
use Rattle.circuit.proofs.GiftLaws.{give, total, Receives}

-- the delivery of s over xs, as gifts
unfoldable pub portions : ℕ → List ℕ → List (ℕ × ℕ)
portions s [] = []
portions s (x ∷ xs) = (x, s / suc (length xs)) ∷ portions (s - s / suc (length xs)) xs

-- a portion is the most whole picoseconds that all who are still to serve could have of what is still to be given
pub portion_down : (s k : ℕ) → (s / suc k * suc k ≤ s) × (s < s / suc k * suc k + suc k)
portion_down s k = (div-mul-le_self s (suc k), lt-div-mul-add (omega arith))

pub portions_total : (s x : ℕ) (xs : List ℕ) → total (portions s (x ∷ xs)) ≡ s
unfolding portions total
portions_total s x [] = omega arith
portions_total s x (y ∷ xs) = omega (arith, portions_total (s - s / suc (length (y ∷ xs))) y xs, div-le_self s (suc (length (y ∷ xs))))

pub portions_to : (s : ℕ) (xs : List ℕ) {v : ℕ} → Receives v (portions s xs) → Memᴰ v xs
unfolding portions
portions_to s [] {v = v} x' = elim x' [ ]
portions_to s (x ∷ xs) (Memᴰ.head e) = Memᴰ.head e
portions_to s (x ∷ xs) (Memᴰ.tail m) = Memᴰ.tail (portions_to (s - s / suc (length xs)) xs m)

-- ---- the function

-- whatever the portions are
length_by_list : (xs : List ℕ) (s : ℕ) (d : List ℤ) → length (deliver s xs d) ≡ length d
unfolding deliver
length_by_list [] s d = refl
length_by_list (x ∷ xs) s d = length_by_list xs _ _ ∙ simp length-set

pub length-deliver : (s : ℕ) (xs : List ℕ) (d : List ℤ) → length (deliver s xs d) ≡ length d
length-deliver s xs d = length_by_list xs s d

set_gift : (d : List ℤ) (x g : ℕ) → x < length d → (y : ℕ) → at (set d x (at d x +ℤ pos g)) y ≡ at d y +ℤ pos (gift x g y)
unfolding gift
set_gift d x g h y = ⊎_elim
    (λ e. rw (← e, get_or-set_same d x _ (pos 0) h, eq-eqb x x refl))
    (λ e. rw (get_or-set_other d x y _ (pos 0) (λ q. e (sym q)), ne_eqb x y e) (omega (whole, sum (at d y) (pos 0))))
    (cases_eq x y)

-- the delays after a delivery are the delays after its gifts
pub deliver_is : (s : ℕ) (xs : List ℕ) (d : List ℤ) → ((x : ℕ) → Memᴰ x xs → x < length d) → (y : ℕ) → at (deliver s xs d) y ≡ give (portions s xs) (at d) y
unfolding deliver give portions
deliver_is s [] d h y = refl
deliver_is s (x ∷ xs) d h y =
    let g = s / suc (length xs) in
    deliver_is (s - g) xs (set d x (at d x +ℤ pos g)) (λ z m. rw (length-set d x (at d x +ℤ pos g)) (h z (Memᴰ.tail m))) y
    ∙ ap (λ (f : ℕ → ℤ). give (portions (s - g) xs) f y) (fun_ext (set_gift d x g (h x (Memᴰ.head refl))))

-- who receives nothing keeps its delay
pub give_none : (l : List (ℕ × ℕ)) (d : ℕ → ℤ) (y : ℕ) → (Receives y l → ⊥) → give l d y ≡ d y
unfolding give gift
give_none [] d y h = refl
give_none (g ∷ l) d y h = give_none l _ y (λ m. h (Memᴰ.tail m)) ∙ rw (ne_eqb g.0 y (λ e. h (Memᴰ.head (sym e)))) (omega (whole, sum (d y) (pos 0)))
