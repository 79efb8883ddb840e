-- The choice of a round: among the components that are served and have slack above zero, one of least slack, and of several such the one with the lowest
-- number. `choice_of` gives that component, and the component count exactly where there is none.
use Rattle.std.specs.Prelude.{◌≡◌, Bool, true, false, cond, ◌&&◌, ◌||◌, List, eqb, ℤ, pos, ◌<ℤ◌, ◌≤ℤ◌, length, refl, ℕ, zero, suc, ◌<◌, ◌≤◌}
use Rattle.std.proofs.Common.{arith, below_more, ne_eqb}
use Rattle.std.proofs.lemmas.Bool.{eqb-false, and_parts, or_parts}
use Rattle.std.specs.Int.Signed.{lt_z}
use Rattle.whole.specs.Whole.{up, down, whole, lt_true, lt_false, lt_yes}
use Rattle.circuit.specs.Netlist.{marked}
use Rattle.circuit.specs.Times.{slack_at}
use Rattle.circuit.specs.Rounds.{beats, choice_of}

-- x is the choice among the components below m: it is served, it has positive slack, no served one with positive slack has less, and of
-- those with as much none has a lower number
pub record Chosen (sv : List ℕ) (a r : List ℤ) (m x : ℕ) : Type 0 where
  pub served : marked sv x ≡ true
  pub positive : pos 0 <ℤ slack_at a r x
  pub below : x < m
  pub least : (y : ℕ) → y < m → marked sv y ≡ true → pos 0 <ℤ slack_at a r y → slack_at a r x ≤ℤ slack_at a r y
  pub lowest : (y : ℕ) → y < m → marked sv y ≡ true → pos 0 <ℤ slack_at a r y → slack_at a r y ≡ slack_at a r x → x ≤ y

-- x is the choice, or it stands for "none" and no served component below m has positive slack
data Choice (sv : List ℕ) (a r : List ℤ) (m x : ℕ) : Type 0 where
  some : Chosen sv a r m x → Choice sv a r m x
  none : x ≡ length sv → ((y : ℕ) → y < m → marked sv y ≡ true → pos 0 <ℤ slack_at a r y → ⊥) → Choice sv a r m x

-- what holds below m, and at m, holds below m + 1
one_more : (P : ℕ → Type 0) (m : ℕ) → ((y : ℕ) → y < m → P y) → P m → (y : ℕ) → y < suc m → P y
one_more P m f h y l = below_more P m f h y (omega arith)

module _ (sv : List ℕ) (a r : List ℤ) where
  abbrev sl : ℕ → ℤ
  sl = slack_at a r

  -- m is taken where all that could be taken before have more slack
  takes : (m : ℕ) → marked sv m ≡ true → pos 0 <ℤ sl m → ((y : ℕ) → y < m → marked sv y ≡ true → pos 0 <ℤ sl y → sl m <ℤ sl y) → Chosen sv a r (suc m) m
  takes m s p f =
      record {
        served = s;
        positive = p;
        below = omega arith;
        least = one_more (λ y. marked sv y ≡ true → pos 0 <ℤ sl y → sl m ≤ℤ sl y) m (λ y l t q. omega (whole, f y l t q)) (λ t q. omega whole);
        lowest = one_more (λ y. marked sv y ≡ true → pos 0 <ℤ sl y → sl y ≡ sl m → m ≤ y) m (λ y l t q e. omega (whole, f y l t q)) (λ t q e. omega arith);
      }

  -- the one before stays where m could not be taken, or has no less slack
  stays : (m x : ℕ) → Chosen sv a r m x → (marked sv m ≡ true → pos 0 <ℤ sl m → sl x ≤ℤ sl m) → Chosen sv a r (suc m) x
  stays m x c f =
      record {
        served = c.served;
        positive = c.positive;
        below = omega arith;
        least = one_more (λ y. marked sv y ≡ true → pos 0 <ℤ sl y → sl x ≤ℤ sl y) m c.least f;
        lowest = one_more (λ y. marked sv y ≡ true → pos 0 <ℤ sl y → sl y ≡ sl x → x ≤ y) m c.lowest (λ t q e. omega arith);
      }

  -- where m is taken over b, and where it is not
  beats_yes : (m b : ℕ) → beats sv a r m b ≡ true → (marked sv m ≡ true) × (pos 0 <ℤ sl m) × ((b ≡ length sv → ⊥) → sl m <ℤ sl b)
  unfolding beats
  beats_yes m b h =
      let (s, k) = and_parts (marked sv m) (lt_z (pos 0) (sl m) && (eqb b (length sv) || lt_z (sl m) (sl b))) h in
      let (p, o) = and_parts (lt_z (pos 0) (sl m)) (eqb b (length sv) || lt_z (sl m) (sl b)) k in
      (s, omega (whole, lt_true), λ e. omega (whole, lt_true (sl m) (sl b) (rw (ne_eqb b (length sv) e) at o)))

  beats_no : (m b : ℕ) → beats sv a r m b ≡ false → marked sv m ≡ true → pos 0 <ℤ sl m → (b ≡ length sv → ⊥) × (sl b ≤ℤ sl m)
  unfolding beats
  beats_no m b h s p =
      let (e, l) = or_parts (eqb b (length sv)) (lt_z (sl m) (sl b)) (rw (s, lt_yes (pos 0) (sl m) p) at h) in
      (eqb-false b (length sv) e, omega (whole, lt_false))

  -- one number more
  step : (m b : ℕ) → m < length sv → Choice sv a r m b → (t : Bool) → beats sv a r m b ≡ t → Choice sv a r (suc m) (cond t m b)
  step m b l (some c) true h =
      let (s, p, u) = beats_yes m b h in
      some (takes m s p (λ y k t q. omega (whole, u (omega arith), c.least y k t q)))
  step m b l (some c) false h = some (stays m b c (λ t q. (beats_no m b h t q).1))
  step m b l (none e f) true h =
      let (s, p, u) = beats_yes m b h in
      some (takes m s p (λ y k t q. absurd (f y k t q)))
  step m b l (none e f) false h = none e (one_more (λ y. marked sv y ≡ true → pos 0 <ℤ sl y → ⊥) m f (λ t q. (beats_no m b h t q).0 e))

  choice : (m : ℕ) → m ≤ length sv → Choice sv a r m (choice_of sv a r m)
  unfolding choice_of
  choice zero h = none refl (λ y l. absurd (omega arith))
  choice (suc m) h = step m (choice_of sv a r m) h (choice m (omega arith)) (beats sv a r m (choice_of sv a r m)) refl

  module _ (m : ℕ) (h : m ≤ length sv) where
    -- where there is a choice, it is the one that 01 asks for
    pub choice_is : choice_of sv a r m < length sv → Chosen sv a r m (choice_of sv a r m)
    choice_is = by (choice m h)
      where
        by : {x : ℕ} → Choice sv a r m x → x < length sv → Chosen sv a r m x
        by (some c) l = c
        by (none e f) l = absurd (omega arith)

    -- where there is none, no served component has positive slack
    pub choice_none : length sv ≤ choice_of sv a r m → (y : ℕ) → y < m → marked sv y ≡ true → slack_at a r y ≤ℤ pos 0
    choice_none = by (choice m h)
      where
        by : {x : ℕ} → Choice sv a r m x → length sv ≤ x → (y : ℕ) → y < m → marked sv y ≡ true → sl y ≤ℤ pos 0
        by (some c) l y k t = absurd (omega arith)
        by (none e f) l y k t = let g : down (sl y) < up (sl y) → ⊥ = λ u. f y k t (omega whole) in omega whole

    -- the choice is a component, or the component count
    pub choice_le : choice_of sv a r m ≤ length sv
    choice_le = by (choice m h)
      where
        by : {x : ℕ} → Choice sv a r m x → x ≤ length sv
        by (some c) = omega arith
        by (none e f) = omega arith
