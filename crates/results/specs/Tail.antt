-- The bounds as the judge meets them, from the first on, each with the increment that it says; and what an increment may be.
use Rattle.std.specs.Prelude.{◌≡◌, refl, false, cond, ℤ, get_or, List, [], ◌∷◌, ◌++◌, ℕ, zero, suc, ◌+◌, ◌≤◌, length}
use Rattle.std.proofs.Common.{◌∙◌, subst, add-zero, length-append, append_assoc, append-nil, arith, zero-add}
use Rattle.std.proofs.Math.Seq.{append_snoc}
use Rattle.std.proofs.lemmas.List.{get_or_at}
use Rattle.whole.specs.Whole.{up}
use Rattle.circuit.specs.Lists.{at}
use Rattle.circuit.specs.Netlist.{marked}
use Rattle.results.specs.declared.Summary.{Summary}
use Rattle.results.specs.Result.{summary_of, bound_of, bound_tag, bounds_of, encode}

-- the bytes of component x in a result that says i for it
abbrev pub bound_for : List ℕ → List ℤ → ℕ → ℕ → List ℕ
bound_for sv bases x i = cond (marked sv x) (bound_of bound_tag x (up (at bases x)) i) []

-- the bounds from component x on, one for each increment
unfoldable pub tail_of : List ℕ → List ℤ → ℕ → List ℕ → List ℕ
tail_of sv bases x [] = []
tail_of sv bases x (i ∷ is) = bound_for sv bases x i ++ tail_of sv bases (suc x) is

-- increments for the components from x on: "an increment above 200,000,000" is none, and an input has 0
pub record Raised (sv : List ℕ) (x : ℕ) (is : List ℕ) : Type 0 where
  pub most : (j : ℕ) → get_or is j 0 ≤ 200000000
  pub none : (j : ℕ) → marked sv (x + j) ≡ false → get_or is j 0 ≡ 0

pub raised_none : {sv : List ℕ} {x : ℕ} → Raised sv x []
raised_none = record { most = λ j. omega arith; none = λ j h. refl }

module _ {sv : List ℕ} {x i : ℕ} {is : List ℕ} where
  pub raised_head : Raised sv x (i ∷ is) → (i ≤ 200000000) × (marked sv x ≡ false → i ≡ 0)
  raised_head r = (r.most 0, rw add-zero at (r.none 0))

  pub raised_tail : Raised sv x (i ∷ is) → Raised sv (suc x) is
  raised_tail r = record {
    most = λ j. r.most (suc j);
    none = λ j h. let e : suc x + j ≡ x + suc j = omega arith in r.none (suc j) (rw e at h);
  }

  pub raised_more : i ≤ 200000000 → (marked sv x ≡ false → i ≡ 0) → Raised sv (suc x) is → Raised sv x (i ∷ is)
  raised_more h g r = record { most = most'; none = none' }
    where
      most' : (j : ℕ) → get_or (i ∷ is) j 0 ≤ 200000000
      most' zero = h
      most' (suc j) = r.most j

      none' : (j : ℕ) → marked sv (x + j) ≡ false → get_or (i ∷ is) j 0 ≡ 0
      none' zero k = g (rw add-zero at k)
      none' (suc j) k = let e : x + suc j ≡ suc x + j = omega arith in r.none j (rw e at k)

-- ---- the writer's bounds and these are the same

module _ (sv : List ℕ) (bases : List ℤ) where
  bounds_tail : (is pre : List ℕ) (n : ℕ) → length pre ≡ n
      → bounds_of bound_tag sv bases (pre ++ is) (n + length is) ≡ bounds_of bound_tag sv bases (pre ++ is) n ++ tail_of sv bases n is
  unfolding bounds_of tail_of
  bounds_tail [] pre n e = rw (add-zero, append-nil (bounds_of bound_tag sv bases (pre ++ []) n))
  bounds_tail (i ∷ is) pre n e =
      let m : n + suc (length is) ≡ suc n + length is = omega arith in
      let l : length (pre ++ (i ∷ [])) ≡ suc n = rw (length-append pre (i ∷ [])) (omega arith) in
      let r =
      subst (λ (p : List ℕ). bounds_of bound_tag sv bases p (suc n + length is) ≡ bounds_of bound_tag sv bases p (suc n) ++ tail_of sv bases (suc n) is)
      (append_snoc pre i is) (bounds_tail is (pre ++ (i ∷ [])) (suc n) l) in
      rw m (r ∙ rw (get_or_at pre i is 0 n e, append_assoc))

  pub bounds_are : (incs : List ℕ) → bounds_of bound_tag sv bases incs (length incs) ≡ tail_of sv bases 0 incs
  unfolding bounds_of
  bounds_are incs = rw zero-add at (bounds_tail incs [] 0 refl)

  pub encode_is : (y : Summary) (incs : List ℕ) → length incs ≡ length sv → encode y sv bases incs ≡ summary_of y ++ tail_of sv bases 0 incs
  unfolding encode
  encode_is y incs e = rw (← e, bounds_are incs)
