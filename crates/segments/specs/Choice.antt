-- The choice, one number more at a time: the best so far is an `Option`, where the definition has the component count for none.
use Rattle.std.specs.Prelude.{◌≡◌, Bool, true, false, cond, ◌&&◌, ◌||◌, Option, Some, None, unwrap_or, List, ℕ, ◌+◌, ◌<◌, ◌≤◌, eqb, ltb, ℤ, pos, length}
use Rattle.std.proofs.Common.{refl, add-one, arith, lt-ltb, le-ltb, ltb-false}
use Rattle.std.specs.Int.Signed.{lt_z}
use Rattle.circuit.specs.Lists.{below}
use Rattle.circuit.specs.Netlist.{marked}
use Rattle.circuit.specs.Times.{slack_at}
use Rattle.circuit.specs.Rounds.{beats, choice_of, positive}
use Rattle.circuit.proofs.ChoiceLaws.{choice_le}

unwrap_below : (n x : ℕ) → x ≤ n → unwrap_or (below n x) n ≡ x
unwrap_below n x h = by (ltb x n) refl
  where
    by : (t : Bool) → ltb x n ≡ t → unwrap_or (cond t (Some x) None) n ≡ x
    by true e = refl
    by false e = omega (arith, ltb-false x n e)

and_assoc : (p q s : Bool) → p && (q && s) ≡ (p && q) && s
and_assoc true q s = refl
and_assoc false q s = refl

module _ (sv : List ℕ) (a r : List ℤ) where
  -- what is taken has positive slack
  pub beats_is : (x b : ℕ) → beats sv a r x b ≡ positive sv a r x && (eqb b (length sv) || lt_z (slack_at a r x) (slack_at a r b))
  unfolding beats positive
  beats_is x b = and_assoc (marked sv x) (lt_z (pos 0) (slack_at a r x)) (eqb b (length sv) || lt_z (slack_at a r x) (slack_at a r b))

  pub choice_starts : choice_of sv a r 0 ≡ length sv
  unfolding choice_of
  choice_starts = refl

  pub choice_next : (n : ℕ) → choice_of sv a r (n + 1) ≡ cond (beats sv a r n (choice_of sv a r n)) n (choice_of sv a r n)
  unfolding choice_of
  choice_next n = rw add-one

  -- the same of the best so far
  pub best_starts : None ≡ below (length sv) (choice_of sv a r 0)
  best_starts = rw (choice_starts, le-ltb (length sv) (length sv) (omega arith))

  pub best_next : {x : ℕ} {best : Option ℕ} → x < length sv → best ≡ below (length sv) (choice_of sv a r x)
      → cond (beats sv a r x (unwrap_or best (length sv))) (Some x) best ≡ below (length sv) (choice_of sv a r (x + 1))
  best_next {x} h e = rw (choice_next x, e, unwrap_below (length sv) (choice_of sv a r x) (choice_le sv a r x (omega arith))) (by (beats sv a r x (choice_of sv a r x)))
    where
      by : (t : Bool) → cond t (Some x) (below (length sv) (choice_of sv a r x)) ≡ below (length sv) (cond t x (choice_of sv a r x))
      by true = rw (lt-ltb x (length sv) h)
      by false = refl
