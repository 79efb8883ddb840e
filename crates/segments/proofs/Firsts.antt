-- What a search of std answers that goes through the connections from the first on, and then takes one end of what it found.
use Rattle.std.specs.Prelude.{◌≡◌, Bool, true, false, cond, Option, Some, List, ℕ, zero, suc, ◌+◌, ◌<◌, ℤ, length, get_or}
use Rattle.std.proofs.Common.{refl, sym, ◌∙◌, add-one, arith}
use Rattle.std.proofs.lemmas.Iterator.{YieldsList-from_range}
use Rattle.std.proofs.lemmas.Iterator.Adapters.{option_map_id}
use Rattle.std.proofs.lemmas.Iterator.Search.{find_from_yields_List}
use Rattle.std.specs.Fn.{CalledAt}
use Rattle.std.specs.Iterator.{FindsItem}
use Rattle.std.proofs.iter.Yields.{nat_range_steps}
use Rattle.std.specs.List.{find, range_with_len}
use Rattle.std.specs.Option.{option_map}
use Rattle.std.specs.declared.ops.Range.{Range}
use Rattle.circuit.specs.Lists.{up_from, first_of, below}
use Rattle.circuit.specs.Rounds.{leads, feeds, after, before}
use Rattle.circuit.proofs.SeekLaws.{below_some, below_none}
use Rattle.segments.specs.Lent.{Laid}

-- `find` over the numbers below n, where the closure computes the test
pub range_found : {F : Type 0} {g : _} {s : Range ℕ} {f : F} {r : Option ℕ} (test : ℕ → Bool) (n : ℕ) (u : _) → s ≡ record { start = 0; end = n }
    → FindsItem nat_range_steps g s f r u → ((x : ℕ) (b : Bool) (q : F) → CalledAt g f x b q → (q ≡ f) × (b ≡ test x)) → r ≡ find test (range_with_len 0 n)
range_found {r} test n u e ran h = sym (option_map_id r) ∙ find_from_yields_List test u _ r ran (YieldsList-from_range 0 n n e (omega arith)) h

first_found : (f : ℕ → Bool) (g : ℕ → ℕ) (s n e : ℕ) → ((j : ℕ) → g j < e) → option_map g (find f (range_with_len s n)) ≡ below e (first_of f g (up_from s n) e)
unfolding first_of up_from
first_found f g s zero e h = below_none refl
first_found f g s (suc n) e h = by (f s) (rw add-one (first_found f g (suc s) n e h))
  where
    by : (t : Bool) → option_map g (find f (range_with_len (s + 1) n)) ≡ below e (first_of f g (up_from (suc s) n) e)
        → option_map g (cond t (Some s) (find f (range_with_len (s + 1) n))) ≡ below e (cond t (g s) (first_of f g (up_from (suc s) n) e))
    by true q = below_some refl (h s)
    by false q = q

-- the search found j, and y is the end of what it found
module _ {fs ts : List ℕ} {d a : List ℤ} (l : Laid fs ts d a) (r : List ℤ) (x : ℕ) {j y : Option ℕ} where
  pub after_found : j ≡ find (leads fs ts d a r x) (range_with_len 0 (length fs)) → y ≡ option_map (λ i. get_or ts i 0) j → y ≡ below (length d) (after fs ts d a r x)
  unfolding after
  after_found q e = e ∙ rw q (first_found (leads fs ts d a r x) (λ i. get_or ts i 0) 0 (length fs) (length d) l.wires.target)

  pub before_found : (sv : List ℕ) → j ≡ find (feeds fs ts sv d a r x) (range_with_len 0 (length fs)) → y ≡ option_map (λ i. get_or fs i 0) j → y ≡ below (length d) (before fs ts sv d a r x)
  unfolding before
  before_found sv q e = e ∙ rw q (first_found (feeds fs ts sv d a r x) (λ i. get_or fs i 0) 0 (length fs) (length d) l.wires.source)
