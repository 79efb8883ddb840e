-- What a writer and a judge are lent: the marks, the base delays and the increments of the components, each as long as there are components;
-- and what one component has in a result.
use Rattle.std.specs.Prelude.{◌≡◌, cond, List, [], ℕ, ◌≤◌, ℤ, pos, ◌≤ℤ◌, length, get_or}
use Rattle.whole.specs.Whole.{up, whole, apart}
use Rattle.circuit.specs.Lists.{at}
use Rattle.circuit.specs.Netlist.{marked}
use Rattle.results.specs.Result.{bound_of}

pub record Aligned (sv : List ℕ) (bases : List ℤ) (incs : List ℕ) : Type 0 where
  pub few : length sv ≤ 1024
  pub based : length bases ≡ length sv
  pub raised : length incs ≡ length sv

-- "Base delay 0 to 65,535 ps": past the end of the list it is 0
pub record Bases (bases : List ℤ) : Type 0 where
  pub most : (x : ℕ) → up (at bases x) ≤ 65535

pub bases_within : {bases : List ℤ} → ((x : ℕ) → pos 0 ≤ℤ at bases x) → ((x : ℕ) → at bases x ≤ℤ pos 65535) → Bases bases
bases_within {bases} h g = record { most = λ x. let l = h x in let m = g x in omega (whole, apart (at bases x)) }

-- "an increment above 200,000,000" is refused
pub record Increments (incs : List ℕ) : Type 0 where
  pub most : (x : ℕ) → get_or incs x 0 ≤ 200000000

-- the bytes of component x in a result, and how many they are
abbrev pub width_at : List ℕ → ℕ → ℕ
width_at sv x = cond (marked sv x) 13 0

abbrev pub bound_at : ℕ → List ℕ → List ℤ → List ℕ → ℕ → List ℕ
bound_at tag sv bases incs x = cond (marked sv x) (bound_of tag x (up (at bases x)) (get_or incs x 0)) []
