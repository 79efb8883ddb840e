-- How the code meets read back: what it holds of a netlist and a result that were judged, and what it leaves.
use Rattle.std.specs.Prelude.{◌≡◌, List, ℕ, ◌≤◌, ℤ, length, take, Ok}
use Rattle.circuit.specs.Netlist.{served_of}
use Rattle.netlists.specs.Judge.{board_of}
use Rattle.results.specs.Result.{increments_of}
use Rattle.results.specs.Columns.{Aligned, Bases, Increments}
use Rattle.hozbantir.specs.Answers.{Answer}
use Rattle.hozbantir.specs.Calls.{result_on, both_of, said_of}

-- ---- the result

-- a result q was judged against components of the kinds ks with base delays b: their marks, and what it says where it is taken
pub record Listened (ks : List ℕ) (b : List ℤ) (q : List ℕ) (r : Answer) (sv incs : List ℕ) : Type 0 where
  pub answer : r ≡ result_on ks b q
  pub marks : sv ≡ served_of ks
  pub says : {n : ℕ} → r ≡ Ok n → incs ≡ increments_of q (served_of ks) b

-- ---- netlist and result

-- what the arrays hold of them
pub record ToldIn (s q : List ℕ) (n : ℕ) (bs : List ℤ) (sv incs : List ℕ) : Type 0 where
  pub bases : take n bs ≡ (board_of s).bases
  pub marks : take n sv ≡ served_of (board_of s).kinds
  pub increments : take n incs ≡ said_of s q

pub record Both (s q : List ℕ) (r : Answer) (bs : List ℤ) (sv incs : List ℕ) : Type 0 where
  pub answer : r ≡ both_of s q
  pub held : {n : ℕ} → r ≡ Ok n → ToldIn s q n bs sv incs

-- ---- the bounds

-- the first n places of marks, base delays and increments
pub record Listed (n : ℕ) (sv : List ℕ) (bs : List ℤ) (incs : List ℕ) : Type 0 where
  pub aligned : Aligned (take n sv) (take n bs) (take n incs)
  pub bases : Bases (take n bs)
  pub increments : Increments (take n incs)
  pub marks_all : n ≤ length sv
  pub bases_all : n ≤ length bs
  pub incs_all : n ≤ length incs
