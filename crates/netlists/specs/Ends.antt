-- ENDS in the code's terms: over the lists of the arrays.
use Rattle.std.specs.Prelude.{Bool, cond, List, ℕ, ◌<◌, eqb, length, get_or}
use Rattle.std.specs.Bool.{beq}
use Rattle.circuit.specs.Lists.{tabulate, lowest}
use Rattle.netlists.specs.Judge.{ends, faulty}

-- numbers below n
pub record Below (l : List ℕ) (n : ℕ) : Type 0 where
  pub each : (j : ℕ) → j < length l → get_or l j 0 < n

-- 1 where the list has x, and 0 elsewhere
abbrev pub mark_of : List ℕ → ℕ → ℕ
mark_of l x = cond (eqb (ends l x) 0) 0 1

-- the rule by one of the two lists, with its marks: faulty is who is of kind k and marked, or neither
unfoldable pub fault_at : (ks ms : List ℕ) (k x : ℕ) → Bool
fault_at ks ms k x = beq (eqb (get_or ks x 0) k) (eqb (get_or ms x 0) 1)

-- the lowest that is, or the count of components
unfoldable pub fault_by : (ks l : List ℕ) (k : ℕ) → ℕ
fault_by ks l k = lowest (fault_at ks (tabulate (mark_of l) (length ks)) k) (length ks)

-- the lowest faulty component of a netlist with these kinds and connections, or their count
unfoldable pub fault_of : (ks fs ts : List ℕ) → ℕ
fault_of ks fs ts = lowest (faulty ks (tabulate (ends ts) (length ks)) (tabulate (ends fs) (length ks))) (length ks)
