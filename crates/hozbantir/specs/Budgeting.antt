-- How the code meets the budget: from what the rounds say to what the writer is asked, and to what the call leaves.
use Rattle.std.specs.Prelude.{◌≡◌, List, ℕ, ◌≤◌, ℤ, length}
use Rattle.rounds.specs.Increments.{rises_of}
use Rattle.results.specs.Result.{says, encode}

-- base delays b and final delays f of the components that are marked, and a mode and a count of rounds that fit their fields
pub record Writes (m k : ℕ) (sv : List ℕ) (b f : List ℤ) : Type 0 where
  pub few : length sv ≤ 1024
  pub based : length b ≡ length sv
  pub finals : length f ≡ length b
  pub mode : m ≤ 1
  pub rounds : k ≤ 1024

-- the result of such a budget, in its room
abbrev pub written : (m t k : ℕ) → List ℕ → (b f : List ℤ) → List ℕ
written m t k sv b f = encode (says m t k) sv b (rises_of f b)
