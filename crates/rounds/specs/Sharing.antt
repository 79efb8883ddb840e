-- What the share's functions ask, and what its loop keeps.
use Rattle.std.specs.Prelude.{◌≡◌, refl, Bool, true, false, cond, List, ℕ, zero, suc, ◌+◌, ◌-◌, ◌*◌, ◌%◌, ◌^◌, ◌<◌, ◌≤◌, eqb, ℤ, length}
use Rattle.std.proofs.Common.{◌∙◌, arith}
use Rattle.std.proofs.Math.Nat.{two-pow-succ}
use Rattle.std.proofs.lemmas.Nat.{pow_pos}
use Rattle.whole.specs.Range.{Bounded}
use Rattle.circuit.specs.Netlist.{Netlist, parts}
use Rattle.circuit.specs.Times.{in_time}
use Rattle.circuit.specs.Share.{lifted, descend, share_of}
use Rattle.circuit.specs.Budget.{share_in}
use Rattle.circuit.proofs.DescentLaws.{length-lifted}
use Rattle.timing.specs.Ready.{Ready}

-- the netlist n with the marks sv and the base delays b, of which less than 2^28 more leaves delays that can be timed
pub record Sharing (n : Netlist) (sv : List ℕ) (b : List ℤ) : Type 0 where
  pub ready : Ready n b
  pub lifts : (u : ℕ) → u < 2 ^ 28 → Bounded (2 ^ 29) (lifted sv u b)
  pub marks_all : length sv ≡ parts n

pub lifted_ready : {n : Netlist} {sv : List ℕ} {b : List ℤ} → Sharing n sv b → (u : ℕ) → u < 2 ^ 28 → Ready n (lifted sv u b)
lifted_ready {sv = sv} {b = b} s u h =
    let r = s.ready in
    record { wired = r.wired; times_all = r.times_all; delays_all = length-lifted sv u b ∙ r.delays_all; times_in = r.times_in; delays_in = s.lifts u h }

-- ---- how large a share can be

-- whether its bit is kept or not, there is room for the bits behind it
kept_room : (c : Bool) (t p q : ℕ) → t + (p + p) ≤ q → cond c (t + p) t + p ≤ q
kept_room true t p q h = omega arith
kept_room false t p q h = omega arith

-- k bits add less than 2^k
descend_most : (n : Netlist) (sv : List ℕ) (b : List ℤ) (k t : ℕ) → descend n sv b k t < t + 2 ^ k
unfolding descend
descend_most n sv b zero t = omega arith
descend_most n sv b (suc k) t =
    let c = in_time n (lifted sv (t + 2 ^ k) b) in
    omega (arith, two-pow-succ k, descend_most n sv b k (cond c (t + 2 ^ k) t), kept_room c t (2 ^ k) (t + (2 ^ k + 2 ^ k)) (omega arith))

or_none : (c : Bool) {x y : ℕ} → x < y → cond c 0 x < y
or_none true h = omega arith
or_none false h = h

-- so that base delay and share go into four bytes
pub share_small : (m : ℕ) (n : Netlist) (b : List ℤ) → share_in m n b < 2 ^ 28
unfolding share_in share_of
share_small m n b = or_none (eqb m 0) (descend_most n _ b 28 0)

-- what one component gets of a share
pub due_most : (c : Bool) (t : ℕ) → cond c t 0 ≤ t
due_most true t = omega arith
due_most false t = omega arith

-- ---- the descent

-- from t on, the bits below k are still to be tried
pub record Descending (n : Netlist) (sv : List ℕ) (b : List ℤ) (t k : ℕ) : Type 0 where
  pub room : t + 2 ^ k ≤ 2 ^ 28
  pub rest : descend n sv b k t ≡ share_of n sv b

pub descending_starts : {n : Netlist} {sv : List ℕ} {b : List ℤ} → Descending n sv b 0 28
unfolding share_of
descending_starts = record { room = omega arith; rest = refl }

-- there is room for the next bit
pub descending_room : {n : Netlist} {sv : List ℕ} {b : List ℤ} {t k : ℕ} → Descending n sv b t k → 0 < k → t + 2 ^ (k - 1) < 2 ^ 28
descending_room {k = zero} s h = omega arith
descending_room {k = suc k} s h = let q : suc k - 1 ≡ k = omega arith in let r = s.room in rw q (omega (arith, two-pow-succ k, pow_pos k))

-- with and without it, the bits below it are left
step : {n : Netlist} {sv : List ℕ} {b : List ℤ} {t k : ℕ} (c : Bool) → Descending n sv b t k → 0 < k → in_time n (lifted sv (t + 2 ^ (k - 1)) b) ≡ c → Descending n sv b (cond c (t + 2 ^ (k - 1)) t) (k - 1)
unfolding descend
step {k = zero} c s h e = absurd (omega arith)
step {n} {sv} {b} {t} {k = suc k} c s h e =
    let q : suc k - 1 ≡ k = omega arith in
    rw (q, ← e, q) (record { room = kept_room (in_time n (lifted sv (t + 2 ^ k) b)) t (2 ^ k) (2 ^ 28) (rw (← two-pow-succ k) s.room); rest = s.rest })

module _ {n : Netlist} {sv : List ℕ} {b : List ℤ} {t k : ℕ} (s : Descending n sv b t k) (h : 0 < k) where
  -- the code shifts a 1 to the next bit, and nothing out
  shifted : 1 * 2 ^ (k - 1) % 4294967296 ≡ 2 ^ (k - 1)
  shifted = omega (arith, descending_room s h)

  -- it is kept where the circuit is in time with it
  pub descending_next : (c : Bool) → in_time n (lifted sv (t + 1 * 2 ^ (k - 1) % 4294967296) b) ≡ c → Descending n sv b (cond c (t + 1 * 2 ^ (k - 1) % 4294967296) t) (k - 1)
  descending_next c e = rw shifted (step c s h (rw shifted at e))

pub descending_ends : {n : Netlist} {sv : List ℕ} {b : List ℤ} {t k : ℕ} → k ≤ 0 → Descending n sv b t k → t ≡ share_of n sv b
unfolding descend
descending_ends {k = zero} h s = s.rest
descending_ends {k = suc k} h s = absurd (omega arith)
