-- The marking loop, and the lowest fault by its marks.
use Rattle.std.specs.Prelude.{◌≡◌, Bool, true, false, cond, not, ◌||◌, List, ℕ, ◌+◌, ◌≤◌, ◌<◌, min, eqb, ltb, length, get_or, set, replicate, Option, Some, None}
use Rattle.std.proofs.Math.Path.{refl, sym}
use Rattle.std.proofs.Common.{◌∙◌, zero-add, add-one, arith, length-set, get_or-set_same, get_or-set_other, eq-eqb, ne_eqb, lt-ltb, le-ltb, ltb-true, ltb-false}
use Rattle.std.proofs.Math.Bool.{or-true}
use Rattle.std.proofs.Math.Decide.{ℕ_discrete}
use Rattle.std.proofs.lemmas.List.{length-replicate}
use Rattle.std.proofs.Math.ListN.{get_or-replicate}
use Rattle.std.proofs.Math.Seq.{ext_get_or}
use Rattle.circuit.specs.Lists.{tabulate, count, lowest, below}
use Rattle.circuit.proofs.ListLaws.{clash, length-tabulate, get_or-tabulate, lowest_le, lowest_is, lowest_first}
use Rattle.netlists.specs.Judge.{ends, faulty}
use Rattle.netlists.specs.Ends.{mark_of, fault_at, fault_by, fault_of}
use Rattle.netlists.specs.EndsLaws.{faulty_halves}

-- ---- marking

-- the mark of x after the first j of l
abbrev up_to : List ℕ → ℕ → ℕ → ℕ
up_to l j x = cond (eqb (count (λ i. eqb (get_or l i 0) x) j) 0) 0 1

mark_here : (l : List ℕ) (j : ℕ) {x : ℕ} → get_or l j 0 ≡ x → up_to l (j + 1) x ≡ 1
unfolding count
mark_here l j {x} e = rw (add-one j, eq-eqb (get_or l j 0) x e, ne_eqb (1 + count (λ i. eqb (get_or l i 0) x) j) 0 (omega arith)) refl

mark_other : (l : List ℕ) (j : ℕ) {x : ℕ} → (get_or l j 0 ≡ x → ⊥) → up_to l (j + 1) x ≡ up_to l j x
unfolding count
mark_other l j {x} e = rw (add-one j, ne_eqb (get_or l j 0) x e, zero-add) refl

-- v at x, and nothing new elsewhere
set_tabulate : (f g : ℕ → ℕ) (n x v : ℕ) → x < n → g x ≡ v → ((i : ℕ) → (x ≡ i → ⊥) → g i ≡ f i) → set (tabulate f n) x v ≡ tabulate g n
set_tabulate f g n x v h here other =
    let t = tabulate f n in
    let e = length-set t x v ∙ length-tabulate f n in
    ext_get_or 0 (set t x v) (tabulate g n) (e ∙ sym (length-tabulate g n)) (λ i k. let b = rw e at k in by i b (ℕ_discrete x i) ∙ sym (get_or-tabulate g n i 0 b))
  where
    by : (i : ℕ) → i < n → Dec (x ≡ i) → get_or (set (tabulate f n) x v) i 0 ≡ g i
    by i b (yes q) = rw (← q) (get_or-set_same (tabulate f n) x v 0 (rw (length-tabulate f n) h) ∙ sym here)
    by i b (no q) = get_or-set_other (tabulate f n) x i v 0 (λ r. q (sym r)) ∙ get_or-tabulate f n i 0 b ∙ sym (other i q)

-- of the numbers below n, those among the first j of l are marked
pub record Marking (l : List ℕ) (n : ℕ) (ms : List ℕ) (j : ℕ) : Type 0 where
  pub is : ms ≡ tabulate (up_to l j) n

module _ {l : List ℕ} {n : ℕ} {ms : List ℕ} where
  pub marking_starts : ms ≡ replicate n 0 → Marking l n ms 0
  unfolding count
  marking_starts e = record {
    is = e ∙ ext_get_or 0 (replicate n 0) (tabulate (up_to l 0) n) (rw (length-replicate {A = ℕ} n 0, length-tabulate (up_to l 0) n) refl)
        (λ i h. let k = rw (length-replicate {A = ℕ} n 0) at h in get_or-replicate n i 0 0 k ∙ sym (get_or-tabulate (up_to l 0) n i 0 k));
  }

  pub marking_ends : {j : ℕ} → Marking l n ms j → j ≡ length l → ms ≡ tabulate (mark_of l) n
  unfolding ends
  marking_ends c e = c.is ∙ rw e refl

  pub marking_length : {j : ℕ} → Marking l n ms j → length ms ≡ n
  marking_length {j} c = rw c.is (length-tabulate (up_to l j) n)

  pub marking_next : {j : ℕ} {ms' : List ℕ} → Marking l n ms j → get_or l j 0 < n → ms' ≡ set ms (get_or l j 0) 1 → Marking l n ms' (j + 1)
  marking_next {j} c h e = record { is = e ∙ rw c.is (set_tabulate (up_to l j) (up_to l (j + 1)) n (get_or l j 0) 1 h (mark_here l j refl) (λ i q. mark_other l j q)) }

-- ---- the lowest

-- where what passes f passes g, the lowest that passes g is no later
lowest_sooner : (f g : ℕ → Bool) (n : ℕ) → ((x : ℕ) → x < n → f x ≡ true → g x ≡ true) → lowest g n ≤ lowest f n
lowest_sooner f g n h = let a = no_less in omega arith
  where
    no_less : lowest f n < lowest g n → ⊥
    no_less l =
        let b : lowest f n < n = omega (arith, lowest_le g n) in
        clash (sym (h (lowest f n) b (lowest_is f n b)) ∙ lowest_first g n (lowest f n) l)

-- the lowest that passes f or g is the lesser of the lowest of each
lowest_either : (f g h : ℕ → Bool) (n : ℕ) → ((x : ℕ) → x < n → h x ≡ f x || g x) → lowest h n ≡ min (lowest f n) (lowest g n)
lowest_either f g h n e =
    let a = lowest_sooner f h n (λ x l p. e x l ∙ rw p refl) in
    let b = lowest_sooner g h n (λ x l p. e x l ∙ rw p (or-true (f x))) in
    let c = no_less in
    omega arith
  where
    no_less : lowest h n < min (lowest f n) (lowest g n) → ⊥
    no_less l =
        let x = lowest h n in
        let b : x < n = omega (arith, lowest_le f n) in
        clash (sym (lowest_is h n b) ∙ e x b ∙ rw (lowest_first f n x (omega arith)) (lowest_first g n x (omega arith)))

-- ---- the verdict

-- the lowest fault by one list, by marks that were made so
pub fault_is : (ks l : List ℕ) (k : ℕ) {ms : List ℕ} {r : Option ℕ} {a : ℕ} → r ≡ below (length ks) (lowest (fault_at ks ms k) (length ks)) → ms ≡ tabulate (mark_of l) a → a ≡ length ks
    → r ≡ below (length ks) (fault_by ks l k)
unfolding fault_by
fault_is ks l k e m p = e ∙ rw (m, p) refl

-- what a mark says
marked : (b : Bool) → eqb (cond b 0 1) 1 ≡ not b
marked true = refl
marked false = refl

-- a component is faulty by fan-in or by fan-out
fault_either : (ks fs ts : List ℕ) (n x : ℕ) → x < n → faulty ks (tabulate (ends ts) n) (tabulate (ends fs) n) x ≡ fault_at ks (tabulate (mark_of ts) n) 0 x || fault_at ks (tabulate (mark_of fs) n) 2 x
unfolding fault_at
fault_either ks fs ts n x h =
    faulty_halves ks (tabulate (ends ts) n) (tabulate (ends fs) n) x
    ∙ rw (get_or-tabulate (ends ts) n x 0 h, get_or-tabulate (ends fs) n x 0 h, get_or-tabulate (mark_of ts) n x 0 h, get_or-tabulate (mark_of fs) n x 0 h, marked (eqb (ends ts x) 0), marked (eqb (ends fs x) 0)) refl

-- so that the lowest fault is the lesser of the lowest by each
pub fault_lesser : (ks fs ts : List ℕ) → fault_of ks fs ts ≡ min (fault_by ks ts 0) (fault_by ks fs 2)
unfolding fault_of fault_by
fault_lesser ks fs ts = lowest_either _ _ _ (length ks) (fault_either ks fs ts (length ks))

-- the lesser of two that may be missing
abbrev pub lesser : Option ℕ → Option ℕ → Option ℕ
lesser (Some x) (Some y) = Some (min x y)
lesser (Some x) None = Some x
lesser None q = q

lesser_below : (n a b : ℕ) → lesser (below n a) (below n b) ≡ below n (min a b)
lesser_below n a b = by (ltb a n) (ltb b n) refl refl
  where
    by : (p q : Bool) → ltb a n ≡ p → ltb b n ≡ q → lesser (cond (ltb a n) (Some a) None) (cond (ltb b n) (Some b) None) ≡ cond (ltb (min a b) n) (Some (min a b)) None
    by true true e f = let g = ltb-true a n e in rw (e, f, lt-ltb (min a b) n (omega arith)) refl
    by true false e f = let g = ltb-true a n e in let h = ltb-false b n f in let m : min a b ≡ a = omega arith in rw (m, e, f) refl
    by false true e f = let g = ltb-false a n e in let h = ltb-true b n f in let m : min a b ≡ b = omega arith in rw (m, e, f) refl
    by false false e f = let g = ltb-false a n e in let h = ltb-false b n f in rw (e, f, le-ltb (min a b) n (omega arith)) refl

pub fault_least : (ks fs ts : List ℕ) {i o : Option ℕ} → i ≡ below (length ks) (fault_by ks ts 0) → o ≡ below (length ks) (fault_by ks fs 2) → lesser i o ≡ below (length ks) (fault_of ks fs ts)
fault_least ks fs ts e f = rw (e, f, fault_lesser ks fs ts) (lesser_below (length ks) (fault_by ks ts 0) (fault_by ks fs 2))
