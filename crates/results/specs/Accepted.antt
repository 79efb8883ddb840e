-- The other way: what an accepted result says is in range, and its bytes are those that the writer writes for it, so that no two accepted
-- results differ in bytes only; and where a result is refused, the place is small, and within the file.
use Rattle.std.specs.Prelude.{◌≡◌, true, false, ◌&&◌, List, [], ◌∷◌, ◌++◌, eqb, leb, ℤ, length, take, drop, None, Result, Ok, Err, ℕ, zero, suc, ◌+◌, ◌*◌, ◌≤◌, ◌<◌, get_or}
use Rattle.std.proofs.Common.{refl, sym, ap, ◌∙◌, append_assoc, append-nil, add-zero, add_assoc, length-drop, take-suc, take_all, take-add, drop-drop, get_or-drop, get_or-take, eqb-true, leb-true, arith}
use Rattle.std.proofs.Math.Seq.{append_snoc}
use Rattle.whole.specs.Whole.{up}
use Rattle.whole.specs.Pick.{if_cases}
use Rattle.whole.specs.Bytes.{number_at, bytes_of, number_part, bytes_number}
use Rattle.circuit.specs.Lists.{at, count}
use Rattle.circuit.proofs.ListLaws.{both, clash}
use Rattle.circuit.specs.Netlist.{marked}
use Rattle.records.specs.declared.Record.{Record}
use Rattle.records.specs.Record.{record_at, part_of}
use Rattle.results.specs.declared.Summary.{Summary}
use Rattle.results.specs.declared.Misfit.{Misfit}
use Rattle.results.specs.declared.Bound.{Bound}
use Rattle.results.specs.Result.{and_then, summary_of, bound_of, bound_tag, encode, summary_ok, bound_ok, due, summary_in, summary_at, bound_due, Ledger, with_bound, step_of, read_from, at_end, bounds_at, told_of, increments_of}
use Rattle.results.specs.Judging.{bind_cases, Due, was_due, not_due}
use Rattle.records.specs.RecordLaws.{ended}
use Rattle.results.specs.Tail.{bound_for, tail_of, Raised, raised_none, raised_more, encode_is}
use Rattle.results.specs.Round.{number_drop, Sayable}

-- a file of bytes; past its end it has 0
abbrev pub OfBytes : List ℕ → Type 0
OfBytes s = (j : ℕ) → get_or s j 0 < 256

bytes_drop : (s : List ℕ) (a : ℕ) → OfBytes s → OfBytes (drop a s)
bytes_drop s a b j = rw (get_or-drop a s j 0) (b (a + j))

-- the first k bytes from i on are those of the number that is read there
cut : (k n : ℕ) (q : List ℕ) (i : ℕ) → OfBytes q → i + k ≤ length q → take (k + n) (drop i q) ≡ bytes_of k (number_at k q i) ++ take n (drop (i + k) q)
cut k n q i b h = take-add k n (drop i q) ∙ rw (bytes_number k q i b h, drop-drop)

module _ (q : List ℕ) (b : OfBytes q) where
  first_byte : (n : ℕ) → 0 < length q → take (1 + n) q ≡ get_or q 0 0 ∷ take n (drop 1 q)
  first_byte n h = take-add 1 n q ∙ rw (take-suc q 0 0 h)

  bound_bytes : {tag x d i : ℕ} → 13 ≤ length q → get_or q 0 0 ≡ tag → number_at 2 q 1 ≡ 10 → number_at 2 q 3 ≡ x → number_at 4 q 5 ≡ d → number_at 4 q 9 ≡ i
      → take 13 q ≡ bound_of tag x d i
  unfolding bound_of
  bound_bytes h e₁ e₂ e₃ e₄ e₅ =
      rw (← e₁, ← e₂, ← e₃, ← e₄, ← e₅)
      (first_byte 12 (omega arith)
      ∙ rw (cut 2 10 q 1 b (omega arith), cut 2 8 q 3 b (omega arith), cut 4 4 q 5 b (omega arith), bytes_number 4 q 9 b (omega arith)))

  summary_bytes : {y : Summary} → 10 ≤ length q → get_or q 0 0 ≡ 16 → number_at 2 q 1 ≡ 7 → get_or q 3 0 ≡ y.mode → number_at 4 q 4 ≡ y.share → number_at 2 q 8 ≡ y.rounds
      → take 10 q ≡ summary_of y
  unfolding summary_of number_at
  summary_bytes h e₁ e₂ e₃ e₄ e₅ =
      let e : number_at 1 q 3 ≡ get_or q 3 0 = omega arith in
      rw (← e₁, ← e₂, ← e₃, ← e₄, ← e₅, ← e)
      (first_byte 9 (omega arith)
      ∙ rw (cut 2 7 q 1 b (omega arith), cut 1 6 q 3 b (omega arith), cut 4 2 q 4 b (omega arith), bytes_number 2 q 8 b (omega arith)))

-- ---- what a record that was due has

module _ (s : List ℕ) (a tag len : ℕ) {r : Record} (d : Due s a tag len r) where
  -- a number in the contents is read behind the record's head
  number_due : (k i : ℕ) → i + k ≤ len → number_at k (part_of s r.start r.len) i ≡ number_at k s (a + 3 + i)
  number_due k i h = rw (d.whole.begins, d.long) (number_part k s (a + 3) len i h)

  byte_due : 0 < len → get_or (part_of s r.start r.len) 0 0 ≡ get_or s (a + 3) 0
  byte_due h = rw (d.whole.begins, d.long) (get_or-take len (drop (a + 3) s) 0 0 h ∙ get_or-drop (a + 3) s 0 0 ∙ rw add-zero)

-- ---- one component

record Right (p : List ℕ) (x b : ℕ) : Type 0 where
  number : number_at 2 p 0 ≡ x
  based : number_at 4 p 2 ≡ b
  most : number_at 4 p 6 ≤ 200000000

bound_says : (p : List ℕ) (x b : ℕ) → bound_ok p x b ≡ true → Right p x b
unfolding bound_ok
bound_says p x b e =
    let (f, g) = both (eqb (number_at 2 p 0) x) (eqb (number_at 4 p 2) b && leb (number_at 4 p 6) 200000000) e in
    let (h, k) = both (eqb (number_at 4 p 2) b) (leb (number_at 4 p 6) 200000000) g in
    record { number = eqb-true (number_at 2 p 0) x f; based = eqb-true (number_at 4 p 2) b h; most = leb-true (number_at 4 p 6) 200000000 k }

-- component x was read at place a as the bound b
record Took (s sv : List ℕ) (bases : List ℤ) (x a : ℕ) (b : Bound) : Type 0 where
  bytes : OfBytes s → take b.next s ≡ take a s ++ bound_for sv bases x b.increment
  within : b.next ≤ length s
  near : b.next ≤ a + 13
  most : b.increment ≤ 200000000
  none : marked sv x ≡ false → b.increment ≡ 0

module _ (s sv : List ℕ) (bases : List ℤ) (x a : ℕ) (h : a ≤ length s) where
  abbrev Next : Result Bound Misfit → Type 0
  Next (Ok b) = Took s sv bases x a b
  Next (Err e) = e.0 ≡ a

  module _ (k : marked sv x ≡ true) where
    took : {r : Record} → Due s a bound_tag 10 r → bound_ok (part_of s r.start r.len) x (up (at bases x)) ≡ true
        → Next (Ok (record { next = r.next; increment = number_at 4 (part_of s r.start r.len) 6 }))
    took {r} d ok =
        let q = drop a s in
        let w = d.whole in
        let y = bound_says (part_of s r.start r.len) x (up (at bases x)) ok in
        let m : r.next ≡ a + 13 = omega arith in
        let z : 13 ≤ length q = rw length-drop (omega arith) in
        let e₁ : get_or q 0 0 ≡ bound_tag = get_or-drop a s 0 0 ∙ rw add-zero (sym w.tagged ∙ d.tagged) in
        let e₂ : number_at 2 q 1 ≡ 10 = number_drop 2 s a 1 ∙ sym w.counted ∙ d.long in
        let at_due : (k i : ℕ) → i + k ≤ 10 → number_at k q (3 + i) ≡ number_at k (part_of s r.start r.len) i =
        λ k i l. number_drop k s a (3 + i) ∙ rw (← add_assoc) (sym (number_due s a bound_tag 10 d k i l)) in
        record {
          bytes = λ c. rw (m, k) (take-add a 13 s ∙ rw (bound_bytes q (bytes_drop s a c) z e₁ e₂ (at_due 2 0 (omega arith) ∙ y.number) (at_due 4 2 (omega arith) ∙ y.based) (at_due 4 6 (omega arith))));
          within = omega arith;
          near = omega arith;
          most = y.most;
          none = λ f. absurd (clash (sym k ∙ f));
        }

    found_bound : Next (bound_due s x (up (at bases x)) a)
    unfolding bound_due
    found_bound =
        bind_cases Next (due bound_tag 10 a (record_at s a)) _
        (λ r g. if_cases Next _ _ _ (λ ok. took (was_due s a bound_tag 10 g) ok) (λ _. refl)) (λ e g. not_due s a bound_tag 10 g)

  skipped : marked sv x ≡ false → Next (Ok (record { next = a; increment = 0 }))
  skipped k = record { bytes = λ c. rw (k, append-nil); within = h; near = omega arith; most = omega arith; none = λ f. refl }

  stepped : Next (step_of s sv bases x a)
  unfolding step_of
  stepped = if_cases Next _ _ _ found_bound skipped

-- ---- all components

-- the k components from x on were read from l to n with the increments `is`
record Ran (s sv : List ℕ) (bases : List ℤ) (x k : ℕ) (l n : Ledger) (is : List ℕ) : Type 0 where
  grown : n.incs ≡ l.incs ++ is
  many : length is ≡ k
  bytes : OfBytes s → take n.at s ≡ take l.at s ++ tail_of sv bases x is
  within : n.at ≤ length s
  near : n.at ≤ l.at + 13 * k
  raised : Raised sv x is

module _ (s sv : List ℕ) (bases : List ℤ) where
  abbrev Reads : ℕ → ℕ → Ledger → Result Ledger Misfit → Type 0
  Reads x k l (Ok n) = (is : List ℕ) × Ran s sv bases x k l n is
  Reads x k l (Err e) = (e.0 ≤ length s) × (e.0 ≤ l.at + 13 * k)

  more : (x k : ℕ) (l : Ledger) (b : Bound) → Took s sv bases x l.at b → (t : Result Ledger Misfit) → Reads (suc x) k (with_bound l b) t → Reads x (suc k) l t
  unfolding tail_of
  more x k l b w (Err e) r = (r.0, omega arith)
  more x k l b w (Ok n) (is, r) = (
    b.increment ∷ is,
    record {
      grown = r.grown ∙ append_snoc l.incs b.increment is;
      many = ap suc r.many;
      bytes = λ c. r.bytes c ∙ rw (w.bytes c, append_assoc);
      within = r.within;
      near = omega arith;
      raised = raised_more w.most w.none r.raised;
    },
  )

  ran : (k x : ℕ) (l : Ledger) → l.at ≤ length s → Reads x k l (read_from s sv bases k x l)
  unfolding tail_of
  ran zero x l h = ([], record { grown = sym (append-nil l.incs); many = refl; bytes = λ c. sym (append-nil (take l.at s)); within = h; near = omega arith; raised = raised_none })
  ran (suc k) x l h =
      let t = stepped s sv bases x l.at h in
      bind_cases (Reads x (suc k) l) (step_of s sv bases x l.at) (λ b. read_from s sv bases k (suc x) (with_bound l b))
      (λ b g. let w = rw g at t in more x k l b w (read_from s sv bases k (suc x) (with_bound l b)) (ran k (suc x) (with_bound l b) w.within))
      (λ e g. let w = rw g at t in (omega arith, omega arith))

-- ---- the summary

-- what a summary says is right, and it has the bytes that are written for that
record Opened (s : List ℕ) (limit : ℕ) (y : Summary) : Type 0 where
  right : summary_ok y limit ≡ true
  long : 10 ≤ length s
  bytes : OfBytes s → take 10 s ≡ summary_of y

module _ (s : List ℕ) (limit : ℕ) where
  abbrev Opens : Result Summary Misfit → Type 0
  Opens (Ok y) = Opened s limit y
  Opens (Err e) = e.0 ≡ 0

  opened : {r : Record} → Due s 0 16 7 r → summary_ok (summary_in (part_of s r.start r.len)) limit ≡ true → Opened s limit (summary_in (part_of s r.start r.len))
  opened {r} d h =
      let w = d.whole in
      record {
        right = h;
        long = omega arith;
        bytes = λ c.
            summary_bytes s c (omega arith) (sym w.tagged ∙ d.tagged) (sym w.counted ∙ d.long) (sym (byte_due s 0 16 7 d (omega arith)))
            (sym (number_due s 0 16 7 d 4 1 (omega arith))) (sym (number_due s 0 16 7 d 2 5 (omega arith)));
      }

  opens : Opens (summary_at s limit)
  unfolding summary_at
  opens =
      bind_cases Opens (due 16 7 0 (record_at s 0)) _ (λ r g. if_cases Opens _ _ _ (λ h. opened (was_due s 0 16 7 g) h) (λ _. refl))
      (λ e g. not_due s 0 16 7 g)

-- ---- the whole

-- what an accepted result says is in range, and it has the bytes that are written for that
pub record Accepted (s sv : List ℕ) (bases : List ℤ) (y : Summary) : Type 0 where
  pub says : Sayable y sv (increments_of s sv bases)
  pub bytes : OfBytes s → s ≡ encode y sv bases (increments_of s sv bases)

module _ (s sv : List ℕ) (bases : List ℤ) where
  abbrev Final : Result Summary Misfit → Type 0
  Final (Ok y) = Accepted s sv bases y
  Final (Err e) = (e.0 ≤ length s) × (e.0 ≤ 10 + 13 * length sv)

  increments_are : {n : Ledger} → bounds_at s sv bases ≡ Ok n → increments_of s sv bases ≡ n.incs
  unfolding increments_of
  increments_are e = rw e

  module _ {y : Summary} (o : Opened s (count (marked sv) (length sv)) y) where
    all_read : {n : Ledger} → bounds_at s sv bases ≡ Ok n → Reads s sv bases 0 (length sv) (record { at = 10; incs = [] }) (Ok n) → length s ≤ n.at → Accepted s sv bases y
    all_read {n} e (is, r) g =
        let i = increments_are e ∙ r.grown in
        let here = take_all n.at s g in
        record {
          says = record { summary = o.right; all = rw i r.many; raised = rw i r.raised };
          bytes = λ c. sym here ∙ r.bytes c ∙ rw (i, o.bytes c) (sym (encode_is sv bases y is r.many));
        }

    judged : Final (and_then (bounds_at s sv bases) (at_end s y))
    judged =
        let r = ran s sv bases (length sv) 0 (record { at = 10; incs = [] }) o.long in
        bind_cases Final (bounds_at s sv bases) (at_end s y)
        (λ n e. let q = rw e at r in if_cases Final _ _ _ (λ g. (q.1.within, q.1.near)) (λ g. all_read e q g)) (λ e g. rw g at r)

  final : Final (told_of s sv bases)
  unfolding told_of
  final =
      let t = opens s (count (marked sv) (length sv)) in
      bind_cases Final (summary_at s (count (marked sv) (length sv))) _ (λ y g. judged (rw g at t)) (λ e g. let w = rw g at t in (omega arith, omega arith))

  -- ---- the laws

  pub accepted : {y : Summary} → told_of s sv bases ≡ Ok y → Accepted s sv bases y
  accepted e = rw e at final

  module _ {r : Misfit} (e : told_of s sv bases ≡ Err r) where
    refused : (r.0 ≤ length s) × (r.0 ≤ 10 + 13 * length sv)
    refused = rw e at final

    -- every place fits two bytes, however long the file
    pub place_small : length sv ≤ 1024 → r.0 < 65536
    place_small h = let q = refused in omega arith

    pub place_within : r.0 ≤ length s
    place_within = refused.0

    -- "the offset of a missing record is the result's length"
    pub place_missing : record_at s r.0 ≡ Ok None → r.0 ≡ length s
    place_missing f = let q = refused in let g = ended s r.0 f in omega arith

-- no two accepted results differ in bytes only
pub same_bytes : {s s' : List ℕ} {y : Summary} (sv : List ℕ) (bases : List ℤ) → OfBytes s → OfBytes s' → told_of s sv bases ≡ Ok y → told_of s' sv bases ≡ Ok y
    → increments_of s sv bases ≡ increments_of s' sv bases → s ≡ s'
same_bytes {s} {s'} sv bases b b' e e' i = (accepted s sv bases e).bytes b ∙ rw i (sym ((accepted s' sv bases e').bytes b'))
