-- There and back: the judge accepts what the writer writes, with the same mode, share, rounds and increments; so no two results that say
-- different things have the same bytes.
use Rattle.std.specs.Prelude.{◌≡◌, Bool, not, ◌&&◌, ◌||◌, ℕ, suc, ◌+◌, ◌%◌, ◌≤◌, ◌<◌, eqb, leb, ℤ, drop, Some, Ok, true, false, cond, List, [], ◌∷◌, ◌++◌, length, get_or, take}
use Rattle.std.proofs.Common.{refl, sym, ap, ◌∙◌, subst, add_assoc, drop_at, drop-drop, get_or-drop, append_assoc, append-nil, arith, add-zero, length-append, eq-eqb, ne_eqb, eqb-true, le-leb, leb-true}
use Rattle.std.proofs.Math.Decide.{ℕ_discrete}
use Rattle.std.proofs.Math.Seq.{append_snoc}
use Rattle.whole.specs.Whole.{up}
use Rattle.whole.specs.Pick.{if?, if_yes, if_no}
use Rattle.whole.specs.Bytes.{number_at, bytes_of, number_same, number_in}
use Rattle.circuit.specs.Lists.{at, count}
use Rattle.circuit.proofs.ListLaws.{both, count_le}
use Rattle.circuit.specs.Netlist.{marked}
use Rattle.records.specs.Record.{record_at, part_of}
use Rattle.results.specs.declared.Summary.{Summary}
use Rattle.results.specs.Result.{summary_of, bound_of, bound_tag, encode, summary_ok, bound_ok, misfit, summary_at, bound_due, step_of, read_from, bounds_at, told_of, increments_of}
use Rattle.results.specs.Columns.{Bases}
use Rattle.results.specs.Writing.{length-summary, length-bound}
use Rattle.records.specs.RecordLaws.{found}
use Rattle.results.specs.Judging.{held}
use Rattle.results.specs.Tail.{bound_for, tail_of, Raised, raised_head, raised_tail, encode_is}

-- a number is read behind a place as in the whole
pub number_drop : (k : ℕ) (s : List ℕ) (a i : ℕ) → number_at k (drop a s) i ≡ number_at k s (a + i)
number_drop k s a i = number_same k (drop a s) s i (a + i) (λ m h. get_or-drop a s (i + m) 0 ∙ rw add_assoc)

-- ---- one bound

module _ (x b i : ℕ) (hx : x < 65536) (hb : b ≤ 65535) (hi : i ≤ 200000000) where
  abbrev fields : List ℕ
  fields = bytes_of 2 x ++ (bytes_of 4 b ++ bytes_of 4 i)

  fields_number : number_at 4 fields 6 ≡ i
  unfolding bytes_of
  fields_number = number_in 4 (bytes_of 2 x ++ bytes_of 4 b) [] 6 i refl (omega arith)

  fields_ok_lem : bound_ok fields x b ≡ true
  unfolding bound_ok bytes_of
  fields_ok_lem =
      let e₁ : number_at 2 fields 0 ≡ x = number_in 2 [] (bytes_of 4 b ++ bytes_of 4 i) 0 x refl (omega arith) in
      let e₂ : number_at 4 fields 2 ≡ b = number_in 4 (bytes_of 2 x) (bytes_of 4 i) 2 b refl (omega arith) in
      rw (eq-eqb _ _ e₁, eq-eqb _ _ e₂, fields_number, le-leb _ _ hi)

  module _ (pre post : List ℕ) where
    abbrev file : List ℕ
    file = pre ++ (bound_of bound_tag x b i ++ post)

    behind : drop (length pre) file ≡ bound_of bound_tag x b i ++ post
    behind = drop_at pre (bound_of bound_tag x b i ++ post) (length pre) refl

    there : record_at file (length pre) ≡ Ok (Some (record { tag = bound_tag; start = length pre + 3; len = 10; next = length pre + 3 + 10 }))
    unfolding bound_of bytes_of number_at
    there =
        let d : get_or (drop (length pre) file) 0 0 ≡ bound_tag = rw behind in
        let e₁ : get_or file (length pre) 0 ≡ bound_tag = sym (rw add-zero at (get_or-drop (length pre) file 0 0)) ∙ d in
        let e₂ : number_at 2 file (length pre + 1) ≡ 10 = sym (number_drop 2 file (length pre) 1) ∙ rw behind in
        found file (length pre) e₁ e₂ (rw (length-append pre (bound_of bound_tag x b i ++ post), length-append (bound_of bound_tag x b i) post, length-bound bound_tag x b i) (omega arith))

    inside : part_of file (length pre + 3) 10 ≡ fields
    unfolding bound_of bytes_of
    inside = ap (λ (l : List ℕ). take 10 l) (sym (drop-drop 3 (length pre) file)) ∙ rw behind

    stepped : (sv : List ℕ) (bases : List ℤ) → marked sv x ≡ true → b ≡ up (at bases x) → step_of file sv bases x (length pre) ≡ Ok (record { next = length pre + 13; increment = i })
    unfolding step_of bound_due if?
    stepped sv bases h e =
        let n : length pre + 3 + 10 ≡ length pre + 13 = omega arith in
        rw (h, ← e, there, inside, fields_ok_lem, fields_number, n)

-- ---- all bounds

module _ (sv : List ℕ) (bases : List ℤ) (h : Bases bases) where
  step_back : (x i : ℕ) (pre post : List ℕ) → x < 65536 → (i ≤ 200000000) × (marked sv x ≡ false → i ≡ 0)
      → step_of (pre ++ (bound_for sv bases x i ++ post)) sv bases x (length pre) ≡ Ok (record { next = length (pre ++ bound_for sv bases x i); increment = i })
  unfolding step_of
  step_back x i pre post l r = by (marked sv x) refl
    where
      by : (q : Bool) → marked sv x ≡ q
          → step_of (pre ++ (cond q (bound_of bound_tag x (up (at bases x)) i) [] ++ post)) sv bases x (length pre)
          ≡ Ok (record { next = length (pre ++ cond q (bound_of bound_tag x (up (at bases x)) i) []); increment = i })
      by true e =
          stepped x (up (at bases x)) i l (h.most x) r.0 pre post sv bases e refl
          ∙ rw (length-append pre (bound_of bound_tag x (up (at bases x)) i), length-bound bound_tag x (up (at bases x)) i)
      by false e = sym (if_no _ _ e (rw (r.1 e, append-nil)))

  reads : (is : List ℕ) (x : ℕ) (pre post acc : List ℕ) → x + length is ≤ 1024 → Raised sv x is
      → read_from (pre ++ (tail_of sv bases x is ++ post)) sv bases (length is) x (held (length pre) acc) ≡ Ok (held (length (pre ++ tail_of sv bases x is)) (acc ++ is))
  unfolding tail_of
  reads [] x pre post acc l r = rw (append-nil pre, append-nil acc)
  reads (i ∷ is) x pre post acc l r =
      let b = bound_for sv bases x i in
      let t = tail_of sv bases (suc x) is in
      let q = reads is (suc x) (pre ++ b) post (acc ++ (i ∷ [])) (omega arith) (raised_tail r) in
      let e : b ++ t ++ post ≡ b ++ (t ++ post) = append_assoc b t post in
      subst
      (λ (l : List ℕ). read_from (pre ++ l) sv bases (suc (length is)) x (held (length pre) acc) ≡ Ok (held (length (pre ++ (b ++ t))) (acc ++ (i ∷ is))))
      (sym e)
      (rw (step_back x i pre (t ++ post) (omega arith) (raised_head r)) (rw (append_assoc pre b (t ++ post), append_assoc pre b t, append_snoc) at q))

-- ---- the summary

-- what a right summary says
pub record Said (y : Summary) (limit : ℕ) : Type 0 where
  pub mode : y.mode ≤ 1
  pub share : y.share ≤ 200000000
  pub plain : y.mode ≡ 0 → y.share ≡ 0
  pub rounds : y.rounds ≤ limit

plain_share : (m t : ℕ) → (not (eqb m 0) || eqb t 0) ≡ true → m ≡ 0 → t ≡ 0
plain_share m t e h = eqb-true t 0 (rw (eq-eqb m 0 h) at e)

pub summary_said : {y : Summary} {limit : ℕ} → summary_ok y limit ≡ true → Said y limit
unfolding summary_ok
summary_said {y} {limit} e =
    let (a, p) = both (leb y.mode 1) (leb y.share 200000000 && ((not (eqb y.mode 0) || eqb y.share 0) && leb y.rounds limit)) e in
    let (b, q) = both (leb y.share 200000000) ((not (eqb y.mode 0) || eqb y.share 0) && leb y.rounds limit) p in
    let (c, d) = both (not (eqb y.mode 0) || eqb y.share 0) (leb y.rounds limit) q in
    record { mode = leb-true y.mode 1 a; share = leb-true y.share 200000000 b; plain = plain_share y.mode y.share c; rounds = leb-true y.rounds limit d }

-- and what says so is right
plain_ok : (m t : ℕ) → (m ≡ 0 → t ≡ 0) → (not (eqb m 0) || eqb t 0) ≡ true
plain_ok m t h = by (ℕ_discrete m 0)
  where
    by : Dec (m ≡ 0) → (not (eqb m 0) || eqb t 0) ≡ true
    by (yes e) = rw (eq-eqb m 0 e, eq-eqb t 0 (h e))
    by (no e) = rw (ne_eqb m 0 e)

pub said_summary : {y : Summary} {limit : ℕ} → Said y limit → summary_ok y limit ≡ true
unfolding summary_ok
said_summary {y} {limit} s = rw (le-leb y.mode 1 s.mode, le-leb y.share 200000000 s.share, plain_ok y.mode y.share s.plain, le-leb y.rounds limit s.rounds)

module _ (y : Summary) (limit : ℕ) (h : summary_ok y limit ≡ true) (g : limit ≤ 1024) (post : List ℕ) where
  summary_there : record_at (summary_of y ++ post) 0 ≡ Ok (Some (record { tag = 16; start = 3; len = 7; next = 10 }))
  unfolding summary_of bytes_of number_at
  summary_there = found (summary_of y ++ post) 0 refl refl (rw (length-append (summary_of y) post, length-summary y) (omega arith))

  summary_back : summary_at (summary_of y ++ post) limit ≡ Ok y
  unfolding summary_at summary_of bytes_of if?
  summary_back =
      let s = summary_said h in
      let p = bytes_of 1 y.mode ++ (bytes_of 4 y.share ++ bytes_of 2 y.rounds) in
      let e₀ : y.mode % 256 ≡ y.mode = omega arith in
      let e₁ : number_at 4 p 1 ≡ y.share = number_in 4 (bytes_of 1 y.mode) (bytes_of 2 y.rounds) 1 y.share refl (omega arith) in
      let e₂ : number_at 2 p 5 ≡ y.rounds = number_in 2 (bytes_of 1 y.mode ++ bytes_of 4 y.share) [] 5 y.rounds refl (omega arith) in
      rw summary_there (rw (e₁, e₂, e₀) (rw h))

-- ---- the whole

-- what a result can say of a netlist with these marks: "mode above 1; share above 200,000,000, or not 0 in mode 0; rounds above the number of
-- non-inputs .. an increment above 200,000,000" are wrong, and an input has no increment
pub record Sayable (y : Summary) (sv incs : List ℕ) : Type 0 where
  pub summary : summary_ok y (count (marked sv) (length sv)) ≡ true
  pub all : length incs ≡ length sv
  pub raised : Raised sv 0 incs

module _ {y : Summary} {sv incs : List ℕ} {bases : List ℤ} (h : Bases bases) (few : length sv ≤ 1024) (z : Sayable y sv incs) where
  abbrev written : List ℕ
  written = encode y sv bases incs

  module _ (rest : List ℕ) where
    bounds_there : bounds_at (written ++ rest) sv bases ≡ Ok (held (length written) incs)
    bounds_there =
        let q = reads sv bases h incs 0 (summary_of y) rest [] (omega arith) z.raised in
        rw (encode_is sv bases y incs z.all, append_assoc, ← z.all) (rw (length-summary y) at q)

    summary_found : summary_at (written ++ rest) (count (marked sv) (length sv)) ≡ Ok y
    summary_found =
        let c = count_le (marked sv) (length sv) in
        rw (encode_is sv bases y incs z.all, append_assoc)
        (summary_back y (count (marked sv) (length sv)) z.summary (omega arith) (tail_of sv bases 0 incs ++ rest))

    -- what is left over is wrong
    pub told_over : 0 < length rest → told_of (written ++ rest) sv bases ≡ misfit (length written)
    unfolding told_of
    told_over l = rw (summary_found, bounds_there) (sym (if_yes _ _ (rw (length-append written rest) (omega arith)) refl))

  pub told_back : told_of written sv bases ≡ Ok y
  unfolding told_of
  told_back = rw (rw append-nil at (summary_found []), rw append-nil at (bounds_there [])) (sym (if_no _ _ (omega arith) refl))

  pub increments_back : increments_of written sv bases ≡ incs
  unfolding increments_of
  increments_back = let q = rw append-nil at (bounds_there []) in rw q

-- so results with the same bytes say the same
module _ {y y' : Summary} {sv incs incs' : List ℕ} {bases : List ℤ} (h : Bases bases) (few : length sv ≤ 1024) (z : Sayable y sv incs) (z' : Sayable y' sv incs') where
  pub encode_one : encode y sv bases incs ≡ encode y' sv bases incs' → (y ≡ y') × (incs ≡ incs')
  encode_one e =
      let a = told_back h few z in
      let b = told_back h few z' in
      let i = increments_back h few z in
      let j = increments_back h few z' in
      (cc, cc)
