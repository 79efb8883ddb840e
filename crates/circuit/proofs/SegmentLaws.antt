-- Lemma 4 of 001: a segment lies on one path with its slack; and gifts that come to it leave every member with none.
use Rattle.std.specs.Prelude.{◌≡◌, ℕ, ℤ, pos, ◌-ℤ◌, List, ◌∷◌}
use Rattle.std.proofs.Common.{⊎_elim}
use mathlib.Core.List.Memᴰ
use mathlib.Core.List.{Memᴰ}
use Rattle.whole.specs.Whole.{whole, sum, diff}
use Rattle.circuit.specs.Circuit.{Circuit, into, To, then, reach, due, stops, On, Path, path_slack, InTime, Timed, Ranked, Served, Tight, Segment, alone, next}
use Rattle.circuit.proofs.SlackLaws.{lemma1, on_last, join, join_on, join_slack, last_way, first_way, in_time→slack}
use Rattle.circuit.proofs.GiftLaws.{give, total, Receives, all_hit, lemma3}

module _ {c : Circuit} {d a r : ℕ → ℤ} where
  tight_slack : {x y : ℕ} → Tight c d a r x y → (r y -ℤ a y) ≡ r x -ℤ a x
  tight_slack {x} {y} h = omega (whole, sum (r x) (into c d x y), sum (a x) (into c d x y), diff (r x) (a x), diff (r y) (a y))

  -- all of a segment have one slack
  pub segment_slack : {v x : ℕ} {ys : List ℕ} → Segment c d a r x ys → Memᴰ v (x ∷ ys) → (r v -ℤ a v) ≡ r x -ℤ a x
  segment_slack h (Memᴰ.head e) = rw e
  segment_slack {v = v} alone (Memᴰ.tail m) = elim m [ ]
  segment_slack (next h g) (Memᴰ.tail m) = omega (whole, segment_slack g m, tight_slack h)

  module _ (t : Timed c d a r) (k : Ranked c.net) where
    -- Lemma 4: a path that goes by p and on over the segment, with the segment's slack
    pub along : {x : ℕ} {ys : List ℕ} → c.net.Part x → Segment c d a r x ys → (p : To c.net x) → reach c d p ≡ a x →
        (q : Path c.net) × (path_slack c d q ≡ r x -ℤ a x) × ((v : ℕ) → On v p → On v q.way) × ((v : ℕ) → Memᴰ v ys → On v q.way)
    unfolding reach
    along {x} part alone p e =
        let (q, f) = first_way t k part in
        (join p q, omega (whole, join_slack c d p q, e, f, diff (r x) (a x), diff (due c d q) (reach c d p)), λ v m. join_on p q m, λ v m. absurd (Memᴰ.not-nil m))
    along {x} part (next {y} h g) p e =
        let (q, f, keeps, has) = along (k.to_part h.wire) g (then p h.wire) (omega (whole, e, h.same_arrival, sum (reach c d p) (into c d x y), sum (a x) (into c d x y))) in
        (q, omega (whole, f, tight_slack h), λ v m. keeps v (Memᴰ.tail m), λ v m. ⊎_elim {C = Memᴰ v (stops {x = q.last} q.way)} (λ i. keeps v (Memᴰ.head i)) (has v) (Memᴰ.cases_cons m))

    pub lemma4 : {x : ℕ} {ys : List ℕ} → c.net.Part x → Segment c d a r x ys → (q : Path c.net) × (path_slack c d q ≡ r x -ℤ a x) × ((v : ℕ) → Memᴰ v (x ∷ ys) → On v q.way)
    lemma4 {x} part h =
        let (p, e) = last_way t k part in
        let (q, f, keeps, has) = along part h p e in
        (q, f, λ v m. ⊎_elim {C = Memᴰ v (stops {x = q.last} q.way)} (λ i. keeps v (Memᴰ.cast i (on_last p))) (has v) (Memᴰ.cases_cons m))

    -- Gifts to served members that come to the segment's slack leave every member with none.
    pub spent : {x : ℕ} {ys : List ℕ} {a' r' : ℕ → ℤ} (l : List (ℕ × ℕ)) → c.net.Part x → Segment c d a r x ys → InTime c d →
        ((s : ℕ) → Receives s l → Served c.net s × Memᴰ s (x ∷ ys)) → pos (total l) ≡ r x -ℤ a x →
        Timed c (give l d) a' r' → (v : ℕ) → c.net.Part v → Memᴰ v (x ∷ ys) → r' v -ℤ a' v ≡ pos 0
    spent {x} {ys} {a'} {r'} l part h safe to whole_slack t' v v_part m =
        let (q, f, has) = lemma4 part h in
        let late = all_hit c q.way l d (λ s g. ((to s g).0, has s (to s g).1)) in
        let still = lemma3 t k safe l (λ s g. omega (whole, segment_slack h (to s g).1, whole_slack)) in
        let z = c.time q.last in
        omega (whole, late, f, whole_slack, in_time→slack t' k still v_part, lemma1 t' q (has v m), sum (reach c d q.way) (pos (total l)), diff z (reach c d q.way), diff z (reach c (give l d) q.way))
