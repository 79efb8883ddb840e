-- More delay leaves no component more slack; a round that spends one slack on a segment leaves the circuit in time, and the segment with none.
use Rattle.std.specs.Prelude.{◌≡◌, refl, ℕ, ℤ, pos, ◌≤ℤ◌, ◌<ℤ◌, List, ◌∷◌}
use Rattle.std.proofs.Math.Path.{fun_ext}
use mathlib.Core.List.{Memᴰ}
use Rattle.std.specs.Int.Signed.{≤ℤ_refl}
use Rattle.whole.specs.Whole.{whole, diff}
use Rattle.circuit.specs.Circuit.{Circuit, Timed, Ranked, InTime, Served, Segment, slack}
use Rattle.circuit.proofs.SlackLaws.{reach_le, last_way, first_way, due_le, in_time→slack}
use Rattle.circuit.proofs.DelayLaws.{◌⊑◌, reach_mono, due_mono}
use Rattle.circuit.proofs.GiftLaws.{give, total, Receives, give_more, lemma3}
use Rattle.circuit.proofs.SegmentLaws.{segment_slack, spent}

module _ {c : Circuit} {d a r d' a' r' : ℕ → ℤ} (t : Timed c d a r) (t' : Timed c d' a' r') (k : Ranked c.net) (h : d ⊑ d') where
  pub arrival_mono : {x : ℕ} → c.net.Part x → a x ≤ℤ a' x
  arrival_mono x_part = let (p, e) = last_way t k x_part in omega (whole, e, reach_mono c h p, reach_le t' p)

  pub required_mono : {x : ℕ} → c.net.Part x → r' x ≤ℤ r x
  required_mono x_part = let (q, e) = first_way t k x_part in omega (whole, e, due_mono c h q, due_le t' q)

  pub slack_mono : {x : ℕ} → c.net.Part x → slack a' r' x ≤ℤ slack a r x
  slack_mono {x} x_part = omega (whole, arrival_mono x_part, required_mono x_part, diff (r x) (a x), diff (r' x) (a' x))

-- the equations have one solution
pub times_unique : {c : Circuit} {d a r a' r' : ℕ → ℤ} → Timed c d a r → Timed c d a' r' → Ranked c.net → {x : ℕ} → c.net.Part x → (a x ≡ a' x) × (r x ≡ r' x)
times_unique {d} t t' k h =
    let same : d ⊑ d = λ x. ≤ℤ_refl (d x) in
    (omega (whole, arrival_mono t t' k same h, arrival_mono t' t k same h), omega (whole, required_mono t t' k same h, required_mono t' t k same h))

-- A round takes the delays d, with the times a and r, to d': a segment of served components with positive slack is given just that slack.
pub record Round (c : Circuit) (d a r d' : ℕ → ℤ) : Type 0 where
  pub first : ℕ
  pub rest : List ℕ
  pub served : (s : ℕ) → Memᴰ s (first ∷ rest) → Served c.net s
  pub segment : Segment c d a r first rest
  pub positive : pos 0 <ℤ slack a r first
  pub gifts : List (ℕ × ℕ)
  pub members : (s : ℕ) → Receives s gifts → Memᴰ s (first ∷ rest)
  pub spends : pos (total gifts) ≡ slack a r first
  pub after : (x : ℕ) → d' x ≡ give gifts d x

module _ {c : Circuit} {d a r d' : ℕ → ℤ} (q : Round c d a r d') where
  -- a round lowers no delay
  pub round_more : d ⊑ d'
  round_more x = rw q.after (give_more q.gifts d x)

  module _ (t : Timed c d a r) (k : Ranked c.net) (safe : InTime c d) where
    -- a round leaves the circuit in time
    pub round_safe : InTime c d'
    round_safe =
        rw (fun_ext q.after) (lemma3 t k safe q.gifts λ s g. omega (whole, segment_slack q.segment (q.members s g), q.spends))

    module _ {a' r' : ℕ → ℤ} (t' : Timed c d' a' r') where
      -- and every member's slack at zero
      pub round_spends : (v : ℕ) → Memᴰ v (q.first ∷ q.rest) → slack a' r' v ≡ pos 0
      round_spends v m =
          let first_served = q.served q.first (Memᴰ.head refl) in
          spent t k q.gifts first_served.part q.segment safe (λ s g. (q.served s (q.members s g), q.members s g)) q.spends (rw (fun_ext q.after) at t') v (q.served v m).part m

      -- a slack at zero stays there
      pub zero_stays : {x : ℕ} → c.net.Part x → slack a r x ≡ pos 0 → slack a' r' x ≡ pos 0
      zero_stays h e = omega (whole, slack_mono t t' k round_more h, in_time→slack t' k round_safe h)
