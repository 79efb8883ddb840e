-- What the functions do in a round is a round; it leaves the circuit in time and fewer served components with positive slack; so every run
-- ends, and the functions find it.
use Rattle.std.specs.Prelude.{◌≡◌, List, ◌∷◌, ℤ, pos, ◌≤ℤ◌, ◌<ℤ◌, length, refl, true, false, ℕ, zero, suc, ◌<◌, ◌≤◌}
use Rattle.std.proofs.Common.{ap, ◌∙◌, ⊎_elim, arith, ltb-true, ltb-false}
use mathlib.Core.List.Memᴰ
use Rattle.std.proofs.lemmas.Bool.{and_parts, and_right, cases_Bool}
use Rattle.std.specs.Int.Signed.{lt_z, ≤ℤ_refl}
use Rattle.whole.specs.Whole.{whole, up, apart, lt_true, lt_yes, lt_no}
use Rattle.circuit.specs.Circuit.{Timed, Served}
use Rattle.circuit.specs.Lists.{at, count}
use Rattle.circuit.proofs.ListLaws.{count_less}
use Rattle.circuit.specs.Netlist.{Netlist, parts, net_of, circuit_of, served_of, marked, serves}
use Rattle.circuit.specs.Times.{arrivals, requireds, slack_at}
use Rattle.circuit.specs.Rounds.{segment_of, given, chosen, round_of, moves, Run, halt, turn, rounds, settled, positive}
use Rattle.circuit.proofs.DelayLaws.{◌⊑◌}
use Rattle.circuit.proofs.SlackLaws.{in_time→slack}
use Rattle.circuit.proofs.SegmentLaws.{segment_slack}
use Rattle.circuit.proofs.RoundLaws.{Round, round_more, round_safe, round_spends, slack_mono}
use Rattle.circuit.proofs.DeliveryLaws.{portions, portions_total, portions_to, length-deliver, deliver_is, give_none}
use Rattle.circuit.proofs.ServedLaws.{length-served, serves_is, serves_part, serves_kind, target_served, is_serves}
use Rattle.circuit.proofs.ChoiceLaws.{Chosen, choice_is, choice_none}
use Rattle.circuit.proofs.WalkLaws.{segment_is, segment_served}
use Rattle.circuit.proofs.ClockLaws.{Clock}
use Rattle.circuit.specs.Safe.{Safe}
use Rattle.circuit.proofs.SafeLaws.{safe_timed}

-- how many served components have positive slack
abbrev pub positives : Netlist → List ℤ → ℕ
positives n d = count (positive (served_of n.kinds) (arrivals n d) (requireds n d)) (parts n)

-- the test tells
module _ (sv : List ℕ) (a r : List ℤ) (x : ℕ) where
  pub positive_is : positive sv a r x ≡ true → (marked sv x ≡ true) × (pos 0 <ℤ slack_at a r x)
  unfolding positive
  positive_is h = let (p, q) = and_parts (marked sv x) (lt_z (pos 0) (slack_at a r x)) h in (p, omega (whole, lt_true (pos 0) (slack_at a r x) q))

  pub positive_yes : marked sv x ≡ true → pos 0 <ℤ slack_at a r x → positive sv a r x ≡ true
  unfolding positive
  positive_yes h l = rw (h, lt_yes (pos 0) (slack_at a r x) l)

  pub positive_no : slack_at a r x ≤ℤ pos 0 → positive sv a r x ≡ false
  unfolding positive
  positive_no l = and_right (marked sv x) _ (lt_no (pos 0) (slack_at a r x) l)

module _ {n : Netlist} (k : Clock n) where
  abbrev sv : List ℕ
  sv = served_of n.kinds

  module _ {d : List ℤ} (s : Safe n d) where
    abbrev a : List ℤ
    a = arrivals n d

    abbrev r : List ℤ
    r = requireds n d

    abbrev x : ℕ
    x = chosen n sv d

    at_length : parts n ≤ length sv
    at_length = rw (length-served n.kinds) (omega arith)

    choice : moves n sv d ≡ true → Chosen sv a r (parts n) x
    unfolding moves chosen
    choice m = choice_is sv a r (parts n) at_length (rw (length-served n.kinds) (ltb-true x (parts n) m))

    -- where there is a round to do, its delivery is a round
    pub round_is : moves n sv d ≡ true → Round (circuit_of n) (at d) (at a) (at r) (at (round_of n sv d))
    unfolding round_of given
    round_is m =
        let q = choice m in
        let j = k.judged in
        let f = segment_is n sv d a r s.all j.wired j.sorted k.ranked k.low x q.below in
        let same = segment_slack f.segment f.has in
        record {
          first = f.first;
          rest = f.rest;
          served = λ v i. serves_is n v (segment_served n sv d a r s.all j.wired j.sorted k.ranked k.low x q.below q.served (target_served n j) v (rw f.is i));
          segment = f.segment;
          positive = omega (whole, same, q.positive);
          gifts = portions (up (slack_at a r x)) (f.first ∷ f.rest);
          members = λ v i. portions_to (up (slack_at a r x)) (f.first ∷ f.rest) i;
          spends = omega (whole, same, q.positive, apart (slack_at a r x), portions_total (up (slack_at a r x)) f.first f.rest);
          after = λ y. rw f.is (deliver_is (up (slack_at a r x)) (f.first ∷ f.rest) d (λ z i. rw s.all (f.inside z i)) y);
        }

    -- it lowers no delay
    pub round_raises : moves n sv d ≡ true → at d ⊑ at (round_of n sv d)
    round_raises m = round_more (round_is m)

    length-round : length (round_of n sv d) ≡ length d
    unfolding round_of given
    length-round = length-deliver (up (slack_at a r x)) (segment_of n.froms n.tos sv d a r x) d

    -- and leaves delays that are as they were: none negative, none at an input, in time
    pub round_keeps : moves n sv d ≡ true → Safe n (round_of n sv d)
    round_keeps m =
        let q = round_is m in
        record {
          all = length-round ∙ s.all;
          least = λ y. omega (whole, s.least y, round_raises m y);
          quiet = λ y e. q.after y ∙ give_none q.gifts (at d) y (λ i. serves_kind n y (is_serves n y (q.served y (q.members y i))) e) ∙ s.quiet y e;
          safe = round_safe q (safe_timed k s) k.ranked s.safe;
        }

    -- it leaves fewer served components with positive slack: the segment has none left, and nobody has more than before
    pub round_falls : moves n sv d ≡ true → positives n (round_of n sv d) < positives n d
    round_falls m =
        count_less (positive sv a' r') (positive sv a r) (parts n) still q.first first.part (positive_no sv a' r' q.first (omega (whole, none))) (positive_yes sv a r q.first (is_serves n q.first first) q.positive)
      where
        q : Round (circuit_of n) (at d) (at a) (at r) (at (round_of n sv d))
        q = round_is m

        a' : List ℤ
        a' = arrivals n (round_of n sv d)

        r' : List ℤ
        r' = requireds n (round_of n sv d)

        timed : Timed (circuit_of n) (at (round_of n sv d)) (at a') (at r')
        timed = safe_timed k (round_keeps m)

        first : Served (net_of n) q.first
        first = q.served q.first (Memᴰ.head refl)

        none : slack_at a' r' q.first ≡ pos 0
        none = round_spends q (safe_timed k s) k.ranked s.safe timed q.first (Memᴰ.head refl)

        still : (y : ℕ) → y < parts n → positive sv a' r' y ≡ true → positive sv a r y ≡ true
        still y l h =
            let (u, v) = positive_is sv a' r' y h in
            positive_yes sv a r y u (omega (whole, v, slack_mono (safe_timed k s) timed k.ranked (round_raises m) {x = y} l))

    -- a served component without positive slack has none
    spent_at : (y : ℕ) → serves n y ≡ true → slack_at a r y ≤ℤ pos 0 → slack_at a r y ≡ pos 0
    spent_at y h l = omega (whole, l, in_time→slack (safe_timed k s) k.ranked s.safe {x = y} (serves_part n y h))

    stopped : moves n sv d ≡ false → (y : ℕ) → serves n y ≡ true → slack_at a r y ≡ pos 0
    unfolding moves chosen
    stopped m y h = spent_at y h (choice_none sv a r (parts n) at_length (rw (length-served n.kinds) (ltb-false x (parts n) m)) y (serves_part n y h) h)

  -- what rounds that took the delays d to f leave: in time, no delay lowered, every served slack at zero, and no more rounds than there were
  -- served components with positive slack
  pub record Done (d f : List ℤ) (rounds_done : ℕ) : Type 0 where
    pub safe : Safe n f
    pub more : at d ⊑ at f
    pub spent : (x : ℕ) → serves n x ≡ true → slack_at (arrivals n f) (requireds n f) x ≡ pos 0
    pub few : rounds_done ≤ positives n d

  -- a run leaves that
  pub run_done : {d f : List ℤ} {c : ℕ} → Run n sv d f c → Safe n d → Done d f c
  run_done {d = d} (halt m) s = record { safe = s; more = λ x. ≤ℤ_refl (at d x); spent = stopped s m; few = omega arith }
  run_done (turn m q) s =
      let fewer = round_falls s m in
      let e = run_done q (round_keeps s m) in
      let l = e.few in
      record { safe = e.safe; more = λ x. omega (whole, e.more x, round_raises s m x); spent = e.spent; few = omega arith }

  -- the functions find a run, where they follow it for as many rounds as there are served components with positive slack
  pub run_found : (m : ℕ) (d : List ℤ) → Safe n d → positives n d ≤ m → Run n sv d (settled n sv m d) (rounds n sv m d)
  unfolding settled rounds
  run_found zero d s h = ⊎_elim (λ e. absurd (omega (arith, round_falls s e))) (λ e. halt e) (cases_Bool (moves n sv d))
  run_found (suc m) d s h =
      ⊎_elim (λ e. rw e (turn e (run_found m (round_of n sv d) (round_keeps s e) (omega (arith, round_falls s e))))) (λ e. rw e (halt e)) (cases_Bool (moves n sv d))

-- and no other, where they follow it to its end
pub run_is : {n : Netlist} {sv : List ℕ} {d f : List ℤ} {c : ℕ} → Run n sv d f c → (m : ℕ) → c ≤ m → (f ≡ settled n sv m d) × (c ≡ rounds n sv m d)
unfolding settled rounds
run_is (halt e) zero h = (refl, refl)
run_is (halt e) (suc m) h = rw e (refl, refl)
run_is (turn e q) zero h = absurd (omega arith)
run_is (turn e q) (suc m) h = let (f, g) = run_is q m (omega arith) in rw e (f, ap suc g)
