-- The rows of the table hold: one test over each list computes to true, and one theorem turns it into each row.
use Rattle.std.specs.Prelude.{◌≡◌, refl, Bool, true, false, ◌&&◌, eqb, List, [], ◌∷◌}
use Rattle.std.proofs.Common.{ap, eqb-true}
use Rattle.std.proofs.lemmas.Bool.{false≢true, and_parts}
use mathlib.Core.List.{Memᴰ}
use Rattle.whole.specs.Whole.{eq_z, eq_is, max_z, min_z}
use Rattle.whole.specs.Pick.{if?}
use Rattle.circuit.specs.Netlist.{served_of}
use Rattle.circuit.specs.Lists.{up_from, tabulate, first_of, lowest, count}
use Rattle.circuit.specs.Times.{step, sweep, order, anchor, arrivals, requireds, slacks, overdue, in_time, late, lowest_late}
use Rattle.circuit.specs.Share.{lifted, descend, share_of}
use Rattle.circuit.specs.Rounds.{beats, choice_of, level, leads, after, feeds, before, ahead, behind, segment_of, deliver, given, chosen, round_of, moves, rounds, settled}
use Rattle.circuit.specs.Budget.{Outcome, LateAt, Budgeted, share_in, start_in, final_from, rounds_from, increments, budget_of}
use Rattle.circuit.specs.Table.{Row, Analysed, Outcomes, Keeps, Walks, Says, table, walked, lemma5}

-- two lists have the same elements by `eq`
unfoldable pub same_by : {A : Type 0} → (A → A → Bool) → List A → List A → Bool
same_by eq [] [] = true
same_by eq [] (y ∷ ys) = false
same_by eq (x ∷ xs) [] = false
same_by eq (x ∷ xs) (y ∷ ys) = eq x y && same_by eq xs ys

unfoldable pub same_outcome : Outcome → Outcome → Bool
unfolding same_by
same_outcome (LateAt x) (LateAt y) = eqb x y
same_outcome (LateAt x) (Budgeted t k l) = false
same_outcome (Budgeted s i l) (LateAt y) = false
same_outcome (Budgeted s i l) (Budgeted t j m) = eqb s t && (eqb i j && same_by eqb l m)

unfoldable pub holds : Row → Bool
unfolding same_by same_outcome eq_z max_z min_z if? up_from tabulate first_of lowest count step sweep order anchor arrivals requireds slacks overdue in_time late lowest_late lifted descend share_of beats choice_of level leads after feeds before ahead behind segment_of deliver given chosen round_of moves rounds settled share_in start_in final_from rounds_from increments budget_of
holds (Analysed w l) = same_by eq_z (slacks w.net w.base) l
holds (Outcomes m w o) = same_outcome (budget_of m w.net w.base) o
holds (Keeps m w l) = same_by eq_z (slacks w.net (final_from w.net (start_in m w.net w.base))) l
holds (Walks n d a r x l) = same_by eqb (segment_of n.froms n.tos (served_of n.kinds) d a r x) l

unfoldable pub all_hold : List Row → Bool
unfolding holds
all_hold [] = true
all_hold (r ∷ l) = holds r && all_hold l

-- the one statement
pub table_holds : all_hold table ≡ true
unfolding all_hold
table_holds = refl

same_is : {A : Type 0} (eq : A → A → Bool) → ((x y : A) → eq x y ≡ true → x ≡ y) → (l m : List A) → same_by eq l m ≡ true → l ≡ m
unfolding same_by
same_is eq f [] [] h = refl
same_is eq f [] (y ∷ ys) h = absurd (false≢true h)
same_is eq f (x ∷ xs) [] h = absurd (false≢true h)
same_is eq f (x ∷ xs) (y ∷ ys) h = let (p, q) = and_parts (eq x y) (same_by eq xs ys) h in rw (f x y p, same_is eq f xs ys q)

outcome_is : (o u : Outcome) → same_outcome o u ≡ true → o ≡ u
unfolding same_outcome
outcome_is (LateAt x) (LateAt y) h = ap LateAt (eqb-true x y h)
outcome_is (LateAt x) (Budgeted t k l) h = absurd (false≢true h)
outcome_is (Budgeted s i l) (LateAt y) h = absurd (false≢true h)
outcome_is (Budgeted s i l) (Budgeted t j m) h =
    let (p, g) = and_parts (eqb s t) (eqb i j && same_by eqb l m) h in
    let (q, r) = and_parts (eqb i j) (same_by eqb l m) g in
    rw (eqb-true s t p, eqb-true i j q, same_is eqb eqb-true l m r)

row_says : (r : Row) → holds r ≡ true → Says r
unfolding holds
row_says (Analysed w l) h = same_is eq_z eq_is (slacks w.net w.base) l h
row_says (Outcomes m w o) h = outcome_is (budget_of m w.net w.base) o h
row_says (Keeps m w l) h = same_is eq_z eq_is (slacks w.net (final_from w.net (start_in m w.net w.base))) l h
row_says (Walks n d a r x l) h = same_is eqb eqb-true (segment_of n.froms n.tos (served_of n.kinds) d a r x) l h

every : (l : List Row) → all_hold l ≡ true → (r : Row) → Memᴰ r l → holds r ≡ true
unfolding all_hold
every [] h r x'' = elim x'' [ ]
every (q ∷ l) h r (Memᴰ.head e) = rw e (and_parts (holds q) (all_hold l) h).0
every (q ∷ l) h r (Memᴰ.tail m) = every l (and_parts (holds q) (all_hold l) h).1 r m

pub walked_holds : all_hold walked ≡ true
unfolding all_hold
walked_holds = refl

pub lemma5_holds : all_hold lemma5 ≡ true
unfolding all_hold arrivals requireds step sweep order anchor tabulate up_from max_z min_z
lemma5_holds = refl

-- every row of the table says what is so
pub rows : (r : Row) → Memᴰ r table → Says r
rows r m = row_says r (every table table_holds r m)

pub walks : (r : Row) → Memᴰ r walked → Says r
walks r m = row_says r (every walked walked_holds r m)

pub lemma5_fails : (r : Row) → Memᴰ r lemma5 → Says r
lemma5_fails r m = row_says r (every lemma5 lemma5_holds r m)
