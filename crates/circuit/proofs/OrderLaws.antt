-- A rank from an order of the connections: so no law rests on how components are numbered.
use Rattle.std.specs.Prelude.{◌≡◌, refl, Bool, true, false, cond, ℕ, suc, ◌-◌, ◌<◌, ◌≤◌, eqb, ltb, length, List, [], ◌∷◌}
use mathlib.Core.List.{Memᴰ}
use Rattle.std.proofs.Common.{arith, ltb-true, lt-ltb, le-ltb, eq-eqb, ne_eqb}
use Rattle.std.proofs.Math.Decide.{ℕ_discrete}
use Rattle.std.proofs.lemmas.Bool.{cond_both}
use Rattle.circuit.specs.Circuit.{Ranked}
use Rattle.circuit.specs.Lists.{count}
use Rattle.circuit.proofs.ListLaws.{count_le, count_less}
use Rattle.circuit.specs.Netlist.{Netlist, parts, from, net_of, Wired}
use Rattle.circuit.specs.Times.{Ordered, then, WireOrder}

-- ---- from an order

-- how many connections of w are left from the first one out of x on, and 0 where none is out of x
height : (ℕ → ℕ) → List ℕ → ℕ → ℕ
height src [] x = 0
height src (j ∷ w) x = cond (eqb (src j) x) (suc (length w)) (height src w x)

-- no more than there are
height_le : (src : ℕ → ℕ) (w : List ℕ) (x : ℕ) → height src w x ≤ length w
unfolding height
height_le src [] x = omega arith
height_le src (j ∷ w) x = cond_both (eqb (src j) x) (suc (length w)) (height src w x) (λ h. h ≤ suc (length w)) (λ e. omega arith) (λ e. omega (arith, height_le src w x))

-- along each connection fewer are left
height_falls : {src tgt : ℕ → ℕ} (w : List ℕ) → Ordered src tgt w → {j : ℕ} → Memᴰ j w → height src w (tgt j) < height src w (src j)
unfolding height
height_falls {src = src} {tgt = tgt} [] _ {j = j} m = elim m [ ]
height_falls {src} {tgt} (i ∷ w) (then h q) {j} m = rw (ne_eqb (src i) (tgt j) (λ e. h j m (omega arith))) (by (λ t. height_falls w q t) (ℕ_discrete (src i) (src j)) m)
  where
    by : (Memᴰ j w → height src w (tgt j) < height src w (src j)) → Dec (src i ≡ src j) → Memᴰ j (i ∷ w) → height src w (tgt j) < cond (eqb (src i) (src j)) (suc (length w)) (height src w (src j))
    by f (yes e) m = rw (eq-eqb (src i) (src j) e) (omega (arith, height_le src w (tgt j)))
    by f (no e) (Memᴰ.head s) = absurd (e (rw s refl))
    by f (no e) (Memᴰ.tail m) = rw (ne_eqb (src i) (src j) e) (f m)

-- an order of all connections ranks the components
pub ranked_by : {n : Netlist} {w : List ℕ} → Wired n.froms n.tos (parts n) → WireOrder n w → Ranked (net_of n)
ranked_by {n} {w} r o = record {
  from_part = λ m. rw m.2 at (r.source m.0);
  to_part = λ m. rw m.3 at (r.target m.0);
  rank = λ x. length w - height (from n) w x;
  rises = λ {x} {y} m. fall x y (rw (m.2, m.3) at (height_falls w o.ordered (o.all m.0 m.1)));
  top = length w;
  below = λ h. omega arith;
}
  where
    fall : (x y : ℕ) → height (from n) w y < height (from n) w x → length w - height (from n) w x < length w - height (from n) w y
    fall x y h = omega (arith, height_le (from n) w x)

-- ---- as few ranks as components

-- a rank below the count of components
pub record Layered (n : Netlist) : Type 0 where
  pub ranked : Ranked (net_of n)
  pub low : ranked.top < parts n

-- any rank gives one: how many components lie lower
pub dense : {n : Netlist} → 0 < parts n → Ranked (net_of n) → Layered n
dense {n} some k = record {
  ranked = record {
    from_part = λ m. k.from_part m;
    to_part = λ m. k.to_part m;
    rank = λ x. count (under x) (parts n);
    rises = λ {x} {y} m. count_less (under x) (under y) (parts n) (λ z h e. lt-ltb (k.rank z) (k.rank y) (omega (arith, ltb-true (k.rank z) (k.rank x) e, k.rises m))) x (k.from_part m) (level x) (lt-ltb (k.rank x) (k.rank y) (k.rises m));
    top = parts n - 1;
    below = λ {x} h. omega (arith, count_less (under x) (λ z. true) (parts n) (λ z b e. refl) x h (level x) refl, count_le (λ z. true) (parts n));
  };
  low = omega arith;
}
  where
    under : ℕ → ℕ → Bool
    under x y = ltb (k.rank y) (k.rank x)

    level : (x : ℕ) → under x x ≡ false
    level x = le-ltb (k.rank x) (k.rank x) (omega arith)

-- an order of all connections gives one
pub layered : {n : Netlist} {w : List ℕ} → 0 < parts n → Wired n.froms n.tos (parts n) → WireOrder n w → Layered n
layered some r o = dense some (ranked_by r o)
