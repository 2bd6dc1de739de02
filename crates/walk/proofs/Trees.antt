-- Laws of the tree of units at the front of a table: what becomes of it is what its sides make.
use mathlib.Core.Path.{◌≡◌, refl, sym, ap, ap₂, subst, ◌∙◌}
use mathlib.Core.Bool.{Bool}
use mathlib.Core.List.{List, [], ◌∷◌}
use Prim.Native.Nat.{ℕ, zero, suc, ◌+◌, ◌-◌, ◌*◌, ◌≤◌, ◌<◌}
use native.Mathlib.Omega.{arith}
use lib.Dec.{ltb}
use lib.IntN.{ℤ, pos}
use lib.ListN.{length, get_or, take, drop, length-drop, length-take}
use lib.Seq.{drop-drop, get_or-take}
use native.Mathlib.Nat.{not-suc-le-zero}
use Rattle.std.proofs.lemmas.List.{drop-take}
use Rattle.laws.proofs.Clash.{impossible}
use Rattle.laws.proofs.Residues.{some_units}
use Rattle.laws.specs.Joins.{join_of}
use Rattle.kinds.specs.Kinds.{join_in}
use Rattle.kinds.specs.declared.Join.{Join}
use Rattle.csl.specs.Outcomes.{Residue, unit, both, units}
use Rattle.cells.specs.Reduce.{Mode, joins, reaches}
use Rattle.cells.specs.Reduce as cells
use Rattle.cells.specs.Across.{nat_of, unit_reckoned, join_first_two, across}
use Rattle.cells.specs.Sights.{flat}
use Rattle.cells.specs.declared.Sight.{Sight}
use Rattle.cells.specs.declared.Sight.TheVariants.{Waits, Joins}
use Rattle.walk.specs.Tree.{Waiting, Joining, first_of, tree_reckoned, TreeOf, Tree}

-- the sort of the first unit, from the cells behind it too
pub sort_at : (cs : List ℤ) {b : Bool} → ltb (nat_of (get_or (take 24 cs) 0 (pos 0))) 20 ≡ b
    → ltb (nat_of (get_or cs 0 (pos 0))) 20 ≡ b
sort_at cs e = ap (λ z. ltb (nat_of z) 20) (sym (get_or-take 24 cs 0 (pos 0) (omega arith))) ∙ e

join_at : (cs : List ℤ) {join : Join} → Joining join (take 24 cs)
    → join_of (nat_of (get_or cs 0 (pos 0))) ≡ join_in join
join_at cs j = ap (λ z. join_of (nat_of z)) (sym (get_or-take 24 cs 0 (pos 0) (omega arith))) ∙ sym j.is

-- ---- n units
module _ (m : Mode) (s : List ℕ) (n : ℕ) (sights : List Sight) (cs : List ℤ) where
  across_wait : {size params values : ℕ} → Waiting size params values (take 24 cs)
      → across m s (suc n) (flat (Waits params values ∷ sights)) cs ≡ unit_reckoned m s params values (take 24 cs)
      ∷ across m s n (flat sights) (drop 24 cs)
  unfolding across flat
  across_wait w = rw (sort_at cs w.sort) refl

  across_join : (join : Join) (left : ℕ) → Joining join (take 24 cs)
      → across m s (suc n) (flat (Joins join left ∷ sights)) cs ≡ join_first_two (join_in join)
      (across m s n (flat sights) (drop 24 cs))
  unfolding across flat
  across_join join left j = rw (sort_at cs j.sort, join_at cs j) refl

-- ---- what becomes of a tree, side by side
reckoned_of : Mode → List ℕ → Residue → List Sight → List ℤ → cells.Reckoned
reckoned_of m s (unit k p a e) (Waits params values ∷ sights) cs = unit_reckoned m s params values (take 24 cs)
reckoned_of m s (both j l r) (Joins join left ∷ sights) cs = reaches (joins (join_in join)
    (reckoned_of m s l sights (drop 24 cs)) (reckoned_of m s r (drop left sights) (drop (24 + 24 * left) cs)))
reckoned_of m s res sights cs = cells.ended

module _ (m : Mode) (s : List ℕ) (size : ℕ) where
  -- the units of a tree, in front of others
  tree_first : (res : Residue) (k : ℕ) (sights : List Sight) (cs : List ℤ) → TreeOf size res sights cs
      → across m s (units res + k) (flat sights) cs ≡ reckoned_of m s res sights cs
      ∷ across m s k (flat (drop (units res) sights)) (drop (24 * units res) cs)
  unfolding TreeOf units reckoned_of join_first_two
  tree_first (unit o p a e) k (Waits params values ∷ sights) cs t =
      let one : 1 + k ≡ suc k = omega arith in
      ap (λ n. across m s n (flat (Waits params values ∷ sights)) cs) one ∙ across_wait m s k sights cs t.1
  tree_first (both j l r) k (Joins join left ∷ sights) cs t =
      let more : 1 + units l + units r + k ≡ suc (units l + (units r + k)) = omega arith in
      let is : units l ≡ left = sym t.2 in
      let ones : units l + units r ≡ left + units r = omega (arith, is) in
      let count : suc (left + units r) ≡ 1 + units l + units r = omega (arith, is) in
      let cells : 24 + 24 * left + 24 * units r ≡ 24 * (1 + units l + units r) = omega (arith, is) in
      ap (λ n. across m s n (flat (Joins join left ∷ sights)) cs) more
      ∙ across_join m s (units l + (units r + k)) sights cs join left t.1
      ∙ ap (join_first_two (join_in join)) (
      tree_first l (units r + k) sights (drop 24 cs) t.3
      ∙ ap (λ o. reckoned_of m s l sights (drop 24 cs) ∷ o) (
      ap₂ (λ x y. across m s (units r + k) (flat x) y) (ap (λ i. drop i sights) is)
      (drop-drop (24 * units l) 24 cs ∙ ap (λ i. drop (24 + 24 * i) cs) is)
      ∙ tree_first r k (drop left sights) (drop (24 + 24 * left) cs) t.4
      ∙ ap (λ o. reckoned_of m s r (drop left sights) (drop (24 + 24 * left) cs) ∷ o)
      (ap₂ (λ x y. across m s k (flat x) y)
      (drop-drop (units r) left sights ∙ ap (λ i. drop i (Joins join left ∷ sights)) count)
      (drop-drop (24 * units r) (24 + 24 * left) cs ∙ ap (λ i. drop i cs) cells))
      )
      )
  tree_first (unit o p a e) k [] cs t = absurd t
  tree_first (unit o p a e) k (Joins join left ∷ sights) cs t = absurd t
  tree_first (both j l r) k [] cs t = absurd t
  tree_first (both j l r) k (Waits params values ∷ sights) cs t = absurd t

  tree_is : (res : Residue) (sights : List Sight) (cs : List ℤ) → TreeOf size res sights cs
      → tree_reckoned m s (units res) sights cs ≡ reckoned_of m s res sights cs
  unfolding first_of
  tree_is res sights cs t = let none : units res ≡ units res + 0 = omega arith in
      ap (λ n. first_of (across m s n (flat sights) cs)) none ∙ ap first_of (tree_first res 0 sights cs t)

-- ---- what stands behind the units is of no account
module _ (size : ℕ) where
  taken_stands : (res : Residue) (n : ℕ) (sights : List Sight) (cs : List ℤ) → units res ≤ n → TreeOf size res sights cs
      → TreeOf size res (take n sights) cs
  unfolding TreeOf units
  taken_stands (unit k p a e) (suc n) (Waits params values ∷ sights) cs h t = t
  taken_stands (both j l r) (suc n) (Joins join left ∷ sights) cs h t =
      let at : left + (n - left) ≡ n = omega (arith, t.2) in
      let behind : drop left (take n sights) ≡ take (n - left) (drop left sights) = ap (λ k. drop left (take k sights))
      (sym at) ∙ drop-take left (n - left) sights in (
        t.0,
        t.1,
        t.2,
        taken_stands l n sights (drop 24 cs) (omega arith) t.3,
        subst (λ x. TreeOf size r x (drop (24 + 24 * left) cs)) (sym behind)
            (taken_stands r (n - left) (drop left sights) (drop (24 + 24 * left) cs) (omega (arith, t.2)) t.4),
      )
  taken_stands (unit k p a e) zero sights cs h t = absurd (not-suc-le-zero h)
  taken_stands (both j l r) zero sights cs h t = absurd (omega arith)
  taken_stands (unit k p a e) (suc n) [] cs h t = absurd t
  taken_stands (unit k p a e) (suc n) (Joins join left ∷ sights) cs h t = absurd t
  taken_stands (both j l r) (suc n) [] cs h t = absurd t
  taken_stands (both j l r) (suc n) (Waits params values ∷ sights) cs h t = absurd t

  long_of : (res : Residue) (sights : List Sight) (cs : List ℤ) → TreeOf size res sights cs → units res ≤ length sights
  unfolding TreeOf units
  long_of (unit k p a e) (Waits params values ∷ sights) cs t = omega arith
  long_of (both j l r) (Joins join left ∷ sights) cs t = omega (
    arith,
    t.2,
    some_units r,
    length-drop left sights,
    long_of r (drop left sights) (drop (24 + 24 * left) cs) t.4,
  )
  long_of (unit k p a e) [] cs t = absurd t
  long_of (unit k p a e) (Joins join left ∷ sights) cs t = absurd t
  long_of (both j l r) [] cs t = absurd t
  long_of (both j l r) (Waits params values ∷ sights) cs t = absurd t

  taken_same : (m : Mode) (s : List ℕ) (res : Residue) (n : ℕ) (sights : List Sight) (cs : List ℤ) → units res ≤ n
      → TreeOf size res sights cs → reckoned_of m s res (take n sights) cs ≡ reckoned_of m s res sights cs
  unfolding TreeOf units reckoned_of
  taken_same m s (unit k p a e) (suc n) (Waits params values ∷ sights) cs h t = refl
  taken_same m s (both j l r) (suc n) (Joins join left ∷ sights) cs h t =
      let at : left + (n - left) ≡ n = omega (arith, t.2) in
      let behind : drop left (take n sights) ≡ take (n - left) (drop left sights) = ap (λ k. drop left (take k sights))
      (sym at) ∙ drop-take left (n - left) sights in
      ap₂ (λ x y. reaches (joins (join_in join) x y)) (taken_same m s l n sights (drop 24 cs) (omega arith) t.3)
      (ap (λ x. reckoned_of m s r x (drop (24 + 24 * left) cs)) behind
      ∙ taken_same m s r (n - left) (drop left sights) (drop (24 + 24 * left) cs) (omega (arith, t.2)) t.4)
  taken_same m s (unit k p a e) zero sights cs h t = absurd (not-suc-le-zero h)
  taken_same m s (both j l r) zero sights cs h t = absurd (omega arith)
  taken_same m s (unit k p a e) (suc n) [] cs h t = absurd t
  taken_same m s (unit k p a e) (suc n) (Joins join left ∷ sights) cs h t = absurd t
  taken_same m s (both j l r) (suc n) [] cs h t = absurd t
  taken_same m s (both j l r) (suc n) (Waits params values ∷ sights) cs h t = absurd t

module _ {size n : ℕ} {sights : List Sight} {cs : List ℤ} (tree : Tree size sights cs n) where
  pub tree_long : n ≤ length sights
  tree_long = omega (arith, tree.count, long_of size tree.residue sights cs tree.stands)

  pub tree_taken : Tree size (take n sights) cs n
  tree_taken = record {
    residue = tree.residue;
    count = tree.count;
    few = tree.few;
    stands = taken_stands size tree.residue n sights cs (omega (arith, tree.count)) tree.stands;
  }

  pub taken_reckoned : (m : Mode) (s : List ℕ) → tree_reckoned m s n (take n sights) cs ≡ tree_reckoned m s n sights cs
  unfolding tree_taken
  taken_reckoned m s = ap (λ k. tree_reckoned m s k (take n sights) cs) tree.count
      ∙ tree_is m s size tree.residue (take n sights) cs tree_taken.stands
      ∙ taken_same size m s tree.residue n sights cs (omega (arith, tree.count)) tree.stands
      ∙ sym (ap (λ k. tree_reckoned m s k sights cs) tree.count ∙ tree_is m s size tree.residue sights cs tree.stands)

-- ---- what the code asks for
-- a first unit is there
front_of : (size : ℕ) (res : Residue) (sights : List Sight) (cs : List ℤ) → TreeOf size res sights cs
    → (1 ≤ length sights) × (24 ≤ length cs)
unfolding TreeOf
front_of size (unit k p a e) (Waits params values ∷ sights) cs t = (omega arith, t.0)
front_of size (both j l r) (Joins join left ∷ sights) cs t = (omega arith, t.0)
front_of size (unit k p a e) [] cs t = absurd t
front_of size (unit k p a e) (Joins join left ∷ sights) cs t = absurd t
front_of size (both j l r) [] cs t = absurd t
front_of size (both j l r) (Waits params values ∷ sights) cs t = absurd t

-- the two sides of a join, the left side of `left` units
pub record SidesAt (size : ℕ) (sights : List Sight) (cs : List ℤ) (n : ℕ) (join : Join) (left : ℕ) : Type 0 where
  pub fewer : 1 + left < n
  pub few : n ≤ 128
  pub seen : 1 + left ≤ length sights
  pub room : 24 + 24 * left ≤ length cs
  pub of_left : Tree size (drop 1 sights) (drop 24 cs) left
  pub of_right : Tree size (drop (1 + left) sights) (drop (24 + 24 * left) cs) (n - 1 - left)
  pub make : (m : Mode) (s : List ℕ) → reaches (joins (join_in join)
      (tree_reckoned m s left (drop 1 sights) (drop 24 cs))
      (tree_reckoned m s (n - 1 - left) (drop (1 + left) sights) (drop (24 + 24 * left) cs)))
      ≡ tree_reckoned m s n sights cs

sides_of : (size n : ℕ) (res : Residue) (sights : List Sight) (cs : List ℤ) → n ≡ units res → n ≤ 128
    → TreeOf size res sights cs → {join : Join} {left : ℕ} → get_or sights 0 (Waits 0 0) ≡ Joins join left
    → SidesAt size sights cs n join left
unfolding TreeOf units reckoned_of
sides_of size n (unit k p a e) [] cs count few t f = absurd t
sides_of size n (unit k p a e) (Waits params values ∷ sights) cs count few t f = impossible cc
sides_of size n (unit k p a e) (Joins i left ∷ sights) cs count few t f = absurd t
sides_of size n (both j l r) [] cs count few t f = absurd t
sides_of size n (both j l r) (Waits params values ∷ sights) cs count few t f = absurd t
sides_of size n (both j l r) (Joins i k ∷ sights) cs count few t {join = join} {left = left} f =
    let same : k ≡ left = cc in
    let same_join : i ≡ join = cc in
    rw (← same, ← same_join)
    let more : n - 1 - k ≡ units r = omega (arith, count, t.2) in
    let next : suc k ≡ 1 + k = omega arith in
    let front = front_of size r (drop k sights) (drop (24 + 24 * k) cs) t.4 in
    let right : TreeOf size r (drop (1 + k) (Joins i k ∷ sights)) (drop (24 + 24 * k) cs) =
    subst (λ a. TreeOf size r (drop a (Joins i k ∷ sights)) (drop (24 + 24 * k) cs)) next t.4 in
    record {
      fewer = omega (arith, count, t.2, some_units r);
      few = few;
      seen = omega (arith, front.0, length-drop k sights);
      room = omega (arith, front.1, length-drop (24 + 24 * k) cs);
      of_left = record { residue = l; count = t.2; few = omega (arith, count, few, t.2); stands = t.3 };
      of_right = record { residue = r; count = more; few = omega (arith, count, few); stands = right };
      make = λ m s.
          ap₂ (λ x y. reaches (joins (join_in i) x y))
          (ap (λ a. tree_reckoned m s a sights (drop 24 cs)) t.2 ∙ tree_is m s size l sights (drop 24 cs) t.3)
          (ap (λ a. tree_reckoned m s a (drop (1 + k) (Joins i k ∷ sights)) (drop (24 + 24 * k) cs)) more
          ∙ tree_is m s size r (drop (1 + k) (Joins i k ∷ sights)) (drop (24 + 24 * k) cs) right
          ∙ ap (λ a. reckoned_of m s r (drop a (Joins i k ∷ sights)) (drop (24 + 24 * k) cs)) (sym next))
          ∙ sym (ap (λ a. tree_reckoned m s a (Joins i k ∷ sights) cs) count
          ∙ tree_is m s size (both j l r) (Joins i k ∷ sights) cs t);
    }

waits_of : (size : ℕ) (res : Residue) (sights : List Sight) (cs : List ℤ) → TreeOf size res sights cs
    → {params values : ℕ} → get_or sights 0 (Waits 0 0) ≡ Waits params values
    → Waiting size params values (take 24 cs)
    × ((m : Mode) (s : List ℕ) → reckoned_of m s res sights cs ≡ unit_reckoned m s params values (take 24 cs))
unfolding TreeOf reckoned_of
waits_of size (unit k p a e) (Waits x y ∷ sights) cs t {params = params} {values = values} f =
    let x_is : x ≡ params = cc in
    let y_is : y ≡ values = cc in
    rw (← x_is, ← y_is) (t.1, λ m s. refl)
waits_of size (unit k p a e) [] cs t f = absurd t
waits_of size (unit k p a e) (Joins join left ∷ sights) cs t f = absurd t
waits_of size (both j l r) [] cs t f = absurd t
waits_of size (both j l r) (Waits params values ∷ sights) cs t f = absurd t
waits_of size (both j l r) (Joins join left ∷ sights) cs t f = impossible cc

module _ {size n : ℕ} {sights : List Sight} {cs : List ℤ} (tree : Tree size sights cs n) where
  pub tree_front : (1 ≤ length sights) × (24 ≤ length cs)
  tree_front = front_of size tree.residue sights cs tree.stands

  pub tree_sides : {join : Join} {left : ℕ} → get_or sights 0 (Waits 0 0) ≡ Joins join left
      → SidesAt size sights cs n join left
  tree_sides f = sides_of size n tree.residue sights cs tree.count tree.few tree.stands f

  module _ {params values : ℕ} (f : get_or sights 0 (Waits 0 0) ≡ Waits params values) where
    pub tree_waits : Waiting size params values (take 24 cs)
    tree_waits = (waits_of size tree.residue sights cs tree.stands f).0

    pub tree_unit : (m : Mode) (s : List ℕ)
        → tree_reckoned m s n sights cs ≡ unit_reckoned m s params values (take 24 cs)
    tree_unit m s = ap (λ k. tree_reckoned m s k sights cs) tree.count
        ∙ tree_is m s size tree.residue sights cs tree.stands
        ∙ (waits_of size tree.residue sights cs tree.stands f).1 m s

-- ---- the two sides of as many units as there are sights
abbrev pub left_of : List Sight → ℕ → List Sight
left_of sights left = take (1 + left - 1) (drop 1 sights)

abbrev pub right_of : List Sight → ℕ → List Sight
right_of sights left = take (length sights - (1 + left)) (drop (1 + left) sights)

pub record PartsAt (size : ℕ) (sights : List Sight) (cs : List ℤ) (join : Join) (left : ℕ) : Type 0 where
  pub fewer : 1 + left < length sights
  pub few : length sights ≤ 128
  pub room : 24 + 24 * left ≤ length cs
  pub long_left : length (left_of sights left) ≡ left
  pub long_right : length (right_of sights left) ≡ length sights - 1 - left
  pub of_left : Tree size (left_of sights left) (drop 24 cs) (length (left_of sights left))
  pub of_right : Tree size (right_of sights left) (drop (24 + 24 * left) cs) (length (right_of sights left))
  pub make : (m : Mode) (s : List ℕ) → reaches (joins (join_in join)
      (tree_reckoned m s (length (left_of sights left)) (left_of sights left) (drop 24 cs))
      (tree_reckoned m s (length (right_of sights left)) (right_of sights left) (drop (24 + 24 * left) cs)))
      ≡ tree_reckoned m s (length sights) sights cs

pub tree_parts : {size : ℕ} {sights : List Sight} {cs : List ℤ} → Tree size sights cs (length sights)
    → {join : Join} {left : ℕ} → get_or sights 0 (Waits 0 0) ≡ Joins join left → PartsAt size sights cs join left
tree_parts {size} {sights} {cs} tree {join} {left} f =
    let d = tree_sides tree f in
    let one : 1 + left - 1 ≡ left = omega arith in
    let rest : length sights - (1 + left) ≡ length sights - 1 - left = omega arith in
    let l : length (left_of sights left) ≡ left = omega (
      arith,
      length-take (1 + left - 1) (drop 1 sights),
      length-drop 1 sights,
      d.seen,
    ) in
    let r : length (right_of sights left) ≡ length sights - 1 - left = omega (
      arith,
      length-take (length sights - (1 + left)) (drop (1 + left) sights),
      length-drop (1 + left) sights,
    ) in
    record {
      fewer = d.fewer;
      few = d.few;
      room = d.room;
      long_left = l;
      long_right = r;
      of_left = rw (l, one) (tree_taken d.of_left);
      of_right = rw (r, rest) (tree_taken d.of_right);
      make = λ m s. rw (l, r, one, rest, taken_reckoned d.of_left m s, taken_reckoned d.of_right m s) (d.make m s);
    }

-- the one outcome of all the units
pub tree_only : {xs : List cells.Reckoned} {x : cells.Reckoned} → xs ≡ x ∷ [] → first_of xs ≡ x
unfolding first_of
tree_only e = rw e refl

-- where the right side of a join begins
pub cells_of : (k : ℕ) → 24 * (1 + k) ≡ 24 + 24 * k
cells_of k = omega arith
