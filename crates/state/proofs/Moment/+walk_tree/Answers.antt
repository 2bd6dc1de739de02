-- A unit that waits is read as it stands; a join is read when all of its left side, then all of its right, were read
-- in the units that remain; one residue at most stands at the front, so where one is not read there is none.
use mathlib.Core.Path.{◌≡◌, ap, ◌∙◌}
use mathlib.Core.List.{List, ◌∷◌}
use Prim.Native.Nat.{ℕ, ◌+◌, ◌-◌, ◌*◌, ◌≤◌, ◌<◌}
use native.Mathlib.Omega.{arith}
use lib.ListN.{length, take, drop, length-drop}
use Rattle.std.proofs.Common.{Some}
use Rattle.kinds.specs.Kinds.{join_in}
use Rattle.cells.specs.declared.Sight.{Sight}
use Rattle.state.specs.Tree.{JoinsFirst, TreeAs}
use Rattle.state.proofs.Trees.{no_units, no_first, is_waits, is_joins, left_damaged, right_damaged, tree_of}
use Rattle.state.proofs.Trees.{rest_walk, sides_read}
use Rattle.laws.proofs.Lists.{part_from}
use Rattle.state.proofs.Moment.+walk_tree.Goals as goal
use Rattle.state.proofs.Moment.+walk_tree.Goals.{In-Joins, In_ok-left-in-Joins, In_ok-right-in-Joins}

-- the units behind the first, and those behind the left side
one_less : {n m : ℕ} → n + 1 ≡ m → n ≡ m - 1
one_less h = omega arith

remaining : (xs : List Sight) (k : ℕ) {n m : ℕ} → length xs ≡ n → n + 1 ≡ m
    → length (take (length xs - k) (drop k xs)) ≡ m - 1 - k
remaining xs k e h = rw (part_from k xs) (omega (arith, length-drop k xs))

module _ (t : ℕ) where
  -- ---- where it is a join
  join_first : (c : In-Joins t) → JoinsFirst (join_in c.in-Joins.join) c.args.cells.now
  join_first c = is_joins c.args.cells.now c.first_unit.ensures (c.in_ok-wait.was ∙ ap Some c.in-Joins.is)

  -- ---- after the left side: its tree, and the room that it leaves
  left_tree : (c : In_ok-left-in-Joins t) → TreeAs c.args.self.now.accepted.now c.args.self.now.time
      (length c.args.sights.now - 1) (drop 24 c.args.cells.now) c.walk_tree.new.sights c.in_ok-left-in-Joins.left.units
      c.in_ok-left-in-Joins.left.parties
  left_tree c = tree_of (rest_walk _ _ _ _ 24 c.args.cells.now c.walk_tree.ensures
      (one_less c.in_ok-sights.ensures.cases.1)) c.in_ok-left-in-Joins.was

  record Room (c : In_ok-left-in-Joins t) : Type 0 where
    remain : c.in_ok-left-in-Joins.left.units ≤ length c.walk_tree.new.sights
    behind : length c.walk_tree.new.sights ≡ length c.args.sights.now - 1
    some_units : 0 < length c.args.sights.now
    few : length c.args.sights.now ≤ 128
    cells : 24 * length c.args.sights.now ≤ length c.args.cells.now

  room : (c : In_ok-left-in-Joins t) → Room c
  room c =
      let behind : length c.walk_tree.new.sights ≡ length c.args.sights.now - 1 = omega
      (arith, c.walk_tree.auto.sights, one_less c.in_ok-sights.ensures.cases.1) in
      record {
        remain = omega (arith, (left_tree c).few);
        behind = behind;
        some_units = omega (arith, c.in_ok-sights.ensures.cases.1);
        few = c.requires.few;
        cells = c.requires.long;
      }

  -- ---- after the right side: its tree
  right_tree : (c : In_ok-right-in-Joins t) → TreeAs c.args.self.now.accepted.now c.args.self.now.time
      (length c.args.sights.now - 1 - c.in_ok-left-in-Joins.left.units)
      (drop (24 + 24 * c.in_ok-left-in-Joins.left.units) c.args.cells.now)
      c.walk_tree-in-Joins.new.sights c.in_ok-right-in-Joins.right.units c.in_ok-right-in-Joins.right.parties
  right_tree c =
      let k = c.in_ok-left-in-Joins.left.units in
      tree_of (rest_walk _ _ _ _ (24 + 24 * k) c.args.cells.now c.walk_tree-in-Joins.ensures
      (remaining c.walk_tree.new.sights k c.walk_tree.auto.sights c.in_ok-sights.ensures.cases.1))
      c.in_ok-right-in-Joins.was

-- ---- what is asked
pub read_unit-requires : goal.read_unit-requires
read_unit-requires t c =
    let q = c.requires in
    record {
      long = omega (arith, q.long, c.in_ok-sights.ensures.cases.1);
      first = is_waits c.args.cells.now c.first_unit.ensures (c.in_ok-wait.was ∙ ap Some c.in-Waits.is);
    }

pub overflow_mul-more : goal.overflow_mul-more
overflow_mul-more t c =
    let r = room t (goal.at.overflow_mul-more t c).In_ok-left-in-Joins in record { fits = omega arith }

pub overflow_add-more : goal.overflow_add-more
overflow_add-more t c =
    let r = room t (goal.at.overflow_add-more t c).In_ok-left-in-Joins in record { fits = omega arith }

pub offset_bounds-cells-left : goal.offset_bounds-cells-left
offset_bounds-cells-left t c =
    let r = room t (goal.at.offset_bounds-cells-left t c).In_ok-left-in-Joins in record { fits = omega arith }

pub slice_bounds-more-count : goal.slice_bounds-more-count
slice_bounds-more-count t c = let r = room t (goal.at.slice_bounds-more-count t c).In_ok-left-in-Joins in omega arith

pub slice_bounds-more-start : goal.slice_bounds-more-start
slice_bounds-more-start t c = let r = room t (goal.at.slice_bounds-more-start t c).In_ok-left-in-Joins in omega arith

pub offset_bounds-rest-left : goal.offset_bounds-rest-left
offset_bounds-rest-left t c =
    let r = room t (goal.at.offset_bounds-rest-left t c).In_ok-left-in-Joins in record { fits = omega arith }

pub slice_bounds-walk_tree-count-in-Joins : goal.slice_bounds-walk_tree-count-in-Joins
slice_bounds-walk_tree-count-in-Joins t c =
    let r = room t (goal.at.slice_bounds-walk_tree-count-in-Joins t c).In_ok-left-in-Joins in
    omega arith

pub slice_bounds-walk_tree-start-in-Joins : goal.slice_bounds-walk_tree-start-in-Joins
slice_bounds-walk_tree-start-in-Joins t c =
    let r = room t (goal.at.slice_bounds-walk_tree-start-in-Joins t c).In_ok-left-in-Joins in
    omega arith

pub read_join-requires : goal.read_join-requires
read_join-requires t c =
    let right = right_tree t (goal.at.read_join-requires t c).In_ok-right-in-Joins in
    let r = room t (goal.at.read_join-requires t c).In_ok-left-in-Joins in
    (omega arith, omega (arith, right.few))

-- ---- what is returned
-- no unit
pub returns-in_err-sights : goal.returns-in_err-sights
returns-in_err-sights t c = rw c.from_residual.ensures
    (no_units c.args.self.now.accepted.now c.args.self.now.time (length c.args.sights.now) c.args.cells.now
    c.args.sights.now c.in_err-sights.ensures.cases)

pub returns-in_err-wait : goal.returns-in_err-wait
returns-in_err-wait t c = rw c.from_residual-in_err-wait.ensures
    (no_first c.args.self.now.accepted.now c.args.self.now.time (length c.args.sights.now) c.args.cells.now
    (c.in_ok-sights.sight.now ∷ c.in_ok-sights.rest.now) (rw c.in_err-wait.was at c.first_unit.ensures))

-- the left side shows none
pub returns-in_err-left-in-Joins : goal.returns-in_err-left-in-Joins
returns-in_err-left-in-Joins t c =
    let at = goal.at.returns-in_err-left-in-Joins t c in
    rw c.from_residual-in_err-left-in-Joins.ensures
    (left_damaged c.args.self.now.accepted.now c.args.self.now.time (length c.args.sights.now) c.args.cells.now
    (join_first t at.In-Joins) c.walk_tree.new.sights _
    (rest_walk _ _ _ _ 24 c.args.cells.now c.walk_tree.ensures (one_less c.in_ok-sights.ensures.cases.1))
    c.in_err-left-in-Joins.was)

-- the right side shows none
pub returns-in_err-right-in-Joins : goal.returns-in_err-right-in-Joins
returns-in_err-right-in-Joins t c =
    let at = goal.at.returns-in_err-right-in-Joins t c in
    let k = c.in_ok-left-in-Joins.left.units in
    rw c.from_residual-in_err-right-in-Joins.ensures
    (right_damaged c.args.self.now.accepted.now c.args.self.now.time (length c.args.sights.now) c.args.cells.now
    (join_first t at.In-Joins) c.walk_tree-in-Joins.new.sights _ (left_tree t at.In_ok-left-in-Joins)
    (rest_walk _ _ _ _ (24 + 24 * k) c.args.cells.now c.walk_tree-in-Joins.ensures
    (remaining c.walk_tree.new.sights k c.walk_tree.auto.sights c.in_ok-sights.ensures.cases.1))
    c.in_err-right-in-Joins.was)

-- a join
pub returns-in_ok-right-in-Joins : goal.returns-in_ok-right-in-Joins
returns-in_ok-right-in-Joins t c =
    let at = goal.at.returns-in_ok-right-in-Joins t c in
    let l = at.In_ok-left-in-Joins in
    let o = room t l in
    c.read_join.ensures c.args.self.now.accepted.now c.args.self.now.time (length c.args.sights.now) c.args.cells.now _
    (sides_read c.in_ok-left-in-Joins.left c.in_ok-right-in-Joins.right c.walk_tree.new.sights
    c.walk_tree-in-Joins.new.sights (join_first t at.In-Joins) o.some_units o.remain
    (left_tree t l) (right_tree t at.In_ok-right-in-Joins))
