-- A unit that waits is a tree of its own. A join comes to what its sides come to, joined: the left side begins behind
-- it, the right side where the left side's units end, and both are shorter.
use Prim.Native.Nat.{ℕ, ◌+◌, ◌*◌, ◌≤◌}
use native.Mathlib.Omega.{arith}
use borrow.Author.Rules.{rules}
use lib.IntN.{pos}
use lib.ListN.{length, get_or, drop, length-take}
use Rattle.arith.proofs.Ints.{read! }
use Rattle.csl.specs.Outcomes.{Residue}
use Rattle.walk.specs.Ahead.{UnitsOf, ComesTo}
use Rattle.walk.proofs.Forecasts.{behind, front_there, Alone, alone, Joined, joined_of, left_units, right_there}
use Rattle.walk.proofs.Forecasts.{right_units, sides_count, sides_make}
use Rattle.walk.proofs.ahead.+tree_ahead.Goals as goal
use Rattle.walk.proofs.ahead.+tree_ahead.Goals.{In-None, In-Some, After-tree_ahead-left, After-tree_ahead-right}

module _ (t : ℕ) where
  waits : (c : In-None t) (res : Residue) → UnitsOf (length c.args.agreement.now) res c.args.cells.now
      → Alone (length c.args.agreement.now) res c.args.cells.now
  waits c res u =
      let z = get_or c.args.cells.now 0 (pos 0) in
      alone (length c.args.agreement.now) res c.args.cells.now u
      (rw (read! {z = z} (search rules)) at c.in-None.ensures)

  sides : (c : In-Some t) (res : Residue) → UnitsOf (length c.args.agreement.now) res c.args.cells.now
      → Joined (length c.args.agreement.now) res c.args.cells.now c.in-Some.kind
  sides c res u =
      let z = get_or c.args.cells.now 0 (pos 0) in
      joined_of (length c.args.agreement.now) res c.args.cells.now u
      (rw (read! {z = z} (search rules)) at c.in-Some.ensures)

pub bounds-cells-0 : goal.bounds-cells-0
bounds-cells-0 t c = omega (arith, front_there c.requires.tree)

-- ---- a unit that waits
pub slice_bounds-unit_ahead-end : goal.slice_bounds-unit_ahead-end
slice_bounds-unit_ahead-end t c = omega (arith, length-take 24 c.args.cells.now, front_there c.requires.tree)

pub unit_ahead-requires-clause-waits : goal.unit_ahead-requires-clause-waits
unit_ahead-requires-clause-waits t c =
    let m = c.requires.tree in (
      omega (arith, length-take 24 c.args.cells.now, front_there m),
      (waits t (goal.at.unit_ahead-requires-clause-waits t c).In-None m.residue m.stands).waits,
    )

pub returns-in-None : goal.returns-in-None
returns-in-None t c = λ res u.
    let w = waits t (goal.at.returns-in-None t c).In-None res u in
    record { count = w.count; outcome = rw (w.comes c.args.agreement.now) c.unit_ahead.ensures }

-- ---- a join
pub slice_bounds-tree_ahead-count : goal.slice_bounds-tree_ahead-count
slice_bounds-tree_ahead-count t c = front_there c.requires.tree

pub slice_bounds-tree_ahead-start : goal.slice_bounds-tree_ahead-start
slice_bounds-tree_ahead-start t c = omega (arith, front_there c.requires.tree)

pub tree_ahead-left-requires : goal.tree_ahead-left-requires
tree_ahead-left-requires t c =
    let m = c.requires.tree in
    let d = sides t (goal.at.tree_ahead-left-requires t c).In-Some m.residue m.stands in (
      omega (arith, c.decreases, front_there m),
      (c.requires.near, rw (behind 24 c.args.cells.now) (left_units d m.few)),
    )

module _ (t : ℕ) where
  -- what the left side comes to
  left : (c : After-tree_ahead-left t) (res : Residue)
      → UnitsOf (length c.args.agreement.now) res (drop 24 c.args.cells.now)
      → ComesTo c.args.agreement.now res (drop 24 c.args.cells.now) c.tree_ahead-left.result
  left c = rw (behind 24 c.args.cells.now) at c.tree_ahead-left.ensures

  there : (c : After-tree_ahead-left t) → let m = c.requires.tree in
      Joined (length c.args.agreement.now) m.residue c.args.cells.now c.in-Some.kind
      → (1 + c.tree_ahead-left.result.units ≤ 127)
      × (24 * (1 + c.tree_ahead-left.result.units) ≤ length c.args.cells.now)
  there c d = right_there d (left c d.left d.of_left) c.requires.tree.few

  -- what the right side comes to
  right : (c : After-tree_ahead-right t) → let from = 24 * (1 + c.tree_ahead-left.result.units) in
      (res : Residue) → UnitsOf (length c.args.agreement.now) res (drop from c.args.cells.now)
      → ComesTo c.args.agreement.now res (drop from c.args.cells.now) c.tree_ahead-right.result
  right c = rw (behind (24 * (1 + c.tree_ahead-left.result.units)) c.args.cells.now) at c.tree_ahead-right.ensures

pub overflow_add-left : goal.overflow_add-left
overflow_add-left t c =
    let at = goal.at.overflow_add-left t c in
    let m = c.requires.tree in
    let h = there t at.After-tree_ahead-left (sides t at.In-Some m.residue m.stands) in
    record { fits = omega (arith, h) }

pub overflow_mul-left : goal.overflow_mul-left
overflow_mul-left t c =
    let at = goal.at.overflow_mul-left t c in
    let m = c.requires.tree in
    let h = there t at.After-tree_ahead-left (sides t at.In-Some m.residue m.stands) in
    record { fits = omega (arith, h) }

pub offset_bounds-cells-left : goal.offset_bounds-cells-left
offset_bounds-cells-left t c =
    let at = goal.at.offset_bounds-cells-left t c in
    let m = c.requires.tree in
    let h = there t at.After-tree_ahead-left (sides t at.In-Some m.residue m.stands) in
    record { fits = omega (arith, h) }

pub slice_bounds-tree_ahead-count-in-Some : goal.slice_bounds-tree_ahead-count-in-Some
slice_bounds-tree_ahead-count-in-Some t c =
    let at = goal.at.slice_bounds-tree_ahead-count-in-Some t c in
    let m = c.requires.tree in
    omega (arith, there t at.After-tree_ahead-left (sides t at.In-Some m.residue m.stands))

pub slice_bounds-tree_ahead-start-in-Some : goal.slice_bounds-tree_ahead-start-in-Some
slice_bounds-tree_ahead-start-in-Some t c =
    let at = goal.at.slice_bounds-tree_ahead-start-in-Some t c in
    let m = c.requires.tree in
    let h = there t at.After-tree_ahead-left (sides t at.In-Some m.residue m.stands) in
    omega (arith, h)

pub tree_ahead-right-requires : goal.tree_ahead-right-requires
tree_ahead-right-requires t c =
    let at = goal.at.tree_ahead-right-requires t c in
    let m = c.requires.tree in
    let d = sides t at.In-Some m.residue m.stands in
    let l = left t at.After-tree_ahead-left d.left d.of_left in
    let from = 24 * (1 + c.tree_ahead-left.result.units) in (
      omega (arith, c.decreases, right_there d l m.few),
      (c.requires.near, rw (behind from c.args.cells.now) (right_units d l m.few)),
    )

pub overflow_add-result : goal.overflow_add-result
overflow_add-result t c =
    let at = goal.at.overflow_add-result t c in
    let m = c.requires.tree in
    let h = there t at.After-tree_ahead-left (sides t at.In-Some m.residue m.stands) in
    record { fits = omega (arith, h) }

pub overflow_add-result-in-Some : goal.overflow_add-result-in-Some
overflow_add-result-in-Some t c =
    let at = goal.at.overflow_add-result-in-Some t c in
    let m = c.requires.tree in
    let d = sides t at.In-Some m.residue m.stands in
    let l = left t at.After-tree_ahead-left d.left d.of_left in
    record { fits = omega (arith, m.few, sides_count d l (right t at.After-tree_ahead-right)) }

pub returns-in-Some : goal.returns-in-Some
returns-in-Some t c = λ res u.
    let at = goal.at.returns-in-Some t c in
    let d = sides t at.In-Some res u in
    let l = left t at.After-tree_ahead-left d.left d.of_left in
    sides_make d l (right t at.After-tree_ahead-right) c.join.ensures c.join.auto.out
