-- A join's outcome is that of its sides joined: the right side begins where the sight says, both sides are trees of
-- fewer units, and the left side's residue is laid below the right's.
use mathlib.Core.Path.{◌≡◌, ap}
use Prim.Native.Nat.{ℕ, ◌+◌, ◌*◌}
use native.Mathlib.Omega.{arith}
use lib.ListN.{length, drop, length-take}
use Rattle.waits.specs.Fates.{mode_at}
use Rattle.residues.specs.Tallies.{Reckons}
use Rattle.walk.specs.Tree.{tree_reckoned}
use Rattle.activation.proofs.Recursion.{reckons_laid}
use Rattle.walk.proofs.Trees.{PartsAt, left_of, right_of, tree_front, tree_parts, tree_waits, tree_unit, cells_of}
use Rattle.walk.proofs.+across.Goals as goal
use Rattle.walk.proofs.+across.Goals.{In-Joins, After-across-r, After-across-l}

module _ (t : ℕ) where
  -- the two sides
  sides : (c : In-Joins t) → let u = c.args.units in
      PartsAt (length c.args.agreement.now) u.sights.now u.cells.now c.in-Joins.kind c.in-Joins.left
  sides c = tree_parts c.requires.tree c.in-Joins.is

  -- what becomes of the right side
  right : (c : After-across-r t) → let u = c.args.units in let r = right_of u.sights.now c.in-Joins.left in
      Reckons (tree_reckoned (mode_at c.args.event) c.args.agreement.now (length r) r
      (drop (24 + 24 * c.in-Joins.left) u.cells.now)) c.across-r.result c.across-r.new.out
  right c = let is = c.part-right.ensures in rw (is.0, is.1, cells_of c.in-Joins.left) at c.across-r.ensures

  -- what becomes of the left side
  left : (c : After-across-l t) → let u = c.args.units in let l = left_of u.sights.now c.in-Joins.left in
      Reckons (tree_reckoned (mode_at c.args.event) c.args.agreement.now (length l) l (drop 24 u.cells.now))
      c.across-l.result c.across-l.new.out
  left c = let is = c.part.ensures in rw (is.0, is.1) at c.across-l.ensures

  -- the left side's cells are the room that the right side leaves
  room : (c : After-across-l t) → length c.across-l.new.out ≡ c.room_left-room.result
  room c =
      let m = c.room_left-room in
      omega (arith, length-take m.result c.across-r.new.out, m.ensures.1, c.across-l.auto.out)

pub bounds-units-0 : goal.bounds-units-0
bounds-units-0 t c = (tree_front c.requires.tree).0

-- ---- a unit that waits
pub slice_bounds-unit-end : goal.slice_bounds-unit-end
slice_bounds-unit-end t c =
    let u = c.args.units in omega (arith, length-take 24 u.cells.now, (tree_front c.requires.tree).1)

pub waiting_unit-requires-clause-waits : goal.waiting_unit-requires-clause-waits
waiting_unit-requires-clause-waits t c =
    let u = c.args.units in (
      omega (arith, length-take 24 u.cells.now, (tree_front c.requires.tree).1),
      tree_waits c.requires.tree c.in-Waits.is,
    )

pub returns-in-Waits : goal.returns-in-Waits
returns-in-Waits t c =
    rw (tree_unit c.requires.tree c.in-Waits.is (mode_at c.args.event) c.args.agreement.now) c.waiting_unit.ensures

-- ---- a join
pub overflow_add-left : goal.overflow_add-left
overflow_add-left t c =
    let d = sides t (goal.at.overflow_add-left t c).In-Joins in record { fits = omega (arith, d.fewer, d.few) }

pub overflow_add-left-in-Joins : goal.overflow_add-left-in-Joins
overflow_add-left-in-Joins t c =
    let d = sides t (goal.at.overflow_add-left-in-Joins t c).In-Joins in
    record { fits = omega (arith, d.fewer, d.few) }

pub part-right-requires : goal.part-right-requires
part-right-requires t c =
    let d = sides t (goal.at.part-right-requires t c).In-Joins in
    (omega (arith, d.fewer), omega arith, omega (arith, d.room), omega (arith, d.fewer, d.few))

pub across-r-requires : goal.across-r-requires
across-r-requires t c =
    let d = sides t (goal.at.across-r-requires t c).In-Joins in
    let is = c.part-right.ensures in (
      omega (arith, c.decreases, d.fewer, d.long_right, ap length is.0),
      (c.requires.near, rw (is.0, is.1, cells_of c.in-Joins.left) d.of_right),
    )

pub part-requires : goal.part-requires
part-requires t c =
    let d = sides t (goal.at.part-requires t c).In-Joins in
    (omega arith, omega (arith, d.fewer), omega (arith, d.room), omega arith)

pub across-l-requires : goal.across-l-requires
across-l-requires t c =
    let d = sides t (goal.at.across-l-requires t c).In-Joins in
    let is = c.part.ensures in (
      omega (arith, c.decreases, d.fewer, d.long_left, ap length is.0),
      (c.requires.near, rw (is.0, is.1) d.of_left),
    )

pub returns-in-Joins : goal.returns-in-Joins
returns-in-Joins t c =
    let at = goal.at.returns-in-Joins t c in
    let m = c.room_left-room in
    rw (← ((sides t at.In-Joins).make (mode_at c.args.event) c.args.agreement.now))
    (reckons_laid c.across-r.new.out c.across-l.new.out m.result m.ensures.0 m.ensures.1 (room t at.After-across-l)
    c.join.ensures c.join_tallies.ensures (left t at.After-across-l) (right t at.After-across-r))
