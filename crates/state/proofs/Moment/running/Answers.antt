-- A running table shows a run exactly where its head tells no breach, the tree at its front is sound and has the units
-- that the head tells, and zeros stand behind it.
use borrow.Author.Rules.{rules}
use borrow.Author.Tests.{tests}
use mathlib.Core.Path.{◌≡◌, sym, ◌∙◌}
use Prim.Native.Nat.{◌≤◌}
use native.Mathlib.Omega.{arith}
use lib.IntN.{pos}
use lib.ListN.{length, get_or, take, drop, length-take, length-drop}
use Rattle.std.proofs.Common.{Some}
use Rattle.units.specs.Cells.{number_below}
use Rattle.units.proofs.Tests.{cell_below}
use Rattle.state.proofs.RunningTables.{running_head, running_many, fewer, running_torn, running_is}
use Rattle.state.proofs.Trees.{more_sights}
use Rattle.state.proofs.Moment.running.Goals as goal
use Rattle.state.proofs.Moment.running.Goals.{In_ok-used}

-- the number of units, as the program reads it, at most 128
count : (c : In_ok-used) → Some c.in_ok-used.used ≡ number_below 129 (get_or c.args.table.now 4 (pos 0))
count c = sym c.in_ok-used.was ∙ cell_below 129 _ (search rules) c.number_below.ensures

few : (c : In_ok-used) → c.in_ok-used.used ≤ 128
few c = fewer c.args.table.now c.told-table c.args.self.now.accepted.now c.requires.head_at (count c)

-- and as many sights
seen : (c : In_ok-used) → length (take c.in_ok-used.used c.args.sights.now) ≡ c.in_ok-used.used
seen c = omega (arith, few c, c.requires.room, length-take c.in_ok-used.used c.args.sights.now)

pub returns-then-not-zeros : goal.returns-then-not-zeros
returns-then-not-zeros c =
    running_head c.args.table.now c.told-table c.args.self.now.accepted.now c.requires.head_at c.args.sights.now
    c.zeros.ensures c.if-not-zeros.true

pub returns-in_err-used : goal.returns-in_err-used
returns-in_err-used c = rw c.from_residual.ensures
    (running_many c.args.table.now c.told-table c.args.self.now.accepted.now c.requires.head_at c.args.sights.now
    (sym c.in_err-used.was ∙ cell_below 129 _ (search rules) c.number_below.ensures))

pub slice_bounds-walk_tree-end-2 : goal.slice_bounds-walk_tree-end-2
slice_bounds-walk_tree-end-2 c =
    omega (arith, few (goal.at.slice_bounds-walk_tree-end-2 c).In_ok-used, c.requires.room)

pub slice_bounds-walk_tree-end-3 : goal.slice_bounds-walk_tree-end-3
slice_bounds-walk_tree-end-3 c = sym (seen (goal.at.slice_bounds-walk_tree-end-3 c).In_ok-used)

pub walk_tree-requires : goal.walk_tree-requires
walk_tree-requires c =
    let u = (goal.at.walk_tree-requires c).In_ok-used in
    let xs = c.args.table.now in
    record {
      few = omega (arith, few u, seen u);
      long = omega (arith, few u, seen u, length-drop 8 xs, length-take 3072 (drop 8 xs), c.told-table);
    }

pub overflow_mul-used : goal.overflow_mul-used
overflow_mul-used c = record { fits = omega (arith, few (goal.at.overflow_mul-used c).In_ok-used) }

pub overflow_add-used : goal.overflow_add-used
overflow_add-used c = record { fits = omega (arith, few (goal.at.overflow_add-used c).In_ok-used) }

pub offset_bounds-table-used : goal.offset_bounds-table-used
offset_bounds-table-used c = record { fits = omega (arith, few (goal.at.offset_bounds-table-used c).In_ok-used) }

pub slice_bounds-zeros-count-then-tree-used : goal.slice_bounds-zeros-count-then-tree-used
slice_bounds-zeros-count-then-tree-used c =
    omega (arith, few (goal.at.slice_bounds-zeros-count-then-tree-used c).In_ok-used)

pub slice_bounds-zeros-start-then-tree-used : goal.slice_bounds-zeros-start-then-tree-used
slice_bounds-zeros-start-then-tree-used c =
    omega (arith, few (goal.at.slice_bounds-zeros-start-then-tree-used c).In_ok-used)

pub returns-in_err-tree : goal.returns-in_err-tree
returns-in_err-tree c =
    let u = (goal.at.returns-in_err-tree c).In_ok-used in
    rw c.from_residual-in_err-tree.ensures
    (running_torn c.args.table.now c.told-table c.args.self.now.accepted.now c.requires.head_at
    (count u) _ (more_sights _ _ _ _ c.walk_tree.new.sights _ _ (omega (arith, seen u, c.walk_tree.auto.sights))
    (rw (seen u) at c.walk_tree.ensures)) c.in_err-tree.was)

pub returns : goal.returns
returns c =
    let u = (goal.at.returns c).In_ok-used in
    running_is c.args.table.now c.told-table c.args.self.now.accepted.now c.requires.head_at
    (count u) _ (more_sights _ _ _ _ c.walk_tree.new.sights _ _ (omega (arith, seen u, c.walk_tree.auto.sights))
    (rw (seen u) at c.walk_tree.ensures)) c.in_ok-tree.was (sym c.zeros.ensures ∙ c.if-not-zeros.false)
    (grind (rules, tests)) c.then_some.ensures
