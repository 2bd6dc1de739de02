-- The kinds are those of csl's units, and a join has nothing but its kind.
use mathlib.Core.Path.{◌≡◌, ap, ◌∙◌}
use borrow.Author.Rules.{rules}
use lib.IntN.{pos}
use lib.ListN.{get_or}
use Rattle.units.proofs.Cells.{not_natural, natural}
use Rattle.state.proofs.Trees.{no_kind, no_cell, no_sort, waits_first, joins_first}
use Rattle.state.proofs.Trees.{wait_named, wait_unnamed, join_named, join_unnamed}
use Rattle.csl.specs.Table.{unit_sort}
use Rattle.state.proofs.first_unit.Goals as goal
use Rattle.state.proofs.first_unit.Goals.{In_ok-kind}

kind_is : (c : In_ok-kind) → get_or c.args.cells.now 0 (pos 0) ≡ pos c.in_ok-kind.kind
kind_is c = natural (get_or c.args.cells.now 0 (pos 0)) (search rules) _ c.ok.ensures.value c.try_from.ensures
    c.in_ok-kind.was

pub returns-in_err-kind : goal.returns-in_err-kind
returns-in_err-kind c = rw c.from_residual.ensures (no_kind c.args.cells.now (no_cell _
    (not_natural (get_or c.args.cells.now 0 (pos 0)) (search rules) _ c.ok.ensures.value c.try_from.ensures
    c.in_err-kind.was)))

pub returns-in-Ok : goal.returns-in-Ok
returns-in-Ok c = waits_first c.args.cells.now c.in-Ok.wait (kind_is (goal.at.returns-in-Ok c).In_ok-kind)
    (wait_named c.in_ok-kind.kind c.try_from-2.result c.try_from-2.ensures c.in-Ok.is)

pub returns-in_err-join : goal.returns-in_err-join
returns-in_err-join c = rw c.from_residual-in_err-join.ensures (no_kind c.args.cells.now
    (ap unit_sort (kind_is (goal.at.returns-in_err-join c).In_ok-kind) ∙ no_sort c.in_ok-kind.kind
    (wait_unnamed c.in_ok-kind.kind c.try_from-2.result c.try_from-2.ensures c.in_default.is)
    (join_unnamed c.in_ok-kind.kind c.try_from-3.result c.ok-2.ensures.value c.try_from-3.ensures c.in_err-join.was)))

pub returns : goal.returns
returns c = joins_first c.args.cells.now (kind_is (goal.at.returns c).In_ok-kind) c.in_ok-join.join
    (join_named c.in_ok-kind.kind c.try_from-3.result c.ok-2.ensures.value c.try_from-3.ensures c.in_ok-join.was)
    c.zeros.ensures c.requires c.then_some.ensures
