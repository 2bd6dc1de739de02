-- One kind, one operator.
use mathlib.Core.Path.{◌∙◌, ap, sym}
use Rattle.records.specs.Kinds.{op_of, arithmetic_of}
use Rattle.cells.specs.Evaluate.{apply_cells, is_true_cell, truth_cell}
use lib.IntN.{pos}
use native.Mathlib.Omega.{arith}
use Rattle.arith.proofs.Conds.{on_told, off_told}
use Rattle.arith.proofs.Ints.{read}
use Rattle.arith.proofs.Numbers.{held_fits}
use Rattle.arith.proofs.Ranges.{equal_is}
use Rattle.evaluation.proofs.Evaluates.{other_op, truth_is}
use Rattle.evaluation.proofs.operate.Goals as goal
use Rattle.evaluation.proofs.operate.Goals.{then-holds, else-holds}

pub returns-in-37 : goal.returns-in-37
unfolding op_of arithmetic_of apply_cells
returns-in-37 c = rw c.in-37.is c.add.ensures

pub returns-in-38 : goal.returns-in-38
unfolding op_of arithmetic_of apply_cells
returns-in-38 c = rw c.in-38.is c.sub.ensures

pub returns-in-39 : goal.returns-in-39
unfolding op_of arithmetic_of apply_cells
returns-in-39 c = rw c.in-39.is c.mul.ensures

pub returns-after-holds : goal.returns-after-holds
unfolding op_of arithmetic_of apply_cells truth_cell
returns-after-holds c = rw c.in-41.is (elim c.if-holds.branch [
  | then-holds w ↦ on_told (is_true_cell c.args.x) (truth_cell (is_true_cell c.args.y)) (pos 0) c.holds.ensures
      w.if-holds.true (c.from.ensures ∙ truth_is _ ∙ ap truth_cell (w.from-is ∙ w.holds-then-holds.ensures))
  | else-holds w ↦ off_told (is_true_cell c.args.x) (truth_cell (is_true_cell c.args.y)) (pos 0) c.holds.ensures
      w.if-holds.false (c.from.ensures ∙ truth_is _ ∙ ap truth_cell (w.from-is ∙ w.if-holds.false))
])

pub returns-in-42 : goal.returns-in-42
unfolding op_of arithmetic_of apply_cells
returns-in-42 c =
    let x = c.get.ensures in let y = c.get-in-42.ensures in
    rw c.in-42.is (rw (read (held_fits x.1), read (held_fits y.1), x.0, y.0) at (c.from-in-42.ensures ∙ truth_is _))

pub returns-in-43 : goal.returns-in-43
unfolding op_of arithmetic_of apply_cells
returns-in-43 c =
    rw c.in-43.is (c.from-in-43.ensures ∙ truth_is _ ∙ ap truth_cell (c.eq.ensures ∙ equal_is c.args.x c.args.y))

pub returns-in_default : goal.returns-in_default
unfolding apply_cells
returns-in_default c =
    let other = other_op c.args.kind (λ e. omega arith) (λ e. omega arith) (λ e. omega arith)
    (λ e. omega arith) (λ e. omega arith) (λ e. omega arith) in
    c.div.ensures ∙ ap (λ o. apply_cells o c.args.x c.args.y) (sym other)
