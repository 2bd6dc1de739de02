-- A truth is any cell but 0.
use lib.IntN.{pos}
use Rattle.arith.proofs.Ints.{eqb_bits}
use Rattle.cells.specs.Evaluate.{is_true_cell}
use Rattle.evaluation.proofs.Evaluates.{true_is, nought_held}
use Rattle.arith.proofs.Numbers.{held_fits}
use Rattle.evaluation.proofs.is_true.Goals as goal

pub returns : goal.returns
unfolding is_true_cell
returns c = true_is (eqb_bits c.args.x (pos 0) c.ranges.x (held_fits nought_held))
