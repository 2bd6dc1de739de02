-- Evaluation on cells: truths are 0 and 1, parties their numbers. Total, so that code needs no promise of types.
-- On typed expressions it is csl's evaluation: `bridge` proves it (proofs/Evaluate).
use Rattle.std.specs.Prelude.{Bool, true, false, cond, List, [], ◌∷◌, ℤ, pos, get_or}
use Rattle.std.specs.Int.Signed.{lt_z}
use Rattle.csl.specs.Numbers.{held, calculate, eq_z}
use Rattle.csl.specs.Syntax.{Op, arithmetic, conj, less, equal, Expr, number_lit, truth_lit, party_lit, variable}
use Rattle.csl.specs.Syntax.{negation, binary, bad_expr}

unfoldable pub truth_cell : Bool → ℤ
truth_cell true = pos 1
truth_cell false = pos 0

unfoldable pub is_true_cell : ℤ → Bool
is_true_cell z = cond (eq_z z (pos 0)) false true

unfoldable pub apply_cells : Op → ℤ → ℤ → ℤ
apply_cells (arithmetic o) x y = calculate o x y
apply_cells conj x y = cond (is_true_cell x) (truth_cell (is_true_cell y)) (pos 0)
apply_cells less x y = truth_cell (lt_z x y)
apply_cells equal x y = truth_cell (eq_z x y)

unfoldable pub eval_cells : List ℤ → Expr → ℤ
eval_cells vs (number_lit z) = held z
eval_cells vs (truth_lit n) = pos n
eval_cells vs (party_lit p) = pos p
eval_cells vs (variable i) = held (get_or vs i (pos 0))
eval_cells vs (negation e) = cond (is_true_cell (eval_cells vs e)) (pos 0) (pos 1)
eval_cells vs (binary o a b) = apply_cells o (eval_cells vs a) (eval_cells vs b)
eval_cells vs bad_expr = pos 0

unfoldable pub evals_cells : List ℤ → List Expr → List ℤ
evals_cells vs [] = []
evals_cells vs (e ∷ es) = eval_cells vs e ∷ evals_cells vs es
