-- The parts of an evaluation, as the functions say them that each do one part.
use Rattle.std.specs.Prelude.{List, ℕ}
use Rattle.csl.specs.Syntax.{Expr, bad_expr}
use Rattle.csl.specs.Decode.{expr_body}
use Rattle.records.specs.Kinds.{leaf_kind}

-- an expression of kind 32 to 35: it has no expression within
unfoldable pub leaf_of : List ℕ → ℕ → Expr
leaf_of s k = expr_body (λ t. bad_expr) s (leaf_kind k)
