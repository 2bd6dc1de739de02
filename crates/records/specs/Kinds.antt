-- Kinds by groups, as the code's `match` takes them: leaves 32 to 35, operators 37 to 43.
-- proofs/Trees ties each to csl's table of kinds (`kind_leaf`, `kind_binary`).
use Rattle.std.specs.Prelude.{cond, ℕ, eqb}
use Rattle.csl.specs.Numbers.{Arithmetic, plus, minus, times, quot}
use Rattle.csl.specs.Syntax.{Op, arithmetic, conj, less, equal}
use Rattle.csl.specs.Decode.{ExprKind, number_kind, truth_kind, party_kind, variable_kind}

unfoldable pub leaf_kind : ℕ → ExprKind
leaf_kind k = cond (eqb k 32) number_kind (cond (eqb k 33) truth_kind (cond (eqb k 34) party_kind variable_kind))

unfoldable pub arithmetic_of : ℕ → Arithmetic
arithmetic_of k = cond (eqb k 37) plus (cond (eqb k 38) minus (cond (eqb k 39) times quot))

unfoldable pub op_of : ℕ → Op
op_of k = cond (eqb k 41) conj (cond (eqb k 42) less (cond (eqb k 43) equal (arithmetic (arithmetic_of k))))
