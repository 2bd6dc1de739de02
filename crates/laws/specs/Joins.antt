-- The join that kind 20 or 21 says, of a clause or of a unit, as the code takes it.
-- records/proofs/Trees ties it to csl's kinds (`kind_join`), state/proofs/Trees to a table's numbers
-- (`join_number_lem`).
use Rattle.std.specs.Prelude.{cond, ℕ, eqb}
use Rattle.csl.specs.Syntax.{Join, and, or}

unfoldable pub join_of : ℕ → Join
join_of k = cond (eqb k 20) and or
