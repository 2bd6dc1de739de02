-- A record, and depth left: what the definition asks.
use borrow.Author.Rules.{rules}
use Rattle.arith.proofs.Conds.{keys}
use Rattle.typing.specs.Types.{record_kind}
use Rattle.typing.proofs.names.record_kind.Goals as goal
use Rattle.typing.proofs.names.record_kind.Goals.{then-depth-gt0, else-depth-gt0}

pub returns : goal.returns
unfolding record_kind
returns c = elim c.if-depth-gt0.branch [
  | then-depth-gt0 w ↦ search (keys, rules)
  | else-depth-gt0 w ↦ search (keys, rules)
]
