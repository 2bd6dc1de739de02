-- Both operands have the type that the operator wants, or there is no type.
use Rattle.typing.proofs.Exprs.{operation_off, operation_on}
use Rattle.typing.proofs.operators.operation_type.Goals as goal
use Rattle.typing.proofs.operators.operation_type.Goals.{then-eq, else-eq}

pub returns : goal.returns
returns c = elim c.if-eq.branch [
  | then-eq w ↦ operation_on c.args.kind c.args.left c.args.right c.operand_type-wanted.ensures c.result_type.ensures
      c.eq.ensures w.if-eq.true w.eq-then-eq.ensures w.then_some-is c.then_some.ensures
  | else-eq w ↦ operation_off c.args.kind c.args.left c.args.right c.operand_type-wanted.ensures c.result_type.ensures
      c.eq.ensures w.if-eq.false w.then_some-is c.then_some.ensures
]
