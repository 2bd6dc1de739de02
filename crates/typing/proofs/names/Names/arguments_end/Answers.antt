-- The first arguments have the types that their bytes say, so those behind them decide.
use Rattle.csl.specs.Bytes.{byte}
use mathlib.Core.Path.{sym, ◌∙◌}
use Rattle.csl.specs.Decode.{expr, tys_of}
use Rattle.typing.proofs.Instances.{ends_off, ends_on, ends_last}
use native.Mathlib.Omega.{arith}
use Rattle.typing.proofs.names.Names.arguments_end.Goals as goal

pub returns-then-not-part_typed-clause-ends : goal.returns-then-not-part_typed-clause-ends
returns-then-not-part_typed-clause-ends c =
    ends_off (byte c.args.self.now.agreement.now 8) (tys_of c.args.types.now) (expr c.args.depth) c.args.s.now
    c.args.values.now
    c.loop-value.value-index c.loop-value.end c.loop-value-test.true c.type_of.result c.record_end-e.ensures.0
    c.type_of.ensures c.part_typed.ensures c.if-not-part_typed.true ∙ sym c.loop-value.invariant.0

pub loop-value-preserved : goal.loop-value-preserved
loop-value-preserved c = (
  c.loop-value.invariant.0 ∙ ends_on (byte c.args.self.now.agreement.now 8) (tys_of c.args.types.now) (expr
      c.args.depth) c.args.s.now
      c.args.values.now c.loop-value.value-index c.loop-value.end c.loop-value-test.true c.type_of.result
      c.record_end-e.ensures.0 c.type_of.ensures c.part_typed.ensures c.if-not-part_typed.false,
  c.record_end-e.ensures.1,
)

pub returns-clause-ends : goal.returns-clause-ends
returns-clause-ends c =
    ends_last (byte c.args.self.now.agreement.now 8) (tys_of c.args.types.now) (expr c.args.depth) c.args.s.now
    c.args.values.now
    c.loop-value.value-index c.loop-value.end (omega arith) ∙ sym c.loop-value.invariant.0
