-- After i expressions their values are given, and the next one begins where the last ended.
use Rattle.activation.proofs.Arguments.{argued_none, argued_more, argued_all}
use native.Mathlib.Omega.{arith}
use Rattle.waits.proofs.Waits.{clamped}
use mathlib.Core.Path.{◌∙◌, ap}
use Prim.Native.Nat.{◌+◌}
use lib.ListN.{length}
use Rattle.arith.proofs.Ints.{read! }
use Rattle.csl.specs.Decode.{expr}
use Rattle.cells.specs.Evaluate.{eval_cells}
use Rattle.activation.proofs.instances.arguments.Goals as goal

pub loop-init : goal.loop-init
loop-init c = (
  ap length c.new-given.ensures,
  argued_none c.args.values.now c.args.depth c.args.s.now c.value_count-end.result c.new-given.ensures,
)

pub push-requires : goal.push-requires
push-requires c = (omega arith, omega (arith, c.value_count-end.ensures.few.0))

pub loop-preserved : goal.loop-preserved
loop-preserved c =
    let loop = c.loop in
    let inv = loop.invariant in
    let v = c.args.values.now in
    let d = c.args.depth in
    let bs = c.args.s.now in (
      c.push.ensures.len ∙ ap (λ k. k + 1) inv.0,
      rw (c.push.ensures.items, read! c.eval.type_inv)
          (argued_more v d bs c.value_count-end.result loop.given.items loop.counter loop.at inv.1 (omega arith)
          c.record_end-e.ensures.0 (c.eval.ensures.0 ∙ ap (λ k. eval_cells v (expr d k))
          (clamped bs loop.at c.min.ensures c.record_end-e.ensures.0))),
    )

pub returns : goal.returns
returns c =
    let loop = c.loop in
    rw (← c.value_count-end.ensures.many) (argued_all c.args.values.now c.args.depth c.args.s.now
    c.value_count-end.result loop.given.items {i = loop.counter} (omega arith) loop.invariant.1)
