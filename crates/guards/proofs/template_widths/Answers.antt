-- At each turn the widths below k are known, and no body needs another.
use mathlib.Core.Path.{ap, ◌∙◌}
use Prim.Native.Nat.{◌<◌}
use native.Mathlib.Omega.{arith}
use Rattle.csl.specs.Bytes.{byte}
use Rattle.guards.specs.Walk.{counted, body_at}
use Rattle.guards.proofs.Bodies.{body_formed, body_answers}
use Rattle.guards.proofs.Filling.{none_filled, more_filled, all_filled}
use Rattle.guards.proofs.template_widths.Goals as goal

pub loop-number-init : goal.loop-number-init
loop-number-init c = (omega arith, none_filled c.args.agreement.now _ c.new-widths.ensures)

pub width-w-requires : goal.width-w-requires
width-w-requires c = body_formed c.args.agreement.now c.requires (omega arith) c.body.ensures

pub loop-number-preserved : goal.loop-number-preserved
loop-number-preserved c =
    let s = c.args.agreement.now in
    let k = c.loop-number.number in
    let l : k < byte s 10 = omega arith in
    let r = body_answers s c.requires l c.body.ensures (counted c.deref.result.now) c.width-w.ensures.0
    ∙ ap (λ ys. counted ys (body_at s k)) c.deref.ensures.0 in
    (omega arith, rw c.push.ensures.items (more_filled s _ l c.loop-number.invariant.1 r))

pub push-requires : goal.push-requires
push-requires c = omega (arith, c.body.ensures.1.few_templates, c.loop-number.invariant.1.room)

pub returns : goal.returns
returns c = all_filled c.args.agreement.now _ (omega arith) c.loop-number.invariant.1
