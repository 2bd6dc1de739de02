-- After i bytes the first i cells are the parties that they stand for.
use Rattle.activation.proofs.Arguments.{blames_set, blames_all}
use native.Mathlib.Omega.{arith}
use mathlib.Core.Path.{◌≡◌, ◌∙◌, refl, ap}
use lib.ListN.{length, take}
use Rattle.arith.proofs.Ints.{read! }
use Rattle.cells.specs.Reduce.{blamed_cell, blamed_cells}
use Rattle.activation.proofs.blames.blames.Goals as goal

pub loop-i-init : goal.loop-i-init
unfolding blamed_cells
loop-i-init c = refl

pub loop-i-preserved : goal.loop-i-preserved
loop-i-preserved c =
    let loop = c.loop-i in
    rw (read! c.blamed.type_inv)
    (blames_set c.args.params.now c.args.bytes.now loop.cells loop.i c.loop-i-test.true
    (omega (arith, loop.auto.cells, c.requires, c.loop-i-test.true)) loop.invariant
    (c.blamed.ensures ∙ ap (blamed_cell c.args.params.now) c.from.ensures))

pub returns : goal.returns
returns c =
    let loop = c.loop-i in
    let e : length c.args.bytes.now ≡ loop.i = omega arith in
    ap (λ k. take k loop.cells) e ∙ loop.invariant ∙ blames_all c.args.params.now c.args.bytes.now loop.i (omega arith)
