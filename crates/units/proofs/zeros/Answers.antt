-- All cells before the one at hand are zero exactly where the ones seen so far are none.
use borrow.Author.Rules.{rules}
use mathlib.Core.Path.{refl}
use native.Mathlib.Omega.{arith}
use Rattle.csl.specs.Table.{is_zero}
use Rattle.units.proofs.Cells.{zeros_more, zeros_last}
use Rattle.units.proofs.zeros.Goals as goal

pub loop-x-init : goal.loop-x-init
unfolding is_zero
loop-x-init c = (omega arith, refl)

pub loop-x-preserved : goal.loop-x-preserved
loop-x-preserved c =
    let loop = c.loop-x in
    zeros_more c.args.cells.now loop.ones-bits c.loop-x-test.true (search rules) loop.invariant

pub returns : goal.returns
returns c =
    let loop = c.loop-x in
    zeros_last c.args.cells.now loop.ones-bits c.loop-x-test.false loop.invariant
