-- After i cells the first i are the source's, and behind them nothing has changed.
use mathlib.Core.Path.{refl, ◌∙◌}
use borrow.Author.Rules.{rules}
use native.Mathlib.Omega.{arith}
use lib.IntN.{pos}
use lib.ListN.{get_or}
use Rattle.arith.proofs.Ints.{read}
use Rattle.residues.proofs.Cells.{copy_more, copied_all}
use Rattle.residues.proofs.copy.Goals as goal

pub loop-i-init : goal.loop-i-init
loop-i-init c = refl

pub loop-i-preserved : goal.loop-i-preserved
loop-i-preserved c =
    let i = c.loop-i.i in
    let src = c.args.src.now in
    rw (read {z = get_or src i (pos 0)} (search rules), c.loop-i.invariant)
    (copy_more (pos 0) src c.args.dst.now i (omega arith) (omega arith))

pub returns : goal.returns
returns c =
    let loop = c.loop-i in
    loop.invariant ∙ copied_all c.args.src.now c.args.dst.now {i = loop.i} (omega arith)
