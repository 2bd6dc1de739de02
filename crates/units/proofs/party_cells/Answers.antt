-- At each turn the first cells are parties, and stand in `own`.
use mathlib.Core.Path.{sym, ap, ◌∙◌}
use Rattle.units.proofs.Cells.{reads_first, reads_more, reads_not, reads_last}
use Rattle.units.specs.Cells.{number_below, PartiesRead}
use Rattle.arith.proofs.Ints.{read! }
use borrow.Author.Rules.{rules}
use Rattle.units.proofs.party_cells.Goals as goal

pub loop-z-init : goal.loop-z-init
loop-z-init c = rw c.new-own.ensures (reads_first c.args.cells.now c.args.parties)

pub returns-in_err-number_below : goal.returns-in_err-number_below
unfolding PartiesRead
returns-in_err-number_below c = rw c.from_residual.ensures (reads_not c.args.cells.now c.args.parties
    c.loop-z-test.true c.loop-z.invariant
    (sym c.in_err-number_below.was ∙ c.number_below.ensures ∙ ap (number_below c.args.parties) (read! (search rules))))

pub loop-z-preserved : goal.loop-z-preserved
loop-z-preserved c = rw c.push.ensures.items (reads_more c.args.cells.now c.args.parties
    c.loop-z-test.true c.loop-z.invariant
    (sym c.in_ok-number_below.was ∙ c.number_below.ensures ∙ ap (number_below c.args.parties) (read! (search rules))))

pub returns : goal.returns
unfolding PartiesRead
returns c = reads_last c.args.cells.now c.args.parties c.loop-z-test.false c.loop-z.invariant
