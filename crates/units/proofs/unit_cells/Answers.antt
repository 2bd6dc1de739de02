-- After the parties are read, three tests ask what the layout of a waiting unit asks of the other cells.
use borrow.Author.Rules.{rules}
use borrow.Author.Tests.{tests}
use Rattle.units.proofs.Units.{no_parties, cells_are, own_none, own_some}
use Rattle.units.proofs.unit_cells.Goals as goal

pub returns-in_err-own : goal.returns-in_err-own
returns-in_err-own c = rw c.from_residual.ensures (no_parties _ _ c.args.types.now c.args.cells.now
    (own_none _ c.party_cells.ensures c.in_err-own.was))

pub returns : goal.returns
returns c = cells_are _ _ c.args.types.now c.args.cells.now (own_some _ c.party_cells.ensures c.in_ok-own.was)
    (grind (rules, tests)) c.then_some.ensures
