-- A fulfilled table shows a run exactly where all of its other cells are zero.
use borrow.Author.Rules.{rules}
use borrow.Author.Tests.{tests}
use Rattle.state.proofs.FulfilledTables.{fulfilled_is}
use Rattle.state.proofs.fulfilled.Goals as goal

pub returns : goal.returns
returns c =
    λ a time sights h. fulfilled_is c.args.table.now c.told-table a h sights (grind (rules, tests))
    c.then_some.ensures
