-- It is the last minute of its window.
use borrow.Author.Rules.{rules}
use Rattle.arith.proofs.Ints.{read! }
use Rattle.waits.proofs.wait.Wait.last.Goals as goal

pub returns-clause-near : goal.returns-clause-near
returns-clause-near c = rw (read! {z = c.window.result.last} (search rules)) ((c.window.ensures 0).near)
