-- What is below 0 is no natural number, and 0 in its place.
use borrow.Author.Rules.{rules}
use mathlib.Core.Path.{◌∙◌, ap}
use lib.IntN.{pos, nat_abs}
use lib.ListN.{get_or}
use Rattle.arith.proofs.Ints.{read! }
use Rattle.walk.proofs.Cells.{natural_is}
use Rattle.walk.proofs.tree.natural.Goals as goal

pub returns : goal.returns
returns c =
    let z = get_or c.args.unit.now c.args.i (pos 0) in
    ap nat_abs (read! {z = c.max.result} c.max.type_inv ∙ (rw (read! {z = z} (search rules)) at c.max.ensures.value))
    ∙ natural_is z
