-- The unit's clause stands at its place, and its cells hold the values in sight there and since when it waits.
use Rattle.csl.specs.Decode.{heads_of}
use lib.IntN.{pos}
use lib.ListN.{length, get_or}
use Rattle.cells.specs.Across.{nat_of, unit_opens_later}
use Rattle.walk.specs.Tree.{Waiting}
use Rattle.walk.proofs.WaitingUnits.{cells_in_sight}
use Rattle.walk.proofs.later.unit_opens_later.Goals as goal

pub returns-in-Waits : goal.returns-in-Waits
unfolding unit_opens_later
returns-in-Waits c =
    let u = c.args.unit.now in
    let w : Waiting (length c.args.agreement.now) c.in-Waits.params c.in-Waits.values u =
    rw c.in-Waits.is at c.requires.1 in
    rw c.in-Waits.is
    (rw (
      c.clause_at-s.ensures.0,
      c.natural.ensures,
      (cells_in_sight u 8 c.in-Waits.values w.few_values).0,
      c.natural-in-Waits.ensures,
    ) at (c.clause_opens_later.ensures (heads_of c.args.agreement.now) (nat_of (get_or u 1 (pos 0)))))
