-- The unit's clause stands at its place and its cells hold what is in sight there, so activating it at the unit's own
-- time is the rule at that unit.
use Rattle.activation.proofs.Recursion.{stood}
use Rattle.walk.proofs.WaitingUnits.{unit_at_lem, cells_in_sight}
use Rattle.walk.proofs.waiting_unit.Goals as goal

pub returns : goal.returns
returns c =
    let w = c.requires.waits.1 in
    rw (unit_at_lem _ c.args.agreement.now _ _ _)
    (rw (
      stood c.args.event c.new-placed.ensures,
      (rw c.bytes.ensures.0 at c.clause_at-bytes.ensures).0,
      c.natural-place.ensures,
      c.natural.ensures,
      (cells_in_sight c.args.unit.now 3 c.args.params w.few_params).0,
      (cells_in_sight c.args.unit.now 8 c.args.values w.few_values).0,
    ) at c.activate.ensures)
