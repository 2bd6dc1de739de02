-- Three cells, five for the parameters and sixteen for the values are the unit's 24, in this order.
use Rattle.residues.proofs.Cells.{unit_written}
use Rattle.residues.proofs.write_unit.Goals as goal

pub returns : goal.returns
returns c =
    let r = c.requires in
    unit_written c.args.unit.now r.0 r.1 r.2 r.3 c.args.params.now c.args.values.cells.now r.4 c.args.values.few
    c.fill.ensures c.fill-2.ensures
