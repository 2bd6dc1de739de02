-- The unit takes the last 24 cells; without room only the count is kept.
use Rattle.residues.proofs.Reduces.{put_short, put_long}
use Rattle.residues.proofs.put_unit.Goals as goal
use Rattle.residues.proofs.put_unit.Goals.{then-out-ge-UNIT_CELLS, else-out-ge-UNIT_CELLS}

pub returns : goal.returns
returns c =
    let v = c.args.values in
    let few = c.requires.3 in
    elim c.if-out-ge-UNIT_CELLS.branch [
      | then-out-ge-UNIT_CELLS w ↦ rw w.out-is
          (put_long c.args.sort c.args.place c.args.a c.args.params.now v.cells.now c.args.out.now few v.few
          w.if-out-ge-UNIT_CELLS.true w.write_unit.ensures)
      | else-out-ge-UNIT_CELLS w ↦ rw w.out-is
          (put_short c.args.sort c.args.place c.args.a c.args.params.now v.cells.now c.args.out.now few v.few
          w.if-out-ge-UNIT_CELLS.false)
    ]
