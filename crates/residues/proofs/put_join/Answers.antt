-- The two residues stand one below the other at the end, so the join's unit below them makes one residue in prefix
-- order; without room, in a table or at the end, only the count is kept.
use native.Mathlib.Omega.{arith}
use Rattle.residues.proofs.Reduces.{join_full, join_put}
use Rattle.residues.proofs.put_join.Goals as goal

pub returns-then-cells-room : goal.returns-then-cells-room
returns-then-cells-room c =
    let sum = c.saturating_add.ensures in
    let units = c.saturating_add-units.ensures in
    let cells = c.saturating_mul-cells.ensures in
    join_full c.args.join c.args.n c.args.m c.args.out.now
    (λ hn hm. (
      λ few. omega (arith, hn, hm, few, sum, units, cells, c.min-room.ensures, c.if-cells-room.true),
      omega (arith, hn, hm, sum, units, c.min.ensures),
    ))

pub returns : goal.returns
returns c =
    let sum = c.saturating_add.ensures in
    let units = c.saturating_add-units.ensures in
    let cells = c.saturating_mul-cells.ensures in
    let least = c.min-room.ensures in
    let room = c.if-cells-room.false in
    join_put c.args.join c.args.n c.args.m c.args.out.now
    (omega (arith, sum, units, cells, least, room)) (omega (arith, cells, least, room))
    (omega (arith, cells, least, room)) (omega (arith, cells, least, room)) (omega arith)
    (rw c.from.ensures at c.fill.ensures)
