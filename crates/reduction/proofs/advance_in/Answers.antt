-- What the step comes to is settled, over the table that it was read from, where its units have room, and else nothing
-- is written; what it costs is all that it counted.
use native.Mathlib.Omega.{arith}
use Rattle.reduction.proofs.Advances.{time_cell, units_counted, reduced_few, tried_none, tried_room}
use Rattle.reduction.proofs.advance_in.Goals as goal

pub overflow_mul-units : goal.overflow_mul-units
overflow_mul-units g c =
    let few = units_counted _ _ _ c.reduce-x.ensures.outcome in
    record { fits = omega (arith, few, c.units_of-units.ensures) }

pub returns-then-units : goal.returns-then-units
returns-then-units g c =
    let is = rw c.table_before-before.ensures at c.reduce-x.ensures in
    tried_none c.requires.0 _ _ is.outcome (c.total-cost.ensures _ is.tally) c.units_of-units.ensures c.if-units.true

pub settle-altered-requires : goal.settle-altered-requires
settle-altered-requires g c =
    let due = c.requires.0 in
    let is = rw c.table_before-before.ensures at c.reduce-x.ensures in (
      due.held,
      record {
        few = omega (arith, c.units_of-units.ensures, c.if-units.false, c.requires.1);
        room = omega (arith, c.units_of-units.ensures, c.if-units.false);
      },
      (time_cell due.soon).0,
      reduced_few due _ _ is.outcome,
    )

pub returns : goal.returns
returns g c =
    let is = rw c.table_before-before.ensures at c.reduce-x.ensures in
    tried_room c.requires.0 _ _ is.outcome (c.total-cost.ensures _ is.tally)
    (omega (arith, c.units_of-units.ensures, c.if-units.false, c.requires.1))
    (time_cell c.requires.0.soon).1 (rw c.copy_before.ensures at c.settle-altered.ensures)
