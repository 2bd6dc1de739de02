-- At the start the main clause is activated, else the table's units go through the rules.
use native.Mathlib.Omega.{arith}
use mathlib.Core.Path.{sym}
use Rattle.reduction.proofs.Advances.{long, units_due, reckoned_main, reckoned_units}
use Rattle.reduction.proofs.reduce.Goals as goal

pub returns-in-Activate : goal.returns-in-Activate
returns-in-Activate c = reckoned_main c.requires.1 _ _ c.in-Activate.is c.activate_main.ensures

pub slice_bounds-units-end : goal.slice_bounds-units-end
slice_bounds-units-end c = sym (long c.requires.1 c.in_default.not-Activate)

pub across-requires : goal.across-requires
across-requires c = record {
  near = omega (arith, c.requires.1.short);
  tree = units_due c.requires.1 c.told-table c.in_default.not-Activate;
}

pub returns : goal.returns
returns c = reckoned_units c.requires.1 _ _ c.told-table c.in_default.not-Activate c.across.ensures
