use mathlib.Core.Path.{◌≡◌}
use mathlib.Core.Bool.{◌&&◌}
use Prim.Native.Nat.{◌≤◌}
use lib.ListN.{length, drop}
use Rattle.csl.specs.Lists.{all}
use Rattle.csl.specs.Table.{is_zero}
use Rattle.units.proofs.zeros.Given as goal

abbrev pub invariant-loop-x : goal.invariant-loop-x
invariant-loop-x l = (l.x-index ≤ length l.cells)
    × (all is_zero l.cells ≡ (is_zero l.ones && all is_zero (drop l.x-index l.cells)))
