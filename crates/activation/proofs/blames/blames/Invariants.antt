use mathlib.Core.Path.{◌≡◌}
use lib.ListN.{take}
use Rattle.cells.specs.Reduce.{blamed_cells}
use Rattle.activation.proofs.blames.blames.Given as goal

abbrev pub invariant-loop-i : goal.invariant-loop-i
invariant-loop-i l = take l.i l.cells ≡ blamed_cells l.params (take l.i l.bytes)
