use mathlib.Core.Path.{◌≡◌}
use lib.ListN.{length, take}
use Rattle.csl.specs.Run.{numbers_from}
use Rattle.readings.proofs.read_numbers.Given as goal

abbrev pub invariant-loop-i : goal.invariant-loop-i
invariant-loop-i l = (take l.i l.cells ≡ numbers_from l.i l.bytes 9) × (length l.cells ≡ 4)
