use Rattle.csl.specs.Table.{stand_for}
use Rattle.csl.specs.Parties.{bits_of}
use lib.ListN.{length, take}
use Prim.Native.Nat.{◌≤◌}
use mathlib.Core.Path.{◌≡◌}
use Rattle.units.proofs.blame_bytes.Given as goal

abbrev pub invariant-loop-b : goal.invariant-loop-b
invariant-loop-b l = (l.b-index ≤ length l.s) × (l.found ≡ bits_of (stand_for l.params (take l.b-index l.s)))
