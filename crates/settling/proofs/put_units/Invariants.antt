use mathlib.Core.Path.{◌≡◌}
use mathlib.Core.List.{◌++◌}
use Prim.Native.Nat.{◌*◌}
use lib.ListN.{length, take, drop}
use Rattle.settling.proofs.Units.{altered_in}
use Rattle.settling.proofs.put_units.Given as goal

abbrev pub invariant-loop-k : goal.invariant-loop-k
invariant-loop-k l = (length l.units ≡ length l.initial.units)
    × (l.units ≡ take (24 * l.k) l.residue ++ drop (24 * l.k) l.initial.units)
    × (l.altered ≡ altered_in l.known (take (24 * l.k) l.residue) (take (24 * l.k) l.initial.units))
