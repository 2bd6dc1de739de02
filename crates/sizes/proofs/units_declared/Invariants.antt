use Prim.Native.Nat.{◌-◌, ◌≤◌}
use Rattle.sizes.proofs.Filling.{Filled}
use Rattle.sizes.proofs.units_declared.Given as goal

abbrev pub invariant-loop-number : goal.invariant-loop-number
invariant-loop-number l = (l.number ≤ l.number-end) × Filled l.agreement l.number l.units.items

abbrev pub decreases-loop-number : goal.decreases-loop-number
decreases-loop-number l = l.number-end - l.number
