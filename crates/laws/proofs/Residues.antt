-- Residues: each has a unit, and a list that is read as one of them has that one alone.
use mathlib.Core.List.{List, [], ◌∷◌}
use mathlib.Core.Option.{some}
use mathlib.Core.Path.{◌≡◌, ap}
use Prim.Native.Nat.{◌≤◌}
use native.Mathlib.Omega.{arith}
use Rattle.csl.specs.Outcomes.{Residue, both, unit, units}
use Rattle.csl.specs.Table.{single}
use Rattle.laws.proofs.Options.{none_some, some_inj}

pub some_units : (r : Residue) → 1 ≤ units r
unfolding units
some_units (unit s p a e) = omega arith
some_units (both j l r) = omega arith

pub single_is : (rs : List Residue) (r : Residue) → single rs ≡ some r → rs ≡ r ∷ []
unfolding single
single_is [] r e = none_some e
single_is (x ∷ []) r e = ap (λ (y : Residue). y ∷ []) (some_inj e)
single_is (x ∷ y ∷ rs) r e = none_some e
