-- A law of what is in sight, as two numbers for each unit.
use mathlib.Core.Path.{◌≡◌, refl, ap}
use mathlib.Core.List.{List, [], ◌∷◌, ◌++◌}
use Rattle.cells.specs.declared.Sight.{Sight}
use Rattle.cells.specs.declared.Sight.TheVariants.{Waits, Joins}
use Rattle.cells.specs.Sights.{flat}

pub flat-append : (xs ys : List Sight) → flat (xs ++ ys) ≡ flat xs ++ flat ys
unfolding flat
flat-append [] ys = refl
flat-append (Waits params values ∷ xs) ys = ap (λ zs. params ∷ values ∷ zs) (flat-append xs ys)
flat-append (Joins join left ∷ xs) ys = ap (λ zs. left ∷ 0 ∷ zs) (flat-append xs ys)
