-- What is in sight at each unit of a table: of a residue, and as two numbers, as `across` takes it.
use Rattle.std.specs.Prelude.{List, [], ◌∷◌, ◌++◌, ℕ, length}
use Rattle.csl.specs.Syntax as csl
use Rattle.csl.specs.Syntax.{and, or}
use Rattle.csl.specs.Outcomes.{Residue, unit, both, units}
use Rattle.kinds.specs.declared.Join.{Join}
use Rattle.kinds.specs.declared.Join.TheVariants.{And, Or}
use Rattle.cells.specs.declared.Sight.{Sight}
use Rattle.cells.specs.declared.Sight.TheVariants.{Waits, Joins}

-- two numbers for each: party parameters and values, or the units of a join's left side and 0
unfoldable pub flat : List Sight → List ℕ
flat [] = []
flat (Waits params values ∷ sights) = params ∷ values ∷ flat sights
flat (Joins join left ∷ sights) = left ∷ 0 ∷ flat sights

unfoldable pub join_as : csl.Join → Join
join_as and = And
join_as or = Or

-- of a residue's units, in the order of the cells
unfoldable pub sights_in : Residue → List Sight
sights_in (unit s p a e) = Waits (length e.params) (length e.values) ∷ []
sights_in (both j l r) = Joins (join_as j) (units l) ∷ (sights_in l ++ sights_in r)
