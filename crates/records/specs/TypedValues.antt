-- Which numbers are values of a type.
use Rattle.std.specs.Prelude.{Bool, true, false, ◌&&◌, List, [], ◌∷◌, ℕ, leb, ltb, ℤ, pos, negsuc}
use Rattle.csl.specs.Numbers.{in_range}
use Rattle.csl.specs.Syntax.{Ty, number, truth, party}

-- ---- a number that is a value of the type, in its range
unfoldable pub value_ok : ℕ → Ty → ℤ → Bool
value_ok ps number z = in_range z
value_ok ps truth (pos n) = leb n 1
value_ok ps truth (negsuc n) = false
value_ok ps party (pos n) = ltb n ps
value_ok ps party (negsuc n) = false

unfoldable pub values_ok : ℕ → List Ty → List ℤ → Bool
values_ok ps [] zs = true
values_ok ps (t ∷ ts) [] = false
values_ok ps (t ∷ ts) (z ∷ zs) = value_ok ps t z && values_ok ps ts zs
