-- The range of the language's numbers, as the machine tests it.
use mathlib.Core.Path.{◌≡◌, refl}
use mathlib.Core.Bool.{Bool, ◌&&◌}
use native.Mathlib.Omega.{arith}
use lib.IntN.{ℤ, pos, negsuc}
use Rattle.std.proofs.lemmas.Bool.Decides.{nat_tests}
use Rattle.std.specs.Ordering.{partial_le, int_cmp, int_eq, as_partial_cmp}
use Rattle.csl.specs.Numbers.{in_range, eq_z}

abbrev at_most : ℤ → ℤ → Bool
at_most a b = partial_le (as_partial_cmp int_cmp) a b

pub range_is : (z : ℤ) → (at_most (negsuc 999_999_999) z && at_most z (pos 1_000_000_000)) ≡ in_range z
unfolding in_range
range_is (pos n) = grind (arith, nat_tests)
range_is (negsuc n) = grind (arith, nat_tests)

-- std's test for equal numbers
pub equal_is : (a b : ℤ) → int_eq a b ≡ eq_z a b
unfolding eq_z
equal_is (pos a) (pos b) = grind (arith, nat_tests)
equal_is (pos a) (negsuc b) = refl
equal_is (negsuc a) (pos b) = refl
equal_is (negsuc a) (negsuc b) = grind (arith, nat_tests)
