-- A cell's natural number, as the code finds it.
use mathlib.Core.Path.{◌≡◌, refl}
use mathlib.Core.Bool.{cond}
use native.Mathlib.Omega.{arith}
use borrow.Author.Tests.{ltb-false}
use lib.Dec.{ltb}
use lib.IntN.{ℤ, pos, negsuc, nat_abs}
use Rattle.std.specs.Int.{int_max}
use Rattle.laws.proofs.Bools.{by}
use Rattle.cells.specs.Across.{nat_of}

pub natural_is : (z : ℤ) → nat_abs (int_max z (pos 0)) ≡ nat_of z
unfolding nat_of
natural_is (pos n) = by (λ t. nat_abs (cond t (pos n) (pos 0)) ≡ n) (ltb 0 n) (λ e. refl)
    (λ e. omega (arith, ltb-false 0 n e))
natural_is (negsuc n) = refl
