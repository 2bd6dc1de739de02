-- Laws for numbers as values of their types: which fit, and that the cell of each is the number.
use mathlib.Core.Path.{◌≡◌, refl, sym, ap}
use mathlib.Core.List.{List, [], ◌∷◌}
use mathlib.Core.Option.{some}
use Prim.Native.Nat.{ℕ, zero, suc}
use native.Mathlib.Omega.{arith}
use borrow.Author.Tests.{lt-leb}
use lib.Dec.{ltb}
use lib.IntN.{ℤ, pos, negsuc}
use lib.ListN.{length}
use Rattle.csl.specs.Lists.{◌>>=◌}
use Rattle.csl.specs.Numbers.{in_range}
use Rattle.csl.specs.Syntax.{Ty, number, truth, party}
use Rattle.csl.specs.Values.{Val, num, who, as_nat, as_truth, value_of, values_of}
use Rattle.csl.specs.Table.{cells_of}
use Rattle.records.specs.TypedValues.{value_ok, values_ok}
use Rattle.laws.proofs.Options.{some_inj, none_some, from_bind}
use Rattle.laws.proofs.Cells.{value_is}
use Rattle.readings.specs.Taking.{given}
use Rattle.readings.proofs.Options.{given_need, given_both}

-- ---- the test of a value, and of values, is whether there is one
value_given : (ps : ℕ) (t : Ty) (z : ℤ) → value_ok ps t z ≡ given (value_of ps t z)
unfolding value_ok value_of as_nat as_truth given ◌>>=◌
value_given ps number z = sym (given_need (in_range z) (num z))
value_given ps truth (pos zero) = refl
value_given ps truth (pos (suc zero)) = refl
value_given ps truth (pos (suc (suc n))) = lt-leb (suc (suc n)) 1 (omega arith)
value_given ps truth (negsuc n) = refl
value_given ps party (pos n) = sym (given_need (ltb n ps) (who n))
value_given ps party (negsuc n) = refl

pub all_given : (ps : ℕ) (ts : List Ty) (zs : List ℤ) → values_ok ps ts zs ≡ given (values_of ps ts zs)
unfolding values_ok values_of given
all_given ps [] zs = refl
all_given ps (t ∷ ts) [] = refl
all_given ps (t ∷ ts) (z ∷ zs) = rw (value_given ps t z, all_given ps ts zs)
    (sym (given_both (value_of ps t z) (values_of ps ts zs) (λ v r. (v ∷ r.0, r.1))))

-- the cells of the values are the numbers
pub values_cells : (ps : ℕ) (ts : List Ty) (zs : List ℤ) (r : List Val × List ℤ) → length ts ≡ length zs
    → values_of ps ts zs ≡ some r → (zs ≡ cells_of r.0) × (length zs ≡ length r.0)
unfolding values_of cells_of
values_cells ps [] [] r l e = rw (← some_inj e) (refl, refl)
values_cells ps [] (z ∷ zs) r l e = absurd (omega arith)
values_cells ps (t ∷ ts) [] r l e = none_some e
values_cells ps (t ∷ ts) (z ∷ zs) r l e =
    from_bind (value_of ps t z) _ r e λ v a₁ b₁.
    from_bind (values_of ps ts zs) _ r b₁ λ q a₂ b₂.
    let k = values_cells ps ts zs q (omega arith) a₂ in
    rw (← some_inj b₂) (rw (← value_is ps t z v a₁, ← k.0) refl, ap suc k.1)
