-- Lists of numbers that are judged the same are equal, and the other way round.
use mathlib.Core.Bool.{◌&&◌, Bool, false, true}
use mathlib.Core.List.{◌++◌, List, [], ◌∷◌}
use mathlib.Core.Path.{◌≡◌, ap, ap₂, refl}
use native.Mathlib.Omega.{arith}
use lib.Dec.{T, eqb→eq, eqb_refl}
use lib.IntN.{negsuc, pos, ℤ}
use lib.ListN.{length}
use Rattle.csl.specs.Numbers.{eq_z}
use Rattle.csl.specs.Run.{same_numbers}
use Rattle.laws.proofs.Bools.{T-both, T-left, T-right, T→true, not_T→false, true→T}

number_is : (x y : ℤ) → T (eq_z x y) → x ≡ y
unfolding eq_z
number_is (pos m) (pos n) t = ap pos (eqb→eq m n t)
number_is (pos m) (negsuc n) t = absurd t
number_is (negsuc m) (pos n) t = absurd t
number_is (negsuc m) (negsuc n) t = ap negsuc (eqb→eq m n t)

number_self : (x : ℤ) → T (eq_z x x)
unfolding eq_z
number_self (pos n) = eqb_refl n
number_self (negsuc n) = eqb_refl n

numbers_are : (xs ys : List ℤ) → T (same_numbers xs ys) → xs ≡ ys
unfolding same_numbers
numbers_are [] [] t = refl
numbers_are [] (y ∷ ys) t = absurd t
numbers_are (x ∷ xs) [] t = absurd t
numbers_are (x ∷ xs) (y ∷ ys) t = ap₂ (λ z zs. z ∷ zs) (number_is x y (T-left (eq_z x y) _ t))
    (numbers_are xs ys (T-right (eq_z x y) _ t))

numbers_self : (xs : List ℤ) → T (same_numbers xs xs)
unfolding same_numbers
numbers_self [] = tt
numbers_self (x ∷ xs) = T-both (eq_z x x) _ (number_self x) (numbers_self xs)

pub same_are : (xs ys : List ℤ) → same_numbers xs ys ≡ true → xs ≡ ys
same_are xs ys e = numbers_are xs ys (true→T e)

pub same_self : (xs : List ℤ) → same_numbers xs xs ≡ true
same_self xs = T→true (same_numbers xs xs) (numbers_self xs)

pub same_not : (xs ys : List ℤ) → (xs ≡ ys → ⊥) → same_numbers xs ys ≡ false
same_not xs ys f = not_T→false (same_numbers xs ys) (λ t. f (numbers_are xs ys t))

-- front and rest are judged apart
pub same_append : (us vs xs ys : List ℤ) → length us ≡ length vs
    → same_numbers (us ++ xs) (vs ++ ys) ≡ (same_numbers us vs && same_numbers xs ys)
unfolding same_numbers
same_append [] [] xs ys e = refl
same_append [] (v ∷ vs) xs ys e = absurd (omega arith)
same_append (u ∷ us) [] xs ys e = absurd (omega arith)
same_append (u ∷ us) (v ∷ vs) xs ys e = by (eq_z u v) (same_append us vs xs ys (omega arith))
  where
    by : (t : Bool) → same_numbers (us ++ xs) (vs ++ ys) ≡ (same_numbers us vs && same_numbers xs ys)
        → (t && same_numbers (us ++ xs) (vs ++ ys)) ≡ ((t && same_numbers us vs) && same_numbers xs ys)
    by true ih = ih
    by false ih = refl
