-- Integers that are natural numbers, the size of an integer, and the later of two times.
use mathlib.Core.Bool.{Bool, true, false, cond}
use mathlib.Core.Path.{◌≡◌, refl, sym}
use Prim.Native.Nat.{ℕ, zero, suc, ◌-◌, ◌≤◌}
use native.Mathlib.Omega.{arith}
use lib.Dec.{ltb}
use lib.IntN.{ℤ, pos, negsuc, neg_ℤ, nat_abs, sub_ℕ, pos-ne-negsuc}
use Rattle.csl.specs.Numbers.{later_of}

pub pos_inj : {m n : ℕ} → pos m ≡ pos n → m ≡ n
pos_inj e = cc

-- a difference that is a natural number is at most what it is taken from
pub difference_below : (x y m : ℕ) → sub_ℕ x y ≡ pos m → m ≤ x
difference_below x y m e = go (ltb x y) e
  where
    go : (b : Bool) → ◌≡◌ {A = ℤ} (cond b (negsuc (y - suc x)) (pos (x - y))) (pos m) → m ≤ x
    go true p = absurd (pos-ne-negsuc m _ (sym p))
    go false p = let q : x - y ≡ m = cc in omega arith

pub abs_neg : (z : ℤ) → nat_abs (neg_ℤ z) ≡ nat_abs z
abs_neg (pos zero) = refl
abs_neg (pos (suc n)) = refl
abs_neg (negsuc n) = refl

pub later_from_lem : (a : ℕ) (l : ℤ) → a ≤ later_of a l
unfolding later_of
later_from_lem a (pos n) = omega arith
later_from_lem a (negsuc n) = omega arith
