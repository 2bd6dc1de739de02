-- The quotient rounds down (paper 02, No. 5): it is the greatest number whose product with the divisor does not pass
-- the dividend.
use mathlib.Core.Path.{◌≡◌, refl, ap}
use Prim.Native.Nat.{ℕ, zero, suc, ◌*◌, ◌/◌, ◌≤◌, ◌<◌}
use native.Mathlib.Nat.{div-le_self, div-lt_iff_lt-mul, div-mul-le_self, lt-suc_self, zero-lt-suc, zero-mul}
use native.Mathlib.Omega.{arith}
use lib.Dec.{T, le→leb, lt→ltb}
use lib.IntN.{ℤ, pos, negsuc, neg_ℤ, nat_abs, suc_ℤ, ◌*ℤ◌, neg_ℤ-neg_ℤ}
use lib.Signed.{le_z, lt_z}
use Rattle.csl.specs.Numbers.{quotient, rounded_down}
use Rattle.laws.proofs.Integers.{abs_neg}

down_size : (x : ℤ) (d : ℕ) → nat_abs (rounded_down x d) ≤ nat_abs x
down_size (pos n) d = div-le_self n d
down_size (negsuc n) d = omega (arith, div-le_self n d)

-- no quotient is larger than its dividend
pub quotient_size : (x y : ℤ) → nat_abs (quotient x y) ≤ nat_abs x
unfolding quotient
quotient_size x (pos zero) = omega arith
quotient_size x (pos (suc n)) = down_size x (suc n)
quotient_size x (negsuc n) = omega (arith, down_size (neg_ℤ x) (suc n), abs_neg x)

-- with both signs turned it is the same
pub quotient_turned : (x y : ℤ) → quotient (neg_ℤ x) (neg_ℤ y) ≡ quotient x y
unfolding quotient
quotient_turned x (pos zero) = refl
quotient_turned x (pos (suc n)) = ap (λ z. rounded_down z (suc n)) (neg_ℤ-neg_ℤ x)
quotient_turned x (negsuc n) = refl

-- q is x ÷ y, y above 0, rounded down
pub record RoundsDown (x y q : ℤ) : Type 0 where
  pub reached : T (le_z (q *ℤ y) x)
  pub passed : T (lt_z x (suc_ℤ q *ℤ y))

below_reached : (k n : ℕ) → n < k → T (le_z (neg_ℤ (pos k)) (negsuc n))
below_reached zero n h = absurd (omega arith)
below_reached (suc k) n h = le→leb n k (omega arith)

below_passed : (k n : ℕ) → k ≤ n → T (lt_z (negsuc n) (neg_ℤ (pos k)))
below_passed zero n h = tt
below_passed (suc k) n h = lt→ltb k n (omega arith)

next_of : (m d : ℕ) → suc_ℤ (negsuc m) *ℤ pos d ≡ neg_ℤ (pos (m * d))
next_of zero d = rw zero-mul refl
next_of (suc m) d = refl

pub rounds_down : (x : ℤ) (n : ℕ) → RoundsDown x (pos (suc n)) (quotient x (pos (suc n)))
unfolding quotient
rounds_down (pos x) n = let d : ℕ = suc n in record {
  reached = le→leb (x / d * d) x (div-mul-le_self x d);
  passed = lt→ltb x (suc (x / d) * d) ((div-lt_iff_lt-mul (zero-lt-suc n)).0 (lt-suc_self (x / d)));
}
rounds_down (negsuc x) n = let d : ℕ = suc n in record {
  reached = below_reached (suc (x / d) * d) x ((div-lt_iff_lt-mul (zero-lt-suc n)).0 (lt-suc_self (x / d)));
  passed = rw next_of (below_passed (x / d * d) x (div-mul-le_self x d));
}
