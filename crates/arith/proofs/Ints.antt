-- Sizes of integers, in ℕ, where omega reads them; and what the machine reads back from an integer's bits.
use mathlib.Core.Path.{◌≡◌, refl, sym, ap}
use mathlib.Core.Bool.{cond}
use Prim.Native.Nat.{ℕ, zero, suc, ◌+◌, ◌-◌, ◌*◌, ◌^◌, ◌≤◌, ◌<◌}
use native.Mathlib.Nat.{le_refl}
use native.Mathlib.Omega.{arith}
use lib.IntN.{ℤ, pos, negsuc, neg_ℤ, nat_abs, sub_ℕ, ◌+ℤ◌, ◌-ℤ◌, ◌*ℤ◌}
use lib.Dec.{ltb, eqb}
use lib.Signed.{mag}
use borrow.Author.Tests.{ltb-true, ltb-false, eqb-true, eqb-false, eq-eqb, ne_eqb}
use mir.Syntax.{w64}
use mir.Val.{SFits, sel, to_z, of_z}
use mir.ValLaws.{to_z-of_z}
use Rattle.csl.specs.Numbers.{eq_z}
use Rattle.laws.proofs.Bools.{by}
use Rattle.laws.proofs.Integers.{abs_neg}

-- ---- sizes
abs_sub : (a b : ℕ) → nat_abs (sub_ℕ a b) ≤ a + b
abs_sub a b = by (λ t. nat_abs (cond t (negsuc (b - suc a)) (pos (a - b))) ≤ a + b) (ltb a b)
    (λ e. omega (arith, ltb-true a b e)) (λ e. omega arith)

pub abs_add : (a b : ℤ) → nat_abs (a +ℤ b) ≤ nat_abs a + nat_abs b
abs_add (pos a) (pos b) = le_refl (a + b)
abs_add (pos a) (negsuc b) = abs_sub a (suc b)
abs_add (negsuc a) (pos b) = omega (arith, abs_sub b (suc a))
abs_add (negsuc a) (negsuc b) = omega arith

pub abs_minus : (a b : ℤ) → nat_abs (a -ℤ b) ≤ nat_abs a + nat_abs b
abs_minus a b = omega (arith, abs_add a (neg_ℤ b), abs_neg b)

pub abs_mul : (a b : ℤ) → nat_abs (a *ℤ b) ≡ nat_abs a * nat_abs b
abs_mul (pos a) (pos b) = refl
abs_mul (pos a) (negsuc b) = abs_neg (pos (a * suc b))
abs_mul (negsuc a) (pos b) = abs_neg (pos (suc a * b))
abs_mul (negsuc a) (negsuc b) = refl

mag_abs : (z : ℤ) → mag z ≤ nat_abs z
mag_abs (pos n) = le_refl n
mag_abs (negsuc n) = omega arith

-- what an i64 holds without any doubt
pub small : {z : ℤ} → nat_abs z ≤ 1_000_000_000_000_000_000 → SFits w64 z
small {z} h = record { sfits = omega (arith, mag_abs z) }

-- ---- bits
-- what the machine reads back from the bits of z
abbrev pub seen : ℤ → ℤ
seen z = to_z w64 (of_z w64 z)

-- at whatever z, they are no larger
pub abs_seen : (z : ℤ) → nat_abs (seen z) ≤ nat_abs z
abs_seen (pos n) = by (λ t. nat_abs (sel t (pos n) (negsuc (2 ^ 64 - suc n))) ≤ n) (ltb n (2 ^ 63))
    (λ e. le_refl n) (λ e. omega (arith, ltb-false n (2 ^ 63) e))
abs_seen (negsuc n) =
    let m : ℕ = 2 ^ 64 - suc n in
    by (λ t. nat_abs (sel t (pos m) (negsuc (2 ^ 64 - suc m))) ≤ suc n) (ltb m (2 ^ 63))
    (λ e. omega (arith, ltb-true m (2 ^ 63) e)) (λ e. omega (arith, ltb-false m (2 ^ 63) e))

pub read : {z : ℤ} → SFits w64 z → seen z ≡ z
read {z} h = to_z-of_z w64 z h

-- the same of a call's result, from `c.f.ok`
pub read! : {z : ℤ} → mag z < 2 ^ 63 → seen z ≡ z
read! {z} h = read (record { sfits = h })

pub some_bits : {n : ℕ} → (n ≡ 0 → ⊥) → 0 < n
some_bits {n = zero} f = absurd (f refl)
some_bits {n = suc n} f = omega arith

signs_apart : (a b : ℕ) → a < 2 ^ 63 → b < 2 ^ 63 → a ≡ 2 ^ 64 - suc b → ⊥
signs_apart a b h k e = omega arith

pub eqb_bits : (a b : ℤ) → SFits w64 a → SFits w64 b → eqb (of_z w64 a) (of_z w64 b) ≡ eq_z a b
unfolding eq_z
eqb_bits (pos a) (pos b) h k = refl
eqb_bits (pos a) (negsuc b) h k = ne_eqb a (2 ^ 64 - suc b) (λ e. signs_apart a b h.sfits k.sfits e)
eqb_bits (negsuc a) (pos b) h k = ne_eqb (2 ^ 64 - suc a) b (λ e. signs_apart b a k.sfits h.sfits (sym e))
eqb_bits (negsuc a) (negsuc b) h k = by (λ t. eqb (2 ^ 64 - suc a) (2 ^ 64 - suc b) ≡ t) (eqb a b)
    (λ e. eq-eqb (2 ^ 64 - suc a) (2 ^ 64 - suc b) (ap (λ (n : ℕ). 2 ^ 64 - suc n) (eqb-true a b e)))
    (λ e. ne_eqb (2 ^ 64 - suc a) (2 ^ 64 - suc b) (λ q. eqb-false a b e (alike h.sfits k.sfits q)))
  where
    alike : {a b : ℕ} → a < 2 ^ 63 → b < 2 ^ 63 → 2 ^ 64 - suc a ≡ 2 ^ 64 - suc b → a ≡ b
    alike h k q = omega arith
