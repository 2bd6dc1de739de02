-- Times: the three answers of the window test, the later of A and last, and the remaining time, which lies in the
-- language's range.
use mathlib.Core.Bool.{Bool, cond, false, not, true}
use mathlib.Core.Path.{ap, refl, subst, sym, ◌≡◌}
use Prim.Native.Nat.{◌+◌, ◌-◌, suc, zero, ℕ, ◌≤◌}
use native.Mathlib.Omega.{arith}
use lib.Dec.{T, leb→le, le→leb, ltb, ltb→lt, nltb→le}
use lib.IntN.{◌+ℤ◌, ◌-ℤ◌, negsuc, pos, pos-ne-negsuc, sub_ℕ, ℤ}
use lib.Signed.{lt_z}
use Rattle.csl.specs.Numbers.{in_range, later_of, limit}
use Rattle.csl.specs.Rules.{Timing, Window, early, late, on_time, timing}
use Rattle.laws.proofs.Integers.{difference_below}

-- late is asked first, and then too early
pub by_timing_lem : {A : Type 0} (P : A → Type 0) (v : Window) (t : ℕ) (x y z : A) → (T (lt_z v.last (pos t)) → P x)
    → (T (not (lt_z v.last (pos t))) → T (lt_z (pos t) v.first) → P y)
    → (T (not (lt_z v.last (pos t))) → T (not (lt_z (pos t) v.first)) → P z)
    → P (elim (timing v t) [ late ↦ x | on_time ↦ z | early ↦ y ])
unfolding timing
by_timing_lem P v t x y z = go (lt_z v.last (pos t)) (lt_z (pos t) v.first)
  where
    go : (b c : Bool) → (T b → P x) → (T (not b) → T c → P y) → (T (not b) → T (not c) → P z)
        → P (elim (elim b as (λ _. Timing) [ true ↦ late | false ↦ elim c [ true ↦ early | false ↦ on_time ] ])
        [ late ↦ x | on_time ↦ z | early ↦ y ])
    go true c f g h = f tt
    go false true f g h = g tt tt
    go false false f g h = h tt tt

pub later_to : (a t : ℕ) (l : ℤ) → a ≤ t → T (lt_z l (pos t)) → later_of a l ≤ t
unfolding later_of
later_to a t (pos n) h k = omega (arith, ltb→lt n t k)
later_to a t (negsuc n) h k = h

sub_ge : (x y : ℕ) → y ≤ x → sub_ℕ x y ≡ pos (x - y)
sub_ge x y h = go (ltb x y) refl
  where
    go : (b : Bool) → ltb x y ≡ b → ◌≡◌ {A = ℤ} (cond b (negsuc (y - suc x)) (pos (x - y))) (pos (x - y))
    go true e = absurd (omega (arith, ltb→lt x y (subst T (sym e) tt)))
    go false e = refl

minus_pos : (m t : ℕ) → t ≤ m → pos m -ℤ pos t ≡ pos (m - t)
minus_pos m zero h = ap pos (omega arith)
minus_pos m (suc t) h = sub_ge m (suc t) h

-- last − T is at most within, which is in range
sum_le : (f y : ℤ) (t m : ℕ) → T (not (lt_z (pos t) f)) → T (in_range y) → f +ℤ y ≡ pos m → m ≤ t + limit
unfolding in_range
sum_le (pos a) (pos b) t m h k e = let q : a + b ≡ m = cc in omega (arith, nltb→le t a h, leb→le b limit k)
sum_le (pos a) (negsuc b) t m h k e = omega (arith, nltb→le t a h, difference_below a (suc b) m e)
sum_le (negsuc a) (pos b) t m h k e = omega (arith, leb→le b limit k, difference_below b (suc a) m e)
sum_le (negsuc a) (negsuc b) t m h k e = absurd (pos-ne-negsuc m _ (sym e))

pub remaining_range : (f y : ℤ) (t : ℕ) → T (not (lt_z (pos t) f)) → T (not (lt_z (f +ℤ y) (pos t))) → T (in_range y)
    → T (in_range ((f +ℤ y) -ℤ pos t))
unfolding in_range
remaining_range f y t h l k = go (f +ℤ y) refl l
  where
    go : (z : ℤ) → f +ℤ y ≡ z → T (not (lt_z z (pos t))) → T (in_range (z -ℤ pos t))
    go (pos m) e l' = let b = nltb→le m t l' in
        subst (λ x. T (in_range x)) (sym (minus_pos m t b)) (le→leb (m - t) limit (omega (arith, sum_le f y t m h k e)))
    go (negsuc m) e l' = absurd l'
