-- A deadline rewritten at a reading that does not miss it keeps its numbers in the language's range: after − (τ' − τ)
-- lies between −within and after.
use mathlib.Core.Bool.{Bool, cond, false, not, true}
use mathlib.Core.Path.{ap, refl, subst, sym, ◌∙◌, ◌≡◌}
use Prim.Native.Nat.{ℕ, zero, suc, ◌+◌, ◌-◌, ◌≤◌}
use native.Mathlib.Omega.{arith}
use lib.Dec.{T, leb→le, le→leb, ltb, ltb→lt, nltb→le}
use lib.IntN.{ℤ, pos, negsuc, nat_abs, sub_ℕ, ◌+ℤ◌, ◌-ℤ◌, +ℤ_comm, +ℤ-neg_ℤ_cancel}
use lib.Signed.{le_z, ◌≤ℤ◌}
use Rattle.csl.specs.Numbers.{in_range, limit}
use Rattle.laws.proofs.Integers.{difference_below}

-- a and b apart by at most m
sub_size : (a b m : ℕ) → a ≤ b + m → b ≤ a + m → nat_abs (sub_ℕ a b) ≤ m
sub_size a b m h k = go (ltb a b) refl
  where
    go : (c : Bool) → ltb a b ≡ c → nat_abs (cond c (negsuc (b - suc a)) (pos (a - b))) ≤ m
    go true e = let l = ltb→lt a b (subst T (sym e) tt) in omega arith
    go false e = omega arith

minus_size : (a t m : ℕ) → a ≤ t + m → t ≤ a + m → nat_abs (pos a -ℤ pos t) ≤ m
minus_size a zero m h k = omega arith
minus_size a (suc t) m h k = sub_size a (suc t) m h k

-- t at most a − b
sub_above : (a b t : ℕ) → T (le_z (pos t) (sub_ℕ a b)) → t + b ≤ a
sub_above a b t = go (ltb a b) refl
  where
    go : (c : Bool) → ltb a b ≡ c → T (le_z (pos t) (cond c (negsuc (b - suc a)) (pos (a - b)))) → t + b ≤ a
    go true e h = absurd h
    go false e h = let l = nltb→le a b (subst (λ z. T (not z)) (sym e) tt) in let k = leb→le t (a - b) h in omega arith

-- the window's first end, of a clause activated at τ, is at most τ + limit
first_below : (τ a : ℕ) (x : ℤ) → T (in_range x) → pos τ +ℤ x ≡ pos a → a ≤ τ + limit
unfolding in_range
first_below τ a (pos b) h e = let q : τ + b ≡ a = cc in omega (arith, leb→le b limit h)
first_below τ a (negsuc b) h e = omega (arith, difference_below τ (suc b) a e)

-- τ₁ − τ' is in range
after_range : (f y : ℤ) (τ t : ℕ) (x : ℤ) → T (in_range x) → T (in_range y) → τ ≤ t → pos τ +ℤ x ≡ f
    → T (le_z (pos t) (f +ℤ y)) → T (in_range (f -ℤ pos t))
unfolding in_range
after_range (pos a) (pos b) τ t x hx hy le e l = le→leb (nat_abs (pos a -ℤ pos t)) limit
    (minus_size a t limit (omega (arith, first_below τ a x hx e))
    (omega (arith, leb→le t (a + b) l, leb→le b limit hy)))
after_range (pos a) (negsuc b) τ t x hx hy le e l = le→leb (nat_abs (pos a -ℤ pos t)) limit
    (minus_size a t limit (omega (arith, first_below τ a x hx e)) (omega (arith, sub_above a (suc b) t l)))
after_range (negsuc a) (pos b) τ t x hx hy le e l = go t (sub_above b (suc a) t l)
  where
    go : (t : ℕ) → t + suc a ≤ b → T (in_range (negsuc a -ℤ pos t))
    go zero k = le→leb (nat_abs (sub_ℕ 0 (suc a))) limit
        (sub_size 0 (suc a) limit (omega arith) (omega (arith, leb→le b limit hy)))
    go (suc t) k = le→leb (suc (suc (a + t))) limit (omega (arith, leb→le b limit hy))
after_range (negsuc a) (negsuc b) τ t x hx hy le e l = absurd l

-- τ₂ − τ₁ is `within` again
pub within_is_lem : (f y : ℤ) → (f +ℤ y) -ℤ f ≡ y
within_is_lem f y = ap (λ z. z -ℤ f) (+ℤ_comm f y) ∙ +ℤ-neg_ℤ_cancel y f

pub rewritten_range : (x y : ℤ) (τ t : ℕ) → T (in_range x) → T (in_range y) → τ ≤ t → pos t ≤ℤ ((pos τ +ℤ x) +ℤ y)
    → T (in_range ((pos τ +ℤ x) -ℤ pos t)) × T (in_range (((pos τ +ℤ x) +ℤ y) -ℤ (pos τ +ℤ x)))
rewritten_range x y τ t hx hy le l = (
  after_range (pos τ +ℤ x) y τ t x hx hy le refl l.le,
  subst (λ z. T (in_range z)) (sym (within_is_lem (pos τ +ℤ x) y)) hy,
)
