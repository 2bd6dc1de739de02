-- Tests: what `T b` and `b ≡ true` give each other, `&&` and `||` taken apart and put together, and a definition by a
-- test.
use mathlib.Core.Bool.{Bool, true, false, ◌&&◌, ◌||◌, true≢false, false≢true}
use mathlib.Core.Path.{◌≡◌, refl, sym, subst, ◌∙◌}
use lib.Dec.{T}

-- ---- a test that holds, and one that does not
pub T→true : (b : Bool) → T b → b ≡ true
T→true true t = refl
T→true false t = absurd t

pub true→T : {b : Bool} → b ≡ true → T b
true→T e = subst T (sym e) tt

pub not_T→false : (b : Bool) → (T b → ⊥) → b ≡ false
not_T→false true f = absurd (f tt)
not_T→false false f = refl

pub true_not_false : {C : Type 0} {b : Bool} → b ≡ true → b ≡ false → C
true_not_false p q = absurd (true≢false (sym p ∙ q))

pub refused : (b : Bool) → (T b → ⊥) → false ≡ b
refused b f = sym (not_T→false b f)

-- by what the test gives
pub by {ℓ} : (P : Bool → Type ℓ) (b : Bool) → (b ≡ true → P true) → (b ≡ false → P false) → P b
by P true f g = f refl
by P false f g = g refl

pub by_test : {C : Type 0} (b : Bool) → (b ≡ true → C) → (b ≡ false → C) → C
by_test {C} b f g = by (λ _. C) b f g

-- ---- `a && b` and `a || b`
pub T-left : (a b : Bool) → T (a && b) → T a
T-left true b t = tt
T-left false b t = t

pub T-right : (a b : Bool) → T (a && b) → T b
T-right true b t = t
T-right false b t = absurd t

pub T-both : (a b : Bool) → T a → T b → T (a && b)
T-both true b t u = u
T-both false b t u = t

pub both_true : {C : Type 0} (a b : Bool) → T (a && b) → (T a → T b → C) → C
both_true true b t k = k tt t
both_true false b t k = absurd t

pub and_left : (a b : Bool) → (a && b) ≡ true → a ≡ true
and_left true b e = refl
and_left false b e = e

pub and_right : (a b : Bool) → (a && b) ≡ true → b ≡ true
and_right true b e = e
and_right false b e = absurd (false≢true e)

pub T-or : {C : Type 0} (a b : Bool) → T (a || b) → (T a → C) → (T b → C) → C
T-or true b t f g = f tt
T-or false b t f g = g t

pub or_left : (a b : Bool) → T a → T (a || b)
or_left true b t = tt
or_left false b t = absurd t

pub or_right : (a b : Bool) → T b → T (a || b)
or_right true b t = tt
or_right false b t = t

-- a is tried first, and x is what a call answered for it
pub true_first : (a b : Bool) {x y : Bool} → x ≡ a → x ≡ true → y ≡ b → y ≡ (a && b)
true_first a b p q r = r ∙ rw (sym p ∙ q)

pub false_first : (a b : Bool) {x y : Bool} → x ≡ a → x ≡ false → y ≡ false → y ≡ (a && b)
false_first a b p q r = r ∙ rw (sym p ∙ q)

-- the same of `a || b`
pub true_decides : (a b : Bool) {x y : Bool} → x ≡ a → x ≡ true → y ≡ true → y ≡ (a || b)
true_decides a b p q r = r ∙ rw (sym p ∙ q)

pub false_leaves : (a b : Bool) {x y : Bool} → x ≡ a → x ≡ false → y ≡ b → y ≡ (a || b)
false_leaves a b p q r = r ∙ rw (sym p ∙ q)

-- ---- a definition by a test
module _ {A : Type 0} (b : Bool) (x y : A) where
  pub elim_true : b ≡ true → (elim b [ true ↦ x | false ↦ y ]) ≡ x
  elim_true e = rw e refl

  pub elim_false : b ≡ false → (elim b [ true ↦ x | false ↦ y ]) ≡ y
  elim_false e = rw e refl

pub from_test : {A C : Type 0} (b : Bool) (x y : A) {z : A} → (elim b [ true ↦ x | false ↦ y ]) ≡ z
    → (T b → x ≡ z → C) → (y ≡ z → C) → C
from_test true x y e f g = f tt e
from_test false x y e f g = g e
