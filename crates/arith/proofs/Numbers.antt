-- The laws of the language's numbers. What holds of all four operations is one law with the operation as a parameter.
use mathlib.Core.Path.{◌≡◌, refl, sym, ap, ◌∙◌}
use mathlib.Core.Bool.{Bool, true, false, cond}
use Prim.Native.Nat.{ℕ, ◌≤◌, max}
use native.Mathlib.Nat.{le_refl, mul-le-mul}
use native.Mathlib.Omega.{arith}
use lib.IntN.{ℤ, pos, negsuc, nat_abs, ◌+ℤ◌, ◌-ℤ◌, ◌*ℤ◌}
use lib.Dec.{T, lit≤, leb→le, le→leb}
use lib.Signed.{lt_z}
use mir.Syntax.{w64}
use mir.Val.{SFits, bool_byte}
use Rattle.std.specs.Int.{int_min, int_max}
use Rattle.csl.specs.Numbers.{Held, Arithmetic, plus, minus, times, quot, top, bottom, limit, held, quotient}
use Rattle.csl.specs.Numbers.{calculate, later_of}
use Rattle.laws.proofs.Bools.{by}
use Rattle.laws.proofs.Quotients.{quotient_size}
use Rattle.arith.specs.Near.{Near}
use Rattle.arith.proofs.Ints.{abs_add, abs_minus, abs_mul, small, seen, abs_seen, read}
use Rattle.std.proofs.lemmas.Int.{ints}

pub held_fits : {z : ℤ} → Held z → SFits w64 z
held_fits h = small (omega arith)

-- ---- `omega sizes` shows `Near n (seen z)`, from what is known of the sizes of numbers and of what the machine
-- reads back
pub within_goal : (n : ℕ) (z : ℤ) → nat_abs z ≤ n → Near n z
within_goal n z h = record { near = le→leb (nat_abs z) n h }

pub seen_goal : (n : ℕ) (z : ℤ) → nat_abs z ≤ n → Near n (seen z)
seen_goal n z h = within_goal n (seen z) (omega (arith, abs_seen z))

-- omega applies one rule to a hypothesis: `leb→le` is for the field of `Near`, this one for the whole
pub within_seen : {n : ℕ} {z : ℤ} → Near n z → nat_abs (seen z) ≤ n
within_seen {n} {z} h = omega (arith, leb→le (nat_abs z) n h.near, abs_seen z)

pub held_seen : {z : ℤ} → Held z → nat_abs (seen z) ≤ limit
held_seen {z} h = omega (arith, abs_seen z)

pub fits_seen : {z : ℤ} → SFits w64 z → nat_abs (seen z) ≡ nat_abs z
fits_seen h = ap nat_abs (read h)

pub ruleset sizes = (arith, leb→le, within_seen, held_seen, fits_seen, seen_goal)

-- ---- a truth
pub truth_held : (b : Bool) → held (seen (pos (bool_byte b))) ≡ cond b (pos 1) (pos 0)
unfolding held
truth_held true = refl
truth_held false = refl

-- ---- what `held` gives is held, and what is held stays
pub held_held : (z : ℤ) → Held (held z)
unfolding held
held_held z =
    by (λ t. Held (cond t top (cond (lt_z z bottom) bottom z))) (lt_z top z) (λ e. record { bounded = lit≤ tt })
    (λ e. by (λ t. Held (cond t bottom z)) (lt_z z bottom) (λ f. record { bounded = lit≤ tt })
    (λ f. record { bounded = grind (arith, ints) }))

-- as the machine computes it, by std's `clamp`
pub clamped : (z : ℤ) → int_max bottom (int_min z top) ≡ held z
unfolding held
clamped z =
    by (λ t. cond (lt_z (cond t top z) bottom) bottom (cond t top z) ≡ cond t top (cond (lt_z z bottom) bottom z))
    (lt_z top z) (λ e. refl) (λ e. refl)

pub held_same : {z : ℤ} → Held z → z ≡ held z
unfolding held
held_same {z} h =
    let e : lt_z top z ≡ false = grind (arith, ints) in
    let f : lt_z z bottom ≡ false = grind (arith, ints) in
    rw (e, f)

-- ---- the four operations, before the result is held
abbrev pub exactly : Arithmetic → ℤ → ℤ → ℤ
exactly plus a b = a +ℤ b
exactly minus a b = a -ℤ b
exactly times a b = a *ℤ b
exactly quot a b = quotient a b

-- as the machine does any operation: a result that fits is read back as it is
module _ (o : ℤ → ℤ → ℤ) {a b : ℤ} (p : SFits w64 a) (q : SFits w64 b) (r : SFits w64 (o a b)) where
  pub given : seen (o (seen a) (seen b)) ≡ o a b
  given = rw (read p, read q) (read r)

bound : (o : Arithmetic) {a b : ℤ} → Held a × Held b → nat_abs (exactly o a b) ≤ 1_000_000_000_000_000_000
bound plus {a} {b} h = omega (arith, abs_add a b)
bound minus {a} {b} h = omega (arith, abs_minus a b)
bound times {a} {b} h = rw abs_mul (mul-le-mul h.0.bounded h.1.bounded)
bound quot {a} {b} h = omega (arith, quotient_size a b)

-- of held numbers each operation is the exact one, held
pub calculate_is : (o : Arithmetic) {a b : ℤ} → Held a × Held b → calculate o a b ≡ held (exactly o a b)
unfolding calculate
calculate_is plus h = refl
calculate_is minus h = refl
calculate_is times h = refl
calculate_is quot {a} {b} h = held_same (record { bounded = omega (arith, quotient_size a b) })

pub calculate_held : (o : Arithmetic) {a b : ℤ} → Held a → Held b → Held (calculate o a b)
calculate_held o {a} {b} h k = rw (calculate_is o (h, k)) (held_held (exactly o a b))

-- what each of the four functions ensures
abbrev pub Answer : Arithmetic → ℤ → ℤ → ℤ → Type 0
Answer o a b r = (r ≡ calculate o a b) × Held r

module _ (o : Arithmetic) {a b : ℤ} (h : Held a × Held b) where
  pub held_given : seen (exactly o (seen a) (seen b)) ≡ exactly o a b
  held_given = given (exactly o) (held_fits h.0) (held_fits h.1) (small (bound o h))

  pub answer : {r : ℤ} → r ≡ calculate o a b → Answer o a b r
  answer e = (e, rw e (calculate_held o h.0 h.1))

  -- what the machine computes, held by a call whose result is r
  pub held_answer : {r : ℤ} → r ≡ held (seen (exactly o (seen a) (seen b))) → Answer o a b r
  held_answer e = answer (e ∙ ap held held_given ∙ sym (calculate_is o h))

-- ---- the later of a time and the end of a window
module _ (n : ℕ) where
  pub later_size : (z : ℤ) → later_of n z ≤ max n (nat_abs z)
  unfolding later_of
  later_size (pos m) = le_refl (max n m)
  later_size (negsuc m) = omega arith
