-- Division by a number above 0 that leaves no remainder below 0 rounds down; with both signs turned the quotient is the
-- same.
use mathlib.Core.Path.{◌≡◌, refl, sym, ap, ◌∙◌, subst}
use mathlib.Core.Bool.{true, false}
use Prim.Native.Nat.{zero, suc, ◌<◌, ◌^◌}
use native.Mathlib.Nat.{zero-lt-suc}
use native.Mathlib.Omega.{arith}
use lib.IntN.{ℤ, pos, negsuc, neg_ℤ, ◌-ℤ◌, +ℤ_idl}
use lib.Dec.{T}
use lib.Signed.{lt_z, mag}
use borrow.Author.Tests.{ltb-true, lt-ltb}
use Rattle.std.specs.Int.{int_div_euclid}
use Rattle.csl.specs.Numbers.{Held, quot, quotient, calculate}
use Rattle.laws.proofs.Integers.{abs_neg}
use Rattle.laws.proofs.Quotients.{quotient_turned}
use Rattle.arith.proofs.Ints.{seen, read, read! }
use Rattle.std.proofs.lemmas.Int.{ints}
use Rattle.arith.proofs.Numbers.{Answer, answer, held_fits}

-- ---- in the integers
divided : (a b : ℤ) → lt_z (pos 0) b ≡ true → int_div_euclid a b ≡ quotient a b
unfolding quotient
divided a (pos zero) k = absurd (subst T (sym k) tt)
divided (pos n) (pos (suc m)) k = refl
divided (negsuc n) (pos (suc m)) k = refl
divided a (negsuc m) k = absurd (subst T (sym k) tt)

turned_above : (b : ℤ) → lt_z b (pos 0) ≡ true → lt_z (pos 0) (neg_ℤ b) ≡ true
turned_above (pos n) e = absurd (omega (arith, ltb-true n 0 e))
turned_above (negsuc n) e = lt-ltb 0 (suc n) (zero-lt-suc n)

-- ---- as the machine does it
module _ {z : ℤ} (h : Held z) where
  turns : pos 0 -ℤ seen z ≡ neg_ℤ z
  turns = +ℤ_idl (neg_ℤ (seen z)) ∙ ap neg_ℤ (read (held_fits h))

  turned_held : Held (neg_ℤ z)
  turned_held = record { bounded = omega (arith, abs_neg z) }

  turned : seen (pos 0 -ℤ seen z) ≡ neg_ℤ z
  turned = rw turns (read (held_fits turned_held))

module _ {a b : ℤ} (h : Held a × Held b) {r : ℤ} (fits : mag r < 2 ^ 63) where
  pub straight : lt_z (pos 0) (seen b) ≡ true → r ≡ int_div_euclid (seen a) (seen b) → seen r ≡ quotient a b
  straight e d =
      let k : lt_z (pos 0) b ≡ true = rw (read (held_fits h.1)) at e in
      read! fits ∙ rw (read (held_fits h.0), read (held_fits h.1)) at d ∙ divided a b k

  pub turned_quotient : lt_z (seen b) (pos 0) ≡ true
      → r ≡ int_div_euclid (seen (pos 0 -ℤ seen a)) (seen (pos 0 -ℤ seen b)) → seen r ≡ quotient a b
  turned_quotient e d =
      let k : lt_z b (pos 0) ≡ true = rw (read (held_fits h.1)) at e in
      read! fits ∙ rw (turned h.0, turned h.1) at d ∙ divided (neg_ℤ a) (neg_ℤ b) (turned_above b k)
      ∙ quotient_turned a b

  pub quotient_answer : r ≡ quotient (seen a) (seen b) → Answer quot a b (seen r)
  unfolding calculate
  quotient_answer e = answer quot h (read! fits ∙ rw (read (held_fits h.0), read (held_fits h.1)) at e)

pub nought : (a : ℤ) {b : ℤ} → Held b → lt_z (pos 0) (seen b) ≡ false → lt_z (seen b) (pos 0) ≡ false
    → pos 0 ≡ quotient a b
unfolding quotient
nought a {b} h e f =
    let r = read (held_fits h) in
    let k : lt_z (pos 0) b ≡ false = rw r at e in
    let l : lt_z b (pos 0) ≡ false = rw r at f in
    let n : b ≡ pos 0 = grind (arith, ints) in rw n
