-- Paper 02, No. 5, sentence by sentence, of the quotient that every contract speaks of.
use mathlib.Core.Path.{◌≡◌, refl}
use Prim.Native.Nat.{ℕ, suc}
use lib.Dec.{T}
use lib.IntN.{ℤ, pos, negsuc, neg_ℤ, suc_ℤ, ◌*ℤ◌}
use lib.Signed.{le_z, lt_z}
use Rattle.csl.specs.Numbers.{calculate, computes, quot}
use Rattle.laws.proofs.Quotients.{quotient_turned, rounds_down}

-- "round downwards, for shortfalls as well": by n + 1 it is the q with q (n + 1) ≤ x < (q + 1) (n + 1)
downwards : (x : ℤ) (n : ℕ) →
    let q : ℤ = calculate quot x (pos (suc n)) in T (le_z (q *ℤ pos (suc n)) x) × T (lt_z x (suc_ℤ q *ℤ pos (suc n)))
unfolding calculate
downwards x n = let r = rounds_down x n in (r.reached, r.passed)

-- by a number below 0 it is the same with both signs turned
turned : (x y : ℤ) → calculate quot (neg_ℤ x) (neg_ℤ y) ≡ calculate quot x y
unfolding calculate
turned = quotient_turned

-- "−7 ÷ 2 is −4, and 7 ÷ −2 is −4."
examples : (calculate quot (negsuc 6) (pos 2) ≡ negsuc 3) × (calculate quot (pos 7) (negsuc 1) ≡ negsuc 3)
unfolding computes
examples = (refl, refl)

-- "A quotient by 0 remains 0."
by_0 : (x : ℤ) → calculate quot x (pos 0) ≡ pos 0
unfolding computes
by_0 x = refl
