-- Numbers in decimal: what std prints is `decimal n`, and no 64-bit number has more than twenty digits.
use mathlib.Core.Path.{◌≡◌, sym}
use mathlib.Core.List.{[], ◌∷◌, ◌++◌}
use Prim.Native.Nat.{ℕ, suc, ◌/◌, ◌%◌, ◌^◌, ◌≤◌, ◌<◌}
use native.Mathlib.Omega.{arith}
use borrow.Author.Tests.{lt-ltb, le-ltb}
use lib.ListN.{length}
use Rattle.std.proofs.lemmas.Fmt.{decimal_from_appends, length-decimal-le, length-decimal-le_succ}
use Rattle.std.specs.Fmt as std
use Rattle.lines.specs.Text.{decimal, digits_in, digit}

small_step : (steps n : ℕ) → n < 10 → digits_in (suc steps) n ≡ digit n ∷ []
unfolding digits_in
small_step steps n h = rw (lt-ltb n 10 h, digits_in)

large_step : (steps n : ℕ) → 10 ≤ n → digits_in (suc steps) n ≡ digits_in steps (n / 10) ++ (digit (n % 10) ∷ [])
unfolding digits_in
large_step steps n h = rw (le-ltb n 10 h, digits_in)

pub printed : (n : ℕ) → n < 2 ^ 64 → std.decimal n ≡ decimal n
unfolding decimal
printed n h = sym (decimal_from_appends digits_in (record { one = small_step; more = large_step }) (suc n) n h
    (omega (arith, length-decimal-le_succ n h)))

pub few : (n : ℕ) → n < 2 ^ 64 → length (decimal n) ≤ 20
few n h = rw (sym (printed n h)) (length-decimal-le 20 n (omega arith) (omega arith) h)
