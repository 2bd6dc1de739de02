-- Times and the ends of windows are not held; that they are not far from 0 makes their sums and differences exact.
use Rattle.std.specs.Prelude.{ℕ, ℤ, nat_abs, T, leb}

-- z is at most n from 0; a test, so that a rule can hand it to omega (proofs/Numbers.antt, `sizes`)
pub record Near (n : ℕ) (z : ℤ) : Type 0 where
  pub near : T (leb (nat_abs z) n)

-- no reading that is followed is dated later
abbrev pub latest : ℕ
latest = 100_000_000_000_000
