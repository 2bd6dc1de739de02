-- Values built differently are not equal: from an equation between two of them `cc` has 0 ≡ 1.
use mathlib.Core.Path.{◌≡◌}
use Prim.Native.Nat.{ℕ}
use native.Mathlib.Omega.{arith}

pub impossible : {C : Type 0} → ◌≡◌ {A = ℕ} 0 1 → C
impossible e = absurd (omega arith)
