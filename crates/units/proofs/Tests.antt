-- What a test lets through, and a cell that is read.
use mathlib.Core.Path.{◌≡◌, refl, ap, ◌∙◌}
use mathlib.Core.Bool.{Bool, true, false}
use Prim.Native.Nat.{ℕ, ◌^◌, ◌<◌}
use lib.IntN.{ℤ}
use lib.Signed.{mag}
use Rattle.std.specs.Prelude.{Option, Some, None}
use Rattle.std.specs.Bool.{then_some}
use Rattle.arith.proofs.Ints.{seen, read! }
use Rattle.units.specs.Cells.{number_below}

pub by_then : {A : Type 0} (P : Option A → Type 0) {b : Bool} {v : A} {r : Option A} → r ≡ then_some b v
    → (b ≡ true → P (Some v)) → (b ≡ false → P None) → P r
by_then P {b = true} e f g = rw e (f refl)
by_then P {b = false} e f g = rw e (g refl)

-- what `number_below` answers for a cell
pub cell_below : (end : ℕ) (z : ℤ) {r : Option ℕ} → mag z < 2 ^ 63 → r ≡ number_below end (seen z)
    → r ≡ number_below end z
cell_below end z fits e = e ∙ ap (number_below end) (read! fits)
