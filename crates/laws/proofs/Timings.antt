-- The window test by its two tests.
use mathlib.Core.Bool.{Bool, true, false}
use mathlib.Core.Path.{◌≡◌, ap₂, refl}
use Prim.Native.Nat.{ℕ}
use lib.IntN.{pos}
use lib.Signed.{lt_z}
use Rattle.csl.specs.Rules.{Window, Timing, early, on_time, late, timing}

abbrev by_tests : Bool → Bool → Timing
by_tests b c = elim b [ true ↦ late | false ↦ elim c [ true ↦ early | false ↦ on_time ] ]

module _ (v : Window) (t : ℕ) where
  tested : {b c : Bool} → lt_z v.last (pos t) ≡ b → lt_z (pos t) v.first ≡ c → timing v t ≡ by_tests b c
  unfolding timing
  tested p q = ap₂ by_tests p q

  pub timing_late : lt_z v.last (pos t) ≡ true → timing v t ≡ late
  timing_late p = tested p refl

  pub timing_early : lt_z v.last (pos t) ≡ false → lt_z (pos t) v.first ≡ true → timing v t ≡ early
  timing_early p q = tested p q

  pub timing_on_time : lt_z v.last (pos t) ≡ false → lt_z (pos t) v.first ≡ false → timing v t ≡ on_time
  timing_on_time p q = tested p q
