-- Laws for the units that a template of kind 4 declares: where they are read, and how many they may be.
use mathlib.Core.Path.{◌≡◌, refl, sym, ap, ◌∙◌}
use mathlib.Core.Bool.{Bool, true, false, not, cond}
use mathlib.Core.List.{List}
use mathlib.Core.Option.{none, some}
use Prim.Native.Nat.{ℕ, ◌+◌}
use lib.Dec.{leb, eqb}
use borrow.Author.Tests.{ne_eqb}
use Rattle.csl.specs.Bytes.{byte, kind_number}
use Rattle.csl.specs.Decode.{declares_units, units_declared, few_units, template_head}

-- ---- what the test of a template's head asks; k is its kind
module _ (q : List ℕ) {k : ℕ} (e : k ≡ kind_number q) where
  other : (k ≡ 4 → ⊥) → eqb (kind_number q) 4 ≡ false
  other h = ne_eqb (kind_number q) 4 (λ p. h (e ∙ p))

  pub no_units : (k ≡ 4 → ⊥) → not (eqb k 4) ≡ few_units (units_declared q)
  unfolding few_units units_declared declares_units
  no_units h = rw (other h, ne_eqb k 4 h) refl

  -- b are its units
  pub units_few : {b : ℕ} → k ≡ 4 → b ≡ byte q (8 + byte q 4) → leb b 128 ≡ few_units (units_declared q)
  unfolding few_units units_declared declares_units
  units_few h p = rw (p, sym e ∙ h) refl

  -- a head of another kind declares none
  pub units_none : (k ≡ 4 → ⊥) → (template_head q).units ≡ none
  unfolding template_head units_declared declares_units
  units_none h = rw (other h) refl
