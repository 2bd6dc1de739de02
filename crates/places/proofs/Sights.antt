-- The types that bytes are, put behind one another, and the bytes of a sight.
use mathlib.Core.Path.{◌≡◌, sym, ap, ◌∙◌}
use mathlib.Core.List.{List, [], ◌∷◌, ◌++◌}
use mathlib.Core.Option.{some}
use Prim.Native.Nat.{ℕ, zero, suc, ◌+◌, ◌-◌, ◌≤◌, ◌<◌}
use native.Mathlib.Decide.{dec_le}
use native.Mathlib.Omega.{arith}
use lib.ListN.{length, length-append, length-map, length-take}
use Rattle.csl.specs.Lists.{or_nil, at}
use Rattle.csl.specs.Bytes.{byte}
use Rattle.csl.specs.Syntax.{Ty, number}
use Rattle.csl.specs.Decode.{ty_of, tys_of, agreement_of}
use Rattle.csl.specs.Typing.{reading_of_type, then_sight}
use Rattle.laws.proofs.Clash.{impossible}
use Rattle.laws.proofs.Options.{some_inj}
use Rattle.laws.proofs.Types.{types_append}
use Rattle.records.specs.Index.{ReadingTypes}
use Rattle.records.proofs.Index.{readings_past}
use Rattle.places.specs.declared.sight.SightTypes.{SightTypes}
use Rattle.places.specs.Sight.{types_in}
use Rattle.places.specs.Locate.{SeesIn}

-- ---- how many there are in a sight
pub types_count : (s : SightTypes) → length (types_in s) ≡ s.count
unfolding types_in
types_count s = omega (arith, length-take s.count s.bytes, s.few, s.room)

-- ---- the types that bytes are
then_length : (env vs : List Ty) → length (then_sight env vs) ≡ length env + length vs + 1
unfolding then_sight
then_length env vs = omega (arith, length-append (env ++ vs) (number ∷ []), length-append env vs)

-- bytes behind others, with a type byte 1 behind them, are what `then` sees
then_is : (types bs : List ℕ) → tys_of ((types ++ bs) ++ (1 ∷ [])) ≡ then_sight (tys_of types) (tys_of bs)
unfolding then_sight tys_of ty_of
then_is types bs =
    types_append (types ++ bs) (1 ∷ []) ∙ ap (λ (x : List Ty). x ++ (number ∷ [])) (types_append types bs)

-- ---- what `then` sees of a reading
module _ {A : List ℕ} {w : ℕ} (types : List ℕ) (h : SeesIn A types w) where
  pub named : (1 ≤ w) × (w - 1 < byte A 9)
  unfolding reading_of_type
  named = go w h.sees.is
    where
      go : (w : ℕ) → reading_of_type (agreement_of A).readings w ≡ some h.sees.values → (1 ≤ w) × (w - 1 < byte A 9)
      go zero e = impossible cc
      go (suc k) e = within (dec_le (byte A 9) k)
        where
          within : Dec (byte A 9 ≤ k) → (1 ≤ suc k) × (suc k - 1 < byte A 9)
          within (yes l) = let g = sym (readings_past A k l) ∙ e in impossible cc
          within (no l) = (omega arith, omega arith)

  module _ {bs : List ℕ} (t : ReadingTypes A (w - 1) bs) where
    values_are : h.sees.values ≡ tys_of bs
    unfolding reading_of_type
    values_are = go w named.0 h.sees.is t.typed
      where
        go : (w : ℕ) → 1 ≤ w → reading_of_type (agreement_of A).readings w ≡ some h.sees.values
            → at (agreement_of A).readings (w - 1) ≡ some (tys_of bs) → h.sees.values ≡ tys_of bs
        go zero l e g = absurd (omega arith)
        go (suc k) l e g = let j : suc k - 1 ≡ k = omega arith in some_inj (sym e ∙ (rw j at g))

    pub sight_room : length types + length bs + 1 ≤ 16
    unfolding tys_of
    sight_room =
        omega (
          arith,
          h.sees.few,
          then_length (tys_of types) h.sees.values,
          length-map types ty_of,
          ap length values_are,
          length-map bs ty_of,
        )

    pub sight_is : {out out₂ : List ℕ} → out ≡ types ++ bs → out₂ ≡ out ++ (1 ∷ [])
        → tys_of out₂ ≡ then_sight (tys_of types) (or_nil (reading_of_type (agreement_of A).readings w))
    unfolding or_nil
    sight_is f g = rw (g, f, h.sees.is, values_are) (then_is types bs)
