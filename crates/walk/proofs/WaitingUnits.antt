-- A waiting unit's cells, in the forms that the code has them.
use mathlib.Core.Path.{◌≡◌, refl, ap}
use mathlib.Core.List.{List}
use Prim.Native.Nat.{ℕ, ◌+◌, ◌-◌, ◌≤◌}
use native.Mathlib.Omega.{arith}
use lib.IntN.{ℤ, pos}
use lib.ListN.{length, get_or, take, drop, length-take}
use Rattle.csl.specs.Bytes.{byte, part, record_end}
use Rattle.csl.specs.Decode.{heads_of, clause}
use Rattle.cells.specs.Reduce as cells
use Rattle.cells.specs.Reduce.{Mode, forecasting}
use Rattle.cells.specs.Across.{nat_of, unit_reckoned}
use Rattle.cells.specs.Ahead.{unit_ahead}
use Rattle.records.proofs.Index.{templates_length}
use Rattle.activation.specs.Leads.{reckon_below}

-- n of a unit's cells from b on
pub cells_in_sight : (unit : List ℤ) (b n : ℕ) {most : ℕ} → n ≤ most
    → (take (b + n - b) (drop b unit) ≡ take n (drop b unit)) × (length (take (b + n - b) (drop b unit)) ≤ most)
cells_in_sight unit b n few =
    let q : b + n - b ≡ n = omega arith in
    (rw q refl, omega (arith, length-take (b + n - b) (drop b unit)))

-- what becomes of a unit
pub unit_at_lem : (m : Mode) (ag : List ℕ) (params values : ℕ) (cs : List ℤ) → let p = nat_of (get_or cs 1 (pos 0)) in
    unit_reckoned m ag params values cs ≡ reckon_below m ag (byte ag 10) (clause (heads_of ag) 23 p
    (part ag p (record_end ag p))) (take params (drop 3 cs)) (take values (drop 8 cs)) (nat_of (get_or cs 2 (pos 0)))
unfolding unit_reckoned reckon_below cells.reduce
unit_at_lem m ag params values cs = rw (templates_length ag) refl

-- its forecast
pub unit_ahead_lem : (ag : List ℕ) (cs : List ℤ) → let p = nat_of (get_or cs 1 (pos 0)) in
    unit_ahead ag cs ≡ (reckon_below forecasting ag (byte ag 10) (clause (heads_of ag) 23 p
    (part ag p (record_end ag p))) (take 4 (drop 3 cs)) (take 16 (drop 8 cs)) (nat_of (get_or cs 2 (pos 0)))).outcome
unfolding unit_ahead
unit_ahead_lem ag cs = ap (λ (x : cells.Reckoned). x.outcome) (unit_at_lem forecasting ag 4 16 cs)
