-- The reviewer's checklist, "Tried and found unprovable": six wrong monitors, and that none meets the contracts; three
-- that are wrong in the forecast that they tell; three that preview wrongly; and two that are wrong about size.
-- Each is any monitor that does the wrong thing with whatever it is lent; the paper's trials, computed, refute it.
use mathlib.Core.Path.{◌≡◌, refl, sym, ap, ◌∙◌, subst}
use mathlib.Core.Bool.{true}
use mathlib.Core.List.{List, [], ◌∷◌}
use mathlib.Core.Logic.{◌≢◌}
use Prim.Native.Nat.{ℕ}
use native.Mathlib.Omega.{arith}
use lib.IntN.{ℤ, pos, nat_abs}
use lib.ListN.{get_or, set}
use Rattle.csl.specs.Bytes.{le32}
use Rattle.csl.specs.Check.{CheckAnswer, check_of}
use Rattle.csl.specs.Entries.{Forecast, ReadingAnswer, StartAnswer, breach_at, forecast_of, no_breach, no_forecast}
use Rattle.csl.specs.Entries.{reading_of, start_of, untold}
use Rattle.csl.specs.Preview.{preview_of, previews_compute}
use Rattle.csl.specs.Decode.{agreement_of}
use Rattle.csl.specs.Sizes.{sized}
use Rattle.csl.specs.Build.{sample, agreement, all', simply, sized_with, zeros}
use Rattle.csl.specs.Build as Build
use Rattle.csl.specs.Trials.{computes}

-- ---- the trials: P1 starts the sample, P2 (110, 240) waits, then P3 (160, 250) fulfils; P8 has two units and a join
abbrev p2bytes : List ℕ
p2bytes = Build.reading 110 (pos 240)

abbrev p3bytes : List ℕ
p3bytes = Build.reading 160 (pos 250)

abbrev p8bytes : List ℕ
p8bytes = agreement [] (all' (simply 0 (pos 60)) (simply 1 (pos 60)))

abbrev p1 : StartAnswer
p1 = start_of sample zeros

abbrev p2 : ReadingAnswer
p2 = reading_of sample p1.table p2bytes

-- ---- a table's head: its state, last reading time and units in use
abbrev state_in : List ℤ → ℤ
state_in table = get_or table 0 (pos 0)

abbrev time_in : List ℤ → ℤ
time_in table = get_or table 1 (pos 0)

abbrev units_in : List ℤ → ℤ
units_in table = get_or table 4 (pos 0)

-- ---- any monitor whose three entries answer as their contracts say: not one of the three refuses whatever it is lent
module _ (check : List ℕ → CheckAnswer) (checks : (s : List ℕ) → check s ≡ check_of s)
    (start : List ℕ → List ℤ → StartAnswer) (starts : (s : List ℕ) (us : List ℤ) → start s us ≡ start_of s us)
    (reading : List ℕ → List ℤ → List ℕ → ReadingAnswer)
    (reads : (s : List ℕ) (us : List ℤ) (r : List ℕ) → reading s us r ≡ reading_of s us r) where
  -- the sample is accepted and started, and P2 is taken
  pub refuses_all_lem :
      (((s : List ℕ) → (check s).number ≡ 0 → ⊥) → ⊥)
      × (((s : List ℕ) (us : List ℤ) → (start s us).number ≡ 0 → ⊥) → ⊥)
      × (((s : List ℕ) (us : List ℤ) (r : List ℕ) → (reading s us r).number ≡ 0 → ⊥) → ⊥)
  unfolding computes zeros
  refuses_all_lem = (
    λ wrong. wrong sample (ap (λ a. a.number) (checks sample)),
    λ wrong. wrong sample zeros (ap (λ a. a.number) (starts sample zeros)),
    λ wrong. wrong sample p1.table p2bytes (ap (λ a. a.number) (reads sample p1.table p2bytes)),
  )

-- any monitor that starts and reads as its contracts say: it does not say 11 where 0 is right
module _ (start : List ℕ → List ℤ → StartAnswer) (starts : (s : List ℕ) (us : List ℤ) → start s us ≡ start_of s us)
    (reading : List ℕ → List ℤ → List ℕ → ReadingAnswer)
    (reads : (s : List ℕ) (us : List ℤ) (r : List ℕ) → reading s us r ≡ reading_of s us r) where
  -- at the start, and at the first reading: the last reading time is still the start
  pub eleven_at_once :
      (((s : List ℕ) (us : List ℤ) → (start_of s us).number ≡ 0 → (start s us).number ≡ 11) → ⊥)
      × (((s : List ℕ) (us : List ℤ) (r : List ℕ) → time_in us ≡ pos (le32 s 4) → (reading_of s us r).number ≡ 0
      → (reading s us r).number ≡ 11) → ⊥)
  unfolding computes zeros
  eleven_at_once = (
    λ wrong. apart (sym (ap (λ a. a.number) (starts sample zeros)) ∙ wrong sample zeros refl),
    λ wrong. apart (sym (ap (λ a. a.number) (reads sample p1.table p2bytes))
        ∙ wrong sample p1.table p2bytes refl refl),
  )
    where
      apart : ◌≡◌ {A = ℕ} 0 11 → ⊥
      apart e = absurd (omega arith)

-- any monitor that starts as its contract says
module _ (start : List ℕ → List ℤ → StartAnswer)
    (starts : (s : List ℕ) (us : List ℤ) → start s us ≡ start_of s us) where
  pub invented_units : (n : ℕ) → ((s : List ℕ) (us : List ℤ) → units_in (start s us).table ≡ pos n) → ⊥
  unfolding computes zeros
  invented_units n wrong =
      let one : ◌≡◌ {A = ℕ} 1 n = ap nat_abs (sym (ap (λ a. units_in a.table) (starts sample zeros))
      ∙ wrong sample zeros) in
      let three : ◌≡◌ {A = ℕ} 3 n = ap nat_abs
      (sym (ap (λ a. units_in a.table) (starts p8bytes zeros)) ∙ wrong p8bytes zeros) in
      absurd (omega arith)

module _ (reading : List ℕ → List ℤ → List ℕ → ReadingAnswer)
    (reads : (s : List ℕ) (us : List ℤ) (r : List ℕ) → reading s us r ≡ reading_of s us r) where
  -- P2 then P3: no monitor that meets the contract is still running
  fulfilled : state_in (reading sample p2.table p3bytes).table ≡ pos 1 → ⊥
  unfolding computes zeros
  fulfilled live = let z : ◌≡◌ {A = ℕ} 2 1 = ap nat_abs
      (sym (ap (λ a. state_in a.table) (reads sample p2.table p3bytes)) ∙ live) in absurd (omega arith)

  pub live_always : ((s : List ℕ) (us : List ℤ) (r : List ℕ) → state_in (reading s us r).table ≡ pos 1) → ⊥
  live_always wrong = fulfilled (wrong sample p2.table p3bytes)

  pub table_left_alone : ((s : List ℕ) (us : List ℤ) (r : List ℕ) → (reading s us r).table ≡ us) → ⊥
  unfolding computes zeros
  table_left_alone wrong = fulfilled (ap state_in (wrong sample p2.table p3bytes))

  -- once the last reading time is no longer the start, only that time is set
  pub works_at_the_first_reading : ((s : List ℕ) (us : List ℤ) (r : List ℕ) → (time_in us ≡ pos (le32 s 4) → ⊥)
      → (reading s us r).table ≡ set us 1 (pos (le32 r 4))) → ⊥
  unfolding computes zeros
  works_at_the_first_reading wrong = fulfilled (ap state_in (wrong sample p2.table p3bytes later))
    where
      later : time_in p2.table ≡ pos (le32 sample 4) → ⊥
      later e = let z : ◌≡◌ {A = ℕ} 110 100 = ap nat_abs e in absurd (omega arith)

-- ---- paper 02, No. 2: any monitor that reads as its contract says
module _ (reading : List ℕ → List ℤ → List ℕ → ReadingAnswer)
    (reads : (s : List ℕ) (us : List ℤ) (r : List ℕ) → reading s us r ≡ reading_of s us r) where
  IsNone : Forecast → Type 0
  IsNone no_breach = Unit {0}
  IsNone (breach_at t b) = ⊥
  IsNone untold = ⊥
  IsNone no_forecast = ⊥

  IsTold : Forecast → Type 0
  IsTold no_breach = Unit {0}
  IsTold (breach_at t b) = Unit {0}
  IsTold untold = ⊥
  IsTold no_forecast = ⊥

  -- after P2 a breach at 160 lies ahead
  pub none_always : ((s : List ℕ) (us : List ℤ) (r : List ℕ) → (reading s us r).number ≡ 0
      → (reading s us r).forecast ≡ no_breach) → ⊥
  unfolding computes zeros IsNone
  none_always wrong = subst IsNone (sym (sym (ap (λ a. a.forecast) (reads sample p1.table p2bytes))
      ∙ wrong sample p1.table p2bytes (ap (λ a. a.number) (reads sample p1.table p2bytes)))) tt

  -- and after P3 none, which the table before does not say
  pub table_before : ((s : List ℕ) (us : List ℤ) (r : List ℕ) → (reading s us r).number ≡ 0
      → (reading s us r).forecast ≡ forecast_of s us) → ⊥
  unfolding computes zeros IsNone
  table_before wrong = subst IsNone (sym (ap (λ a. a.forecast) (reads sample p2.table p3bytes))
      ∙ wrong sample p2.table p3bytes (ap (λ a. a.number) (reads sample p2.table p3bytes))) tt

  -- a reading before P2's time is refused with 10, and no forecast is told
  pub refusals_told : ((s : List ℕ) (us : List ℤ) (r : List ℕ)
      → (reading s us r).forecast ≡ forecast_of s (reading s us r).table) → ⊥
  unfolding computes zeros IsTold
  refusals_told wrong = subst IsTold (sym (sym (ap (λ a. a.forecast) (reads sample p2.table earlier))
      ∙ wrong sample p2.table earlier ∙ ap (λ a. forecast_of sample a.table) (reads sample p2.table earlier))) tt
    where
      earlier : List ℕ
      earlier = Build.reading 105 (pos 250)

-- ---- paper 02, No. 6: any monitor that previews as its contract says
module _ (preview : List ℕ → List ℤ → List ℤ → List ℕ → ReadingAnswer)
    (previews : (s : List ℕ) (us vs : List ℤ) (r : List ℕ) → preview s us vs r ≡ preview_of s us vs r) where
  -- it does not refuse all: P3 is taken
  pub refuses_all_previews : ((s : List ℕ) (us vs : List ℤ) (r : List ℕ) → (preview s us vs r).number ≡ 0 → ⊥) → ⊥
  unfolding computes previews_compute zeros
  refuses_all_previews wrong = wrong sample p2.table zeros p3bytes
      (ap (λ a. a.number) (previews sample p2.table zeros p3bytes))

  -- P3 fulfils, which neither the second table's zeros nor the first table says
  foreseen : state_in (preview sample p2.table zeros p3bytes).table ≡ pos 2
  unfolding computes previews_compute zeros
  foreseen = ap (λ a. state_in a.table) (previews sample p2.table zeros p3bytes)

  pub second_left_alone : ((s : List ℕ) (us vs : List ℤ) (r : List ℕ) → (preview s us vs r).table ≡ vs) → ⊥
  unfolding zeros
  second_left_alone wrong =
      let z : ◌≡◌ {A = ℕ} 2 0 = ap nat_abs (sym foreseen ∙ ap state_in (wrong sample p2.table zeros p3bytes)) in
      absurd (omega arith)

  pub first_copied : ((s : List ℕ) (us vs : List ℤ) (r : List ℕ) → (preview s us vs r).number ≡ 0
      → (preview s us vs r).table ≡ us) → ⊥
  unfolding computes previews_compute zeros
  first_copied wrong =
      let z : ◌≡◌ {A = ℕ} 2 1 = ap nat_abs (sym foreseen ∙ ap state_in (wrong sample p2.table zeros p3bytes
      (ap (λ a. a.number) (previews sample p2.table zeros p3bytes)))) in absurd (omega arith)

  -- a reading before P2's time is refused with 10, and the second table's zeros stay
  pub refusal_written : ((s : List ℕ) (us vs : List ℤ) (r : List ℕ)
      → (preview s us vs r).table ≡ (reading_of s us r).table) → ⊥
  unfolding computes previews_compute zeros
  refusal_written wrong =
      let z : ◌≡◌ {A = ℕ} 0 1 = ap nat_abs
      (sym (ap (λ a. state_in a.table) (previews sample p2.table zeros earlier))
      ∙ ap state_in (wrong sample p2.table zeros earlier)) in absurd (omega arith)
    where
      earlier : List ℕ
      earlier = Build.reading 105 (pos 250)

-- ---- paper 02, No. 7: any monitor that checks as its contract says
module _ (check : List ℕ → CheckAnswer) (checks : (s : List ℕ) → check s ≡ check_of s) where
  -- a template with an obligation that declares so many units
  declaring : ℕ → List ℕ
  declaring units = agreement (sized_with [] 0 1 units (simply 0 (pos 60)) ∷ []) (simply 0 (pos 60))

  -- one that declares none is refused with 15
  pub fifteen_never : ((s : List ℕ) → (check s).number ≢ 15) → ⊥
  unfolding computes declaring
  fifteen_never wrong = wrong (declaring 0) (ap (λ a. a.number) (checks (declaring 0)))

  -- and one that declares what it needs is accepted
  pub sized_refused : ((s : List ℕ) → sized (agreement_of s) ≡ true → (check s).number ≢ 0) → ⊥
  unfolding computes declaring
  sized_refused wrong = wrong (declaring 1) refl (ap (λ a. a.number) (checks (declaring 1)))
