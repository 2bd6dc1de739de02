-- The checklist's six wrong monitors, three that are wrong in the forecast that they tell, three that preview wrongly
-- and two that are wrong about size, each shown to break the contracts; and that no two answers of an entry mean the
-- same.
use mathlib.Core.Path.{◌≡◌}
use mathlib.Core.Bool.{true}
use mathlib.Core.List.{List}
use mathlib.Core.Logic.{◌≢◌}
use Prim.Native.Nat.{ℕ}
use lib.IntN.{ℤ, pos}
use lib.ListN.{get_or, set}
use Rattle.csl.specs.Bytes.{le32}
use Rattle.csl.specs.Decode.{agreement_of}
use Rattle.csl.specs.Sizes.{sized}
use Rattle.csl.specs.Check.{CheckAnswer, check_of}
use Rattle.csl.specs.Entries.{ReadingAnswer, StartAnswer, forecast_of, no_breach, no_forecast, reading_of, start_of}
use Rattle.csl.specs.Preview.{preview_of}
use Rattle.csl.specs.Demand3.{Bytes}
use Rattle.monitor.specs.Answers.{Checked, Started, TakenOrRefused, check_answer, start_answer, taken_answer}
use Rattle.monitor.proofs.Apart.{checked_by, started_by, taken_by, check_told, start_told, reading_told}
use Rattle.monitor.proofs.Apart.{Plain, preview_plain, reading_plain, start_plain}
use Rattle.monitor.proofs.WrongMonitors.{refuses_all_lem, eleven_at_once, invented_units}
use Rattle.monitor.proofs.WrongMonitors.{live_always, table_left_alone, works_at_the_first_reading}
use Rattle.monitor.proofs.WrongMonitors.{none_always, refusals_told, table_before}
use Rattle.monitor.proofs.WrongMonitors.{first_copied, refusal_written, refuses_all_previews, second_left_alone}
use Rattle.monitor.proofs.WrongMonitors.{fifteen_never, sized_refused}

module _ (check : List ℕ → CheckAnswer) (checks : (s : List ℕ) → check s ≡ check_of s)
    (start : List ℕ → List ℤ → StartAnswer) (starts : (s : List ℕ) (us : List ℤ) → start s us ≡ start_of s us)
    (reading : List ℕ → List ℤ → List ℕ → ReadingAnswer)
    (reads : (s : List ℕ) (us : List ℤ) (r : List ℕ) → reading s us r ≡ reading_of s us r) where
  refusing_all :
      (((s : List ℕ) → (check s).number ≡ 0 → ⊥) → ⊥)
      × (((s : List ℕ) (us : List ℤ) → (start s us).number ≡ 0 → ⊥) → ⊥)
      × (((s : List ℕ) (us : List ℤ) (r : List ℕ) → (reading s us r).number ≡ 0 → ⊥) → ⊥)
  refusing_all = refuses_all_lem check checks start starts reading reads

module _ (start : List ℕ → List ℤ → StartAnswer) (starts : (s : List ℕ) (us : List ℤ) → start s us ≡ start_of s us)
    (reading : List ℕ → List ℤ → List ℕ → ReadingAnswer)
    (reads : (s : List ℕ) (us : List ℤ) (r : List ℕ) → reading s us r ≡ reading_of s us r) where
  saying_eleven :
      (((s : List ℕ) (us : List ℤ) → (start_of s us).number ≡ 0 → (start s us).number ≡ 11) → ⊥)
      × (((s : List ℕ) (us : List ℤ) (r : List ℕ) → get_or us 1 (pos 0) ≡ pos (le32 s 4)
      → (reading_of s us r).number ≡ 0 → (reading s us r).number ≡ 11) → ⊥)
  saying_eleven = eleven_at_once start starts reading reads

module _ (start : List ℕ → List ℤ → StartAnswer)
    (starts : (s : List ℕ) (us : List ℤ) → start s us ≡ start_of s us) where
  inventing : (n : ℕ) → ((s : List ℕ) (us : List ℤ) → get_or (start s us).table 4 (pos 0) ≡ pos n) → ⊥
  inventing = invented_units start starts

module _ (reading : List ℕ → List ℤ → List ℕ → ReadingAnswer)
    (reads : (s : List ℕ) (us : List ℤ) (r : List ℕ) → reading s us r ≡ reading_of s us r) where
  live : ((s : List ℕ) (us : List ℤ) (r : List ℕ) → get_or (reading s us r).table 0 (pos 0) ≡ pos 1) → ⊥
  live = live_always reading reads

  left_alone : ((s : List ℕ) (us : List ℤ) (r : List ℕ) → (reading s us r).table ≡ us) → ⊥
  left_alone = table_left_alone reading reads

  once_only : ((s : List ℕ) (us : List ℤ) (r : List ℕ) → (get_or us 1 (pos 0) ≡ pos (le32 s 4) → ⊥)
      → (reading s us r).table ≡ set us 1 (pos (le32 r 4))) → ⊥
  once_only = works_at_the_first_reading reading reads

  -- paper 02, No. 2
  telling_none : ((s : List ℕ) (us : List ℤ) (r : List ℕ) → (reading s us r).number ≡ 0
      → (reading s us r).forecast ≡ no_breach) → ⊥
  telling_none = none_always reading reads

  telling_of_before : ((s : List ℕ) (us : List ℤ) (r : List ℕ) → (reading s us r).number ≡ 0
      → (reading s us r).forecast ≡ forecast_of s us) → ⊥
  telling_of_before = table_before reading reads

  telling_refused : ((s : List ℕ) (us : List ℤ) (r : List ℕ)
      → (reading s us r).forecast ≡ forecast_of s (reading s us r).table) → ⊥
  telling_refused = refusals_told reading reads

-- paper 02, No. 7
module _ (check : List ℕ → CheckAnswer) (checks : (s : List ℕ) → check s ≡ check_of s) where
  never_fifteen : ((s : List ℕ) → (check s).number ≢ 15) → ⊥
  never_fifteen = fifteen_never check checks

  refusing_sized : ((s : List ℕ) → sized (agreement_of s) ≡ true → (check s).number ≢ 0) → ⊥
  refusing_sized = sized_refused check checks

-- paper 02, No. 6
module _ (preview : List ℕ → List ℤ → List ℤ → List ℕ → ReadingAnswer)
    (previews : (s : List ℕ) (us vs : List ℤ) (r : List ℕ) → preview s us vs r ≡ preview_of s us vs r) where
  refusing_every_preview : ((s : List ℕ) (us vs : List ℤ) (r : List ℕ) → (preview s us vs r).number ≡ 0 → ⊥) → ⊥
  refusing_every_preview = refuses_all_previews preview previews

  writing_nothing : ((s : List ℕ) (us vs : List ℤ) (r : List ℕ) → (preview s us vs r).table ≡ vs) → ⊥
  writing_nothing = second_left_alone preview previews

  writing_the_first : ((s : List ℕ) (us vs : List ℤ) (r : List ℕ) → (preview s us vs r).number ≡ 0
      → (preview s us vs r).table ≡ us) → ⊥
  writing_the_first = first_copied preview previews

  writing_refused : ((s : List ℕ) (us vs : List ℤ) (r : List ℕ)
      → (preview s us vs r).table ≡ (reading_of s us r).table) → ⊥
  writing_refused = refusal_written preview previews

checks_apart : (r : Checked) → checked_by (check_answer r) ≡ r
checks_apart = check_told

starts_apart : (r : Started) (table : List ℤ) → started_by (start_answer r table) ≡ r
starts_apart = start_told

readings_apart : (r : TakenOrRefused) (table : List ℤ) → taken_by (taken_answer r table) ≡ r
readings_apart = reading_told

-- and whatever is lent, none or a breach by some party is told with 0, nothing with a refusal
start_tells : (s : List ℕ) (us : List ℤ) → Bytes s → Plain (start_of s us).number (start_of s us).forecast
start_tells = start_plain

reading_tells : (s : List ℕ) (us : List ℤ) (r : List ℕ) → Bytes r
    → Plain (reading_of s us r).number (reading_of s us r).forecast
reading_tells = reading_plain

preview_tells : (s : List ℕ) (us vs : List ℤ) (r : List ℕ) → Bytes r
    → Plain (preview_of s us vs r).number (preview_of s us vs r).forecast
preview_tells = preview_plain

no_forecast_never : (n : ℕ) → Plain n no_forecast → ⊥
no_forecast_never n h = h
