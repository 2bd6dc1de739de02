-- The forecast's claim, spelled out sentence by sentence: each is what `monitor`'s theorem says.
use mathlib.Core.Path.{◌≡◌, refl}
use mathlib.Core.Logic.{◌⊎◌}
use mathlib.Core.List.{List, ◌∷◌, ◌++◌}
use mathlib.Core.Option.{some}
use Prim.Native.Nat.{ℕ, ◌≤◌, ◌<◌}
use lib.Dec.{T}
use lib.IntN.{ℤ, pos}
use Rattle.csl.specs.Lists.{at}
use Rattle.csl.specs.Parties.{members, subset}
use Rattle.csl.specs.Syntax.{Agreement}
use Rattle.csl.specs.Check.{checked, accepted}
use Rattle.csl.specs.Entries.{Forecast, no_breach, breach_at, forecast_of, reading_of, start_of}
use Rattle.csl.specs.Preview.{preview_of}
use Rattle.csl.specs.Demand3.{AllBytes, Bytes}
use Rattle.csl.specs.Marks.{AllTimes, Breached, ForecastFits, breach_table, time_in}
use Rattle.monitor.specs.Answers.{Started, start_answer, taken_answer}
use Rattle.monitor.specs.Calls.{Call, Calls, forecast_in, last_table, number_in, readings_in}
use Rattle.monitor.specs.Forecasts.{AcceptedMarks, ForecastClaim, Foretells, Told, by_preview, by_reading}
use Rattle.monitor.specs.Forecasts.{by_start, last_forecast}
use Rattle.monitor.specs.Preview.{Preview, Previews, answer_in}
use Rattle.monitor.proofs.Forecasts.{forecasts}

breached_is_three : (us : List ℤ) → at us 0 ≡ some (pos 3) → Breached us
unfolding Breached
breached_is_three us e = e

-- what tells a forecast: an accepted start, and an accepted reading or preview on whatever table
started_told : (s : List ℕ) (lent us : List ℤ) (r : Started) → start_answer r us ≡ start_of s lent
    → (start_answer r us).number ≡ 0 → Told s us (start_answer r us).forecast
started_told s lent us r made zero = by_start lent r made zero refl

reading_told : (s : List ℕ) (lent : List ℤ) (one : Call) → Bytes one.bytes
    → taken_answer one.answer one.left ≡ reading_of s lent one.bytes → number_in one ≡ 0
    → Told s one.left (forecast_in one)
reading_told s lent one all made zero = by_reading lent one all made zero refl refl

preview_told : (s : List ℕ) (first : List ℤ) (p : Preview) → Bytes p.bytes
    → taken_answer p.answer p.left ≡ preview_of s first p.second p.bytes → (taken_answer p.answer p.left).number ≡ 0
    → Told s p.left (taken_answer p.answer p.left).forecast
unfolding Previews answer_in
preview_told s first p all made zero = by_preview first p all made zero refl refl

-- for every accepted agreement, every forecast told and every list of accepted marks after it
module _ (s : List ℕ) (a : Agreement) (mains : List ℕ) (us : List ℤ) (f : Forecast) (marks : List Call)
    (bytes : Bytes s) (acc : checked s ≡ accepted a mains) (told : Told s us f) (all : AllBytes (readings_in marks))
    (made : Calls s us marks) (taken : AcceptedMarks a marks) where
  abbrev f' : Forecast
  f' = last_forecast f marks

  both_lem : (f ≡ forecast_of s us) × Foretells a mains us f marks f'
  unfolding ForecastClaim
  both_lem = forecasts s a mains us f marks bytes acc told all made taken

  claim : Foretells a mains us f marks f'
  claim = both_lem.1

  of_the_table_left : f ≡ forecast_of s us
  of_the_table_left = both_lem.0

  fits : ForecastFits a mains f
  fits = claim.fits

  verdict : Breached us
      → (now : ℕ) × (moved : ℕ) × (t : ℕ) × (b : ℕ) × (us ≡ breach_table now moved t b) × (f ≡ breach_at t b)
      × (last_table us marks ≡ us)
  verdict = claim.verdict

  never : f ≡ no_breach → (Breached (last_table us marks) → ⊥) × (f' ≡ no_breach)
  never = claim.never

  not_yet : (t b : ℕ) → f ≡ breach_at t b → (Breached us → ⊥) → AllTimes (λ time. time < t) (readings_in marks)
      → (Breached (last_table us marks) → ⊥) × (f' ≡ f)
  not_yet = claim.not_yet

  at_once_lem : (t b : ℕ) → f ≡ breach_at t b → (Breached us → ⊥) → AllTimes (λ time. time ≤ t) (readings_in marks)
      → ((Breached (last_table us marks) → ⊥) × (f' ≡ f))
      ⊎ ((c : ℕ) × (last_table us marks ≡ breach_table t t t c) × (0 < c) × T (subset (members c) (members b)))
  at_once_lem = claim.at_once

  given : (t b : ℕ) → f ≡ breach_at t b
      → (before : List Call) (one : Call) (later : List Call) → marks ≡ before ++ (one ∷ later)
      → (Breached (last_table us before) → ⊥) → t < time_in one.bytes
      → (last_table us marks ≡ breach_table (time_in one.bytes) (time_in one.bytes) t b) × (f' ≡ f)
  given = claim.given
