-- The forecast, one claim about every list of accepted marks; proofs/Forecasts.antt proves it (`forecasts`).
-- "the forecast is what would follow if only time went on": marks and nothing else come after it.
-- Paper 02, No. 2: "What was said of a forecast now belongs to the joined answers."
use Rattle.std.specs.Prelude.{◌≡◌, ◌⊎◌, List, [], ◌∷◌, ◌++◌, ℕ, ◌≤◌, ◌<◌, T, ℤ}
use Rattle.csl.specs.Parties.{members, subset}
use Rattle.csl.specs.Syntax.{Agreement}
use Rattle.csl.specs.Check.{checked, accepted}
use Rattle.csl.specs.Entries.{Forecast, no_breach, breach_at, forecast_of, start_of, reading_of}
use Rattle.csl.specs.Demand3.{AllBytes, Bytes}
use Rattle.csl.specs.Marks.{IsMark, time_in, AllTimes, Breached, breach_table, ForecastFits}
use Rattle.monitor.specs.Answers.{Started, start_answer, taken_answer}
use Rattle.monitor.specs.Calls.{Call, Calls, last_table, readings_in, number_in, forecast_in}
use Rattle.monitor.specs.Preview.{Preview, Previews, answer_in}

unfoldable pub AcceptedMarks : Agreement → List Call → Type 0
AcceptedMarks a [] = Unit {0}
AcceptedMarks a (c ∷ cs) = IsMark a c.bytes × (number_in c ≡ 0) × AcceptedMarks a cs

-- of agreement a, whose main clause's parties are `mains`: f is the forecast before the marks, f' the one after them
pub record Foretells (a : Agreement) (mains : List ℕ) (us : List ℤ) (f : Forecast) (marks : List Call) (f' : Forecast)
    : Type 0 where
  -- it is none, or a breach that names only parties that can be blamed
  pub fits : ForecastFits a mains f
  -- "A breached table gives its verdict.", and no mark alters it
  pub verdict : Breached us
      → (now : ℕ) × (moved : ℕ) × (t : ℕ) × (b : ℕ) × (us ≡ breach_table now moved t b) × (f ≡ breach_at t b)
      × (last_table us marks ≡ us)
  -- "with forecast none, no mark breaches", and none it stays
  pub never : f ≡ no_breach → (Breached (last_table us marks) → ⊥) × (f' ≡ no_breach)
  -- while all marks are earlier than the forecast time: no breach, and the forecast stays as it was
  pub not_yet : (t b : ℕ) → f ≡ breach_at t b → (Breached us → ⊥)
      → AllTimes (λ time. time < t) (readings_in marks)
      → (Breached (last_table us marks) → ⊥) × (f' ≡ f)
  -- while none is later, so also at the very forecast minute: the same, or a breach at that time by some of its parties
  pub at_once : (t b : ℕ) → f ≡ breach_at t b → (Breached us → ⊥)
      → AllTimes (λ time. time ≤ t) (readings_in marks)
      → ((Breached (last_table us marks) → ⊥) × (f' ≡ f))
      ⊎ ((c : ℕ) × (last_table us marks ≡ breach_table t t t c) × (0 < c) × T (subset (members c) (members b)))
  -- "An accepted mark later than a forecast time gives just that breach": the first later one, and the breach stays
  pub given : (t b : ℕ) → f ≡ breach_at t b
      → (before : List Call) (one : Call) (later : List Call) → marks ≡ before ++ (one ∷ later)
      → (Breached (last_table us before) → ⊥) → t < time_in one.bytes
      → (last_table us marks ≡ breach_table (time_in one.bytes) (time_in one.bytes) t b) × (f' ≡ f)

-- an accepted call on agreement s left the table us and told the forecast f: a start, or a reading or a preview on
-- whatever table, reached by readings or made by hand
pub data Told (s : List ℕ) (us : List ℤ) (f : Forecast) : Type 0 where
  by_start : (lent : List ℤ) (r : Started)
      → start_answer r us ≡ start_of s lent → (start_answer r us).number ≡ 0 → f ≡ (start_answer r us).forecast
      → Told s us f
  by_reading : (lent : List ℤ) (one : Call) → Bytes one.bytes
      → taken_answer one.answer one.left ≡ reading_of s lent one.bytes → number_in one ≡ 0
      → us ≡ one.left → f ≡ forecast_in one → Told s us f
  by_preview : (first : List ℤ) (p : Preview) → Bytes p.bytes → Previews s first p → (answer_in p).number ≡ 0
      → us ≡ p.left → f ≡ (answer_in p).forecast → Told s us f

-- the forecast that the last of them told
unfoldable pub last_forecast : Forecast → List Call → Forecast
last_forecast f [] = f
last_forecast f (c ∷ cs) = last_forecast (forecast_in c) cs

-- for every accepted agreement and every accepted call: what it told is the forecast of the table that it left, and
-- foretells every list of accepted marks; the calls are what their contracts say of them
unfoldable pub ForecastClaim : Type 0
ForecastClaim =
    (s : List ℕ) (a : Agreement) (mains : List ℕ) (us : List ℤ) (f : Forecast) (marks : List Call)
    → Bytes s → checked s ≡ accepted a mains → Told s us f
    → AllBytes (readings_in marks) → Calls s us marks → AcceptedMarks a marks
    → (f ≡ forecast_of s us) × Foretells a mains us f marks (last_forecast f marks)
