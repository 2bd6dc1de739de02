-- Calls of `reading` one after another on one lent table, as the entry's contract in src/lib.rt says them.
use Rattle.std.specs.Prelude.{◌≡◌, List, [], ◌∷◌, ℕ, ℤ}
use Rattle.csl.specs.Entries.{Forecast, reading_of}
use Rattle.monitor.specs.Answers.{TakenOrRefused, taken_answer}

-- one call: the reading's bytes, the answer, and the table it left
pub record Call : Type 0 where
  pub bytes : List ℕ
  pub answer : TakenOrRefused
  pub left : List ℤ

-- each call meets the contract of `reading`, for agreement s and the table that the call before left
unfoldable pub Calls : List ℕ → List ℤ → List Call → Type 0
Calls s us [] = Unit {0}
Calls s us (c ∷ cs) = (taken_answer c.answer c.left ≡ reading_of s us c.bytes) × Calls s c.left cs

-- the table that the last of them left
unfoldable pub last_table : List ℤ → List Call → List ℤ
last_table us [] = us
last_table us (c ∷ cs) = last_table c.left cs

-- the readings, and the numbers answered
unfoldable pub readings_in : List Call → List (List ℕ)
readings_in [] = []
readings_in (c ∷ cs) = c.bytes ∷ readings_in cs

unfoldable pub number_in : Call → ℕ
number_in c = (taken_answer c.answer c.left).number

unfoldable pub numbers_in : List Call → List ℕ
numbers_in [] = []
numbers_in (c ∷ cs) = number_in c ∷ numbers_in cs

-- the forecasts told
unfoldable pub forecast_in : Call → Forecast
forecast_in c = (taken_answer c.answer c.left).forecast

unfoldable pub forecasts_in : List Call → List Forecast
forecasts_in [] = []
forecasts_in (c ∷ cs) = forecast_in c ∷ forecasts_in cs

-- and the marks
unfoldable pub early_in : Call → ℕ
early_in c = (taken_answer c.answer c.left).early

unfoldable pub marks_in : List Call → List ℕ
marks_in [] = []
marks_in (c ∷ cs) = early_in c ∷ marks_in cs

-- and what the readings cost
unfoldable pub cost_in : Call → ℕ
cost_in c = (taken_answer c.answer c.left).cost

unfoldable pub costs_in : List Call → List ℕ
costs_in [] = []
costs_in (c ∷ cs) = cost_in c ∷ costs_in cs
