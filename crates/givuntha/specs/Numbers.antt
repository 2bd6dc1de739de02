-- What a caller in C gets of a start and of a reading: numbers, and the table. (What check answers is numbers already.)
-- `proofs/Apart` shows that no two answers share them.
use Rattle.std.specs.Prelude.{List, ℕ, ℤ}
use Rattle.csl.specs.Entries.{Forecast, no_breach, breach_at, untold, no_forecast, StartAnswer, ReadingAnswer}

-- ---- of a forecast: a breach's time, and its parties by bit
pub record ForecastNumbers : Type 0 where
  pub time : ℕ
  pub parties : ℕ

-- no breach is no party, since a breach has one; "a refusal gives zeros for it"; `no_forecast`, which never occurs, has
-- numbers that no answer has
abbrev pub forecast_numbers : Forecast → ForecastNumbers
forecast_numbers no_breach = record { time = 0; parties = 0 }
forecast_numbers (breach_at t b) = record { time = t; parties = b }
forecast_numbers untold = record { time = 0; parties = 0 }
forecast_numbers no_forecast = record { time = 1; parties = 0 }

-- ---- of a start and of a reading: the number tells a refusal from no breach
pub record StartNumbers : Type 0 where
  pub number : ℕ
  pub time : ℕ
  pub parties : ℕ
  pub table : List ℤ

pub record ReadingNumbers : Type 0 where
  pub number : ℕ
  pub time : ℕ
  pub parties : ℕ
  pub early : ℕ
  pub cost : ℕ
  pub table : List ℤ

abbrev pub start_numbers : StartAnswer → StartNumbers
start_numbers a = record {
  number = a.number;
  time = (forecast_numbers a.forecast).time;
  parties = (forecast_numbers a.forecast).parties;
  table = a.table;
}

abbrev pub reading_numbers : ReadingAnswer → ReadingNumbers
reading_numbers a = record {
  number = a.number;
  time = (forecast_numbers a.forecast).time;
  parties = (forecast_numbers a.forecast).parties;
  early = a.early;
  cost = a.cost;
  table = a.table;
}
