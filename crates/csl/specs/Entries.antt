-- Paper 01, "Refusal table": the entries start and reading, on bytes and cells. (check stands in Check.)
-- "Check uses 1 to 5, start 1 to 6 and 11, [..] a reading all."; a refusal leaves the table. 15 (paper 02, No. 7) is
-- among what check says.
-- Paper 02, No. 2: both answer with the forecast of the table they leave.
use Rattle.std.specs.Prelude.{Bool, true, false, List, ℕ, zero, suc, eqb, ℤ, length}
use Rattle.std.proofs.Math.Option.{none, some}
use Rattle.csl.specs.Parties.{bits_of}
use Rattle.csl.specs.Syntax.{Agreement}
use Rattle.csl.specs.Check.{refused, accepted, checked}
use Rattle.csl.specs.Outcomes.{Outcome, done, breach, running, stuck}
use Rattle.csl.specs.Rules.{forecast}
use Rattle.csl.specs.Run.{Stepped, started, step}
use Rattle.csl.specs.Early.{came_early, mark_of}
use Rattle.csl.specs.Cost.{cost_of}
use Rattle.csl.specs.Table.{Run, table_length, table_of, run_of}

-- a number, and the table afterwards
pub record Answer : Type 0 where
  pub number : ℕ
  pub table : List ℤ

-- a reading's, with whether it came too early and what it cost: paper 02, Nos. 8 and 9
pub record ReadAnswer : Type 0 where
  pub number : ℕ
  pub early : ℕ
  pub cost : ℕ
  pub table : List ℤ

unfoldable pub answered : ℕ → ℕ → Answer → ReadAnswer
answered early cost x = record { number = x.number; early = early; cost = cost; table = x.table }

unfoldable pub refusal : ℕ → List ℤ → Answer
refusal n cells = record { number = n; table = cells }

unfoldable pub written : List ℤ → Stepped → Answer
written cells s = elim s.number [
  | zero ↦ record { number = 0; table = table_of s.run }
  | suc n ↦ refusal s.number cells
]

-- "table not 3,080 cells" is 6
unfoldable pub is_table : List ℤ → Bool
is_table cells = eqb (length cells) table_length

-- ---- what a start and a reading do
-- "Start ignores the table's earlier contents."
unfoldable pub begun_of : List ℕ → List ℤ → Answer
begun_of bytes cells = elim (checked bytes) [
  | refused n ↦ refusal n cells
  | accepted a ps ↦ elim (is_table cells) [ false ↦ refusal 6 cells | true ↦ written cells (started a) ]
]

unfoldable pub read_of : List ℕ → List ℤ → List ℕ → ReadAnswer
read_of bytes cells reading = elim (checked bytes) [
  | refused n ↦ answered 0 0 (refusal n cells)
  | accepted a ps ↦ elim (is_table cells) [
    | false ↦ answered 0 0 (refusal 6 cells)
    | true ↦ elim (run_of a ps cells) [
      | none ↦ answered 0 0 (refusal 7 cells)
      | some r ↦ answered (mark_of (came_early a r reading)) (cost_of a r reading) (written cells (step a r reading))
    ]
  ]
]

-- ---- the forecast of a table: a time and parties by bit, or none
-- `untold` stands for a refusal's, `no_forecast` for what `soundness` shows to be impossible
pub data Forecast : Type 0 where
  no_breach : Forecast
  breach_at : ℕ → ℕ → Forecast
  untold : Forecast
  no_forecast : Forecast

unfoldable pub shown : Outcome → Forecast
shown done = no_breach
shown (breach t ps) = breach_at t (bits_of ps)
shown (running r) = no_forecast
shown stuck = no_forecast

-- "A breached table gives its verdict."
unfoldable pub forecast_run : Agreement → Run → Outcome
forecast_run a r = elim r.outcome [
  | done ↦ done
  | breach t ps ↦ breach t ps
  | running res ↦ forecast a res
  | stuck ↦ stuck
]

unfoldable pub forecast_of : List ℕ → List ℤ → Forecast
forecast_of bytes cells = elim (checked bytes) [
  | refused n ↦ no_forecast
  | accepted a ps ↦ elim (run_of a ps cells) [ none ↦ no_forecast | some r ↦ shown (forecast_run a r) ]
]

-- ---- paper 02, No. 2
-- "the forecast of the table they leave; a refusal gives zeros for it"
unfoldable pub told_of : List ℕ → ℕ → List ℤ → Forecast
told_of bytes zero left = forecast_of bytes left
told_of bytes (suc n) left = untold

pub record StartAnswer : Type 0 where
  pub number : ℕ
  pub forecast : Forecast
  pub table : List ℤ

pub record ReadingAnswer : Type 0 where
  pub number : ℕ
  pub forecast : Forecast
  pub early : ℕ
  pub cost : ℕ
  pub table : List ℤ

unfoldable pub start_of : List ℕ → List ℤ → StartAnswer
start_of bytes cells =
    let x = begun_of bytes cells in
    record { number = x.number; forecast = told_of bytes x.number x.table; table = x.table }

unfoldable pub reading_of : List ℕ → List ℤ → List ℕ → ReadingAnswer
reading_of bytes cells reading =
    let x = read_of bytes cells reading in record {
      number = x.number;
      forecast = told_of bytes x.number x.table;
      early = x.early;
      cost = x.cost;
      table = x.table;
    }

-- what a proof by computation unfolds
unfoldable pub computes : Unit {0}
unfolding answered refusal written is_table begun_of read_of shown forecast_run forecast_of told_of start_of
    reading_of
computes = tt
