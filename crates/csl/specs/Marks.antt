-- The words of the forecast's claim: time marks, the table of a breach, and what a forecast may name.
-- The claim itself stands in monitor/specs/Forecasts, of calls of the entries; `soundness` proves what it rests on.
use Rattle.std.specs.Prelude.{◌≡◌, List, [], ◌∷◌, ℕ, ◌≤◌, ◌<◌, T, ℤ, pos}
use Rattle.std.proofs.Math.Option.{some}
use Rattle.csl.specs.Lists.{at}
use Rattle.csl.specs.Bytes.{le32}
use Rattle.csl.specs.Parties.{members, subset}
use Rattle.csl.specs.Syntax.{Agreement}
use Rattle.csl.specs.Rules.{Reading}
use Rattle.csl.specs.Table.{padded, head_cells, table_length}
use Rattle.csl.specs.Entries.{Forecast, no_breach, breach_at, untold, no_forecast}
use Rattle.csl.specs.Demand3.{fitting}

-- "Reading type 0 is a time mark without values"
unfoldable pub IsMark : Agreement → List ℕ → Type 0
IsMark a bytes = (d : Reading) × (fitting a bytes ≡ some d) × (d.type ≡ 0)

-- the time that a reading's bytes give
unfoldable pub time_in : List ℕ → ℕ
time_in bytes = le32 bytes 4

-- something of all their times
unfoldable pub AllTimes : (ℕ → Type 0) → List (List ℕ) → Type 0
AllTimes P [] = Unit {0}
AllTimes P (m ∷ ms) = P (time_in m) × AllTimes P ms

-- the state cell is 3
unfoldable pub Breached : List ℤ → Type 0
Breached cells = at cells 0 ≡ some (pos 3)

-- the table of a breach: last reading time, when the run last moved, breach time, parties by bit
unfoldable pub breach_table : ℕ → ℕ → ℕ → ℕ → List ℤ
breach_table now moved t b = padded table_length (head_cells 3 now t b 0 moved)

-- one is told: none, or a breach by at least one party, only by the main clause's, not before the start
unfoldable pub ForecastFits : Agreement → List ℕ → Forecast → Type 0
ForecastFits a mains no_breach = Unit {0}
ForecastFits a mains (breach_at t b) = (0 < b) × T (subset (members b) mains) × (a.start ≤ t)
ForecastFits a mains untold = ⊥
ForecastFits a mains no_forecast = ⊥
