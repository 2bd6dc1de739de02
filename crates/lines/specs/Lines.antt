-- Paper 01, "Pond trials": "Fields: line number (0 is the start), time, word, and for LIVE and BREACH the forecast time
-- and party bits in decimal, or NONE; for REFUSED the number."
use Rattle.std.specs.Prelude.{Bool, true, false, not, List, [], ◌∷◌, ◌++◌, ℕ, zero, suc, ◌+◌, eqb, ℤ, pos, get_or}
use Rattle.csl.specs.Numbers.{eq_z}
use Rattle.csl.specs.Bytes.{le32}
use Rattle.csl.specs.Entries.{StartAnswer, ReadingAnswer, Forecast, no_breach, breach_at, untold, no_forecast}
use Rattle.csl.specs.Entries.{start_of, reading_of}
use Rattle.lines.specs.Text.{decimal, live, done, breach, refused, none, dash, line}

-- "the forecast time and party bits in decimal, or NONE"; an accepted start or reading tells one of the two
unfoldable pub forecast_fields : Forecast → List (List ℕ)
forecast_fields (breach_at t bits) = decimal t ∷ decimal bits ∷ []
forecast_fields no_breach = none ∷ []
forecast_fields untold = []
forecast_fields no_forecast = []

-- the word, by the table's state (2 fulfilled, 1 running, else breached), "and for LIVE and BREACH the forecast"
unfoldable pub state_by : Bool → Bool → Forecast → List (List ℕ)
state_by true isRunning f = done ∷ []
state_by false true f = live ∷ forecast_fields f
state_by false false f = breach ∷ forecast_fields f

unfoldable pub state_fields : ℤ → Forecast → List (List ℕ)
state_fields state f = state_by (eq_z state (pos 2)) (eq_z state (pos 1)) f

unfoldable pub verdict_fields : Forecast → List ℤ → List (List ℕ)
verdict_fields f table = state_fields (get_or table 0 (pos 0)) f

-- "for REFUSED the number"
unfoldable pub refusal_fields : ℕ → List (List ℕ)
refusal_fields number = refused ∷ decimal number ∷ []

-- what an answer says: the verdict of the table that it left, with its forecast, or the refusal
unfoldable pub answer_fields : ℕ → Forecast → List ℤ → List (List ℕ)
answer_fields number f table = elim number [ zero ↦ verdict_fields f table | suc k ↦ refusal_fields (suc k) ]

-- the time of an agreement or a reading, or "`-` as time": both stand behind length and kind
unfoldable pub time_field : Bool → List ℕ → List ℕ
time_field true s = decimal (le32 s 4)
time_field false s = dash

-- ---- the line of a start, from its answer; "A refused start [..] print[s] `-` as time"
unfoldable pub start_time : List ℕ → ℕ → List ℕ
start_time s number = time_field (eqb number 0) s

unfoldable pub start_line : List ℕ → StartAnswer → List ℕ
start_line s a = line 0 (start_time s a.number ∷ answer_fields a.number a.forecast a.table)

-- ---- the line of a reading, from its answer; "a reading refused with 8, print[s] `-` as time"
unfoldable pub reading_time : List ℕ → ℕ → List ℕ
reading_time reading number = time_field (not (eqb number 8)) reading

unfoldable pub reading_line : ℕ → List ℕ → ReadingAnswer → List ℕ
reading_line n reading a = line n (reading_time reading a.number ∷ answer_fields a.number a.forecast a.table)

-- ---- all lines: of the readings, from line n on, and of the whole run
-- "A refused start, and a reading refused with 8, [..] end the run."
unfoldable pub reading_lines : List ℕ → List ℤ → ℕ → List (List ℕ) → List ℕ
reading_lines s cells n [] = []
reading_lines s cells n (b ∷ bs) =
    let a = reading_of s cells b in
    reading_line n b a ++ elim (eqb a.number 8) [ true ↦ [] | false ↦ reading_lines s a.table (n + 1) bs ]

unfoldable pub lines_of : List ℕ → List ℤ → List (List ℕ) → List ℕ
lines_of s cells readings =
    let a = start_of s cells in
    start_line s a ++ elim (eqb a.number 0) [ true ↦ reading_lines s a.table 1 readings | false ↦ [] ]

-- what a proof by computation unfolds
unfoldable pub computes : Unit {0}
unfolding forecast_fields state_by state_fields verdict_fields refusal_fields answer_fields time_field start_time
    start_line reading_time reading_line reading_lines lines_of
computes = tt
