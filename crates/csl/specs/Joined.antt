-- Trials of paper 02, No. 2, by computation, as one claim over a list: what a start and a reading tell of the table
-- that they leave, and that a refusal tells nothing.
use Rattle.std.specs.Prelude.{List, [], ◌∷◌, ◌++◌, map, ℕ, ℤ, pos, negsuc, take}
use Rattle.csl.specs.Check.{CheckResult, refused, accepted, checked}
use Rattle.csl.specs.Run.{started}
use Rattle.csl.specs.Entries.{Forecast, no_breach, breach_at, untold, start_of, reading_of}
use Rattle.csl.specs.Demand3.{forecasts_by}
use Rattle.csl.specs.Build.{yes', nothing, simply, may, all', any', agreement, reading, mark, sample, zeros}
use Rattle.csl.specs.Build.{running_table, fulfilled_table, breached_table, unit_of}
use Rattle.csl.specs.Trials.{Trial, Seen, counts, forecasts, doubling, doubled}
use Rattle.csl.specs.Further.{shows, next, ever, since, crowd, main, template, beside, call, ladder, wide}

-- a number and a forecast
unfoldable pub pairs : ℕ → Forecast → List Seen → List Seen
pairs n f more = counts n ∷ forecasts f ∷ more

unfoldable pub starts : List ℕ → List ℤ → List Seen → List Seen
starts b us more = let x = start_of b us in pairs x.number x.forecast more

unfoldable pub reads' : List ℕ → List ℤ → List ℕ → List Seen → List Seen
reads' b us r more = let x = reading_of b us r in pairs x.number x.forecast more

-- by the words of demand 3, from the start
unfoldable pub told_from : CheckResult → List (List ℕ) → List Seen
told_from (refused n) rs = []
told_from (accepted ag ps) rs = map forecasts (forecasts_by ag (started ag).run rs)

-- the sample as it waits since 100, and as it was breached
unfoldable pub waiting : ℕ → List ℤ
waiting now = running_table now 100 (unit_of 17 17 100 [] [] ∷ [])

unfoldable pub broken : List ℤ
broken = breached_table 161 161 160 1

-- party 0 within −5 and party 1 within 0: both breaches lie at 100, and a mark there finds the first one late
unfoldable pub both_now : List ℕ
both_now = main (all' (simply 0 (negsuc 4)) (simply 1 (pos 0)))

-- a late choice's else is what lies ahead
unfoldable pub else_ahead : List ℕ
else_ahead = main (may yes' (pos 0) (pos 50) nothing (any' (simply 1 (pos 20)) (simply 1 (pos 30))))

-- refused with 4 and with 5
unfoldable pub names_itself : List ℕ
names_itself = beside (template 0 (call 0) ∷ [])

unfoldable pub over_wide : List ℕ
over_wide = agreement ladder (wide (all' nothing nothing))

unfoldable pub joined_trials : List Trial
joined_trials =
    shows "a start, whatever the table was" (starts sample broken (starts sample (fulfilled_table 120 100) []))
    (pairs 0 (breach_at 160 1) (pairs 0 (breach_at 160 1) []))
    ∷ shows "a start that leaves nothing to wait for" (starts (main nothing) zeros []) (pairs 0 no_breach [])
    ∷ shows "a start that is refused: 1, 6, 11, whatever lies ahead in the table"
    (starts [] (waiting 110) (starts sample (take 3079 zeros) (starts crowd (waiting 110) [])))
    (pairs 1 untold (pairs 6 untold (pairs 11 untold [])))
    ∷ shows "a reading that waits on, and a mark: the same as before"
    (reads' sample (waiting 100) (reading 110 (pos 240)) (reads' sample (waiting 110) (mark 160) []))
    (pairs 0 (breach_at 160 1) (pairs 0 (breach_at 160 1) []))
    ∷ shows "a reading that alters: what lies ahead now, not before"
    (reads' ever (running_table 105 100 (since 100)) (reading 110 (pos 1)) []) (pairs 0 (breach_at 170 1) [])
    ∷ shows "a reading that fulfils, and a mark after it"
    (reads' sample (waiting 110) (reading 160 (pos 250)) (reads' sample (fulfilled_table 160 160) (mark 170) []))
    (pairs 0 no_breach (pairs 0 no_breach []))
    ∷ shows "a reading that breaches, a mark after it: the verdict"
    (reads' sample (waiting 110) (mark 161) (reads' sample broken (mark 170) []))
    (pairs 0 (breach_at 160 1) (pairs 0 (breach_at 160 1) []))
    ∷ shows "a breach in its own minute: by those that are late, of all that lay ahead"
    (starts both_now zeros (reads' both_now (start_of both_now zeros).table (mark 100)
    (reads' both_now (start_of both_now zeros).table (mark 101) [])))
    (pairs 0 (breach_at 100 3) (pairs 0 (breach_at 100 1) (pairs 0 (breach_at 100 3) [])))
    ∷ shows "a choice's else, and the else that waits"
    (starts else_ahead zeros (reads' else_ahead (start_of else_ahead zeros).table (mark 151) []))
    (pairs 0 (breach_at 180 2) (pairs 0 (breach_at 180 2) []))
    ∷ shows "a reading that is refused: 1, 6, 7, 8, 9, 10, whatever lies ahead in the table"
    (reads' [] (waiting 110) (mark 120) (reads' sample (take 3079 zeros) (mark 120) (reads' sample zeros (mark 120)
    (reads' sample (waiting 110) [] (reads' sample (waiting 110) (reading 120 (pos 2_000_000_000))
    (reads' sample (waiting 110) (mark 109) []))))))
    (pairs 1 untold (pairs 6 untold (pairs 7 untold (pairs 8 untold (pairs 9 untold (pairs 10 untold []))))))
    ∷ shows "a reading that is refused on a breached and on a fulfilled table"
    (reads' sample broken (mark 160) (reads' sample (fulfilled_table 160 160) (mark 159)
    (reads' names_itself broken (mark 170) (reads' over_wide (fulfilled_table 160 160) (mark 170) []))))
    (pairs 10 untold (pairs 10 untold (pairs 4 untold (pairs 5 untold []))))
    ∷ shows "11: neither what lies ahead nor what would"
    (reads' doubling (running_table 106 106 (doubled 106 6)) (reading 107 (pos 0)) []) (pairs 11 untold [])
    ∷ shows "by the words of demand 3"
    (told_from (checked sample) (mark 110 ∷ [] ∷ reading 111 (pos 2_000_000_000) ∷ mark 105 ∷ reading 120 (pos 250)
    ∷ mark 130 ∷ []) ++ told_from (checked (main (next (next nothing)))) (reading 110 (pos 1) ∷ mark 120 ∷ []))
    (map forecasts (breach_at 160 1 ∷ untold ∷ untold ∷ untold ∷ no_breach ∷ no_breach ∷ breach_at 170 1
    ∷ breach_at 170 1 ∷ []))
    ∷ []
