-- Trials of paper 02, No. 6, by computation, as one claim over a list: what a preview answers, and what it leaves in
-- the second table.
use Rattle.std.specs.Prelude.{List, [], ◌∷◌, ◌++◌, map, ℕ, zero, suc, ℤ, pos, negsuc, replicate, take}
use Prim.Native.String.{String}
use Rattle.csl.specs.Entries.{Forecast, no_breach, breach_at}
use Rattle.csl.specs.Preview.{preview_of}
use Rattle.csl.specs.Build.{yes', simply, any', record_of, reading, mark, sample, zeros, join_unit, running_table}
use Rattle.csl.specs.Build.{fulfilled_table, breached_table}
use Rattle.csl.specs.Trials.{Trial, Seen, answers, owed, chosen, pair, doubling, doubled}
use Rattle.csl.specs.Further.{shows, one, asking, main, ever, since}
use Rattle.csl.specs.TooEarly.{soon, shut}
use Rattle.csl.specs.Costs.{asked, told, denied}
use Rattle.csl.specs.Joined.{waiting, broken, else_ahead, names_itself, over_wide}

-- ---- second tables
-- from −n up to −1
unfoldable pub ascending : ℕ → List ℤ
ascending zero = []
ascending (suc n) = negsuc n ∷ ascending n

-- zeros, a copy of the first table of many trials, another run's, a damaged one, numbers that are no table's
unfoldable pub second_tables : List (List ℤ)
second_tables =
    zeros ∷ waiting 110 ∷ running_table 200 150 (doubled 150 2) ∷ running_table 110 100 [] ∷ ascending 3080 ∷ []

-- of a wrong length: a cell too few, one too many, none
unfoldable pub misfits : List (List ℤ)
misfits = ascending 3079 ∷ ascending 3081 ∷ [] ∷ []

-- ---- forms of a trial
-- a preview of the reading with each of these second tables
unfoldable pub previews : List (List ℤ) → List ℕ → List ℤ → List ℕ → List Seen
previews ss b us r = map (λ s. answers (preview_of b us s r)) ss

-- accepted: one outcome, whatever the second table held
unfoldable pub overwrites : String → List ℕ → List ℤ → List ℕ → Seen → Trial
overwrites n b us r e = shows n (previews second_tables b us r) (replicate 5 e)

-- refused at no cost: each second table as it was
unfoldable pub keeps : String → ℕ → List ℕ → List ℤ → List ℕ → Trial
keeps n k b us r = shows n (previews second_tables b us r) (map (denied k 0) second_tables)

-- the same with second tables of a wrong length
unfoldable pub misses : String → ℕ → List ℕ → List ℤ → List ℕ → Trial
misses n k b us r = shows n (previews misfits b us r) (map (denied k 0) misfits)

-- accepted, and too early
unfoldable pub told_early : Forecast → ℕ → List ℤ → Seen
told_early f cost us = answers (record { number = 0; forecast = f; early = 1; cost = cost; table = us })

-- ---- first tables
-- P15's before its last reading
unfoldable pub crowded : List ℤ
crowded = running_table 106 106 (doubled 106 6)

-- what the reading at 110 of an obligation that begins anew leaves in a second table
unfoldable pub foreseen : List ℤ
foreseen = (preview_of ever (running_table 105 100 (since 100)) zeros (reading 110 (pos 1))).table

unfoldable pub previewed : List Trial
previewed =
    overwrites "a mark: only the time moves" sample (waiting 110) (mark 120) (told (breach_at 160 1) 1 (waiting 120))
    ∷ overwrites "a mark in the minute of the last reading: the first table, cell for cell" sample (waiting 110)
    (mark 110) (told (breach_at 160 1) 1 (waiting 110))
    ∷ overwrites "a reading that alters nothing" sample (waiting 110) (reading 120 (pos 240))
    (told (breach_at 160 1) 1 (waiting 120))
    ∷ overwrites "a reading that alters: what lies ahead afterwards, not before" ever
    (running_table 105 100 (since 100)) (reading 110 (pos 1))
    (told (breach_at 170 1) 3 (running_table 110 110 (since 110)))
    ∷ overwrites "more units than before" doubling (running_table 101 101 (doubled 101 1)) (reading 102 (pos 0))
    (told (breach_at 162 1) 13 (running_table 102 102 (doubled 102 2)))
    ∷ overwrites "fewer units than before" (main (any' (simply 0 (pos 50)) (simply 0 (pos 60))))
    (running_table 110 100 (pair 21)) (mark 155) (told (breach_at 160 1) 3 (running_table 155 155 (owed 52 100 ∷ [])))
    ∷ overwrites "a late choice's else waits" else_ahead (running_table 110 100 (chosen 17 100 ∷ [])) (mark 151)
    (told (breach_at 180 2) 4 (running_table 151 151 (join_unit 21 ∷ owed 51 150 ∷ owed 82 150 ∷ [])))
    ∷ overwrites "a reading that comes too early" (main (soon yes')) (shut 110).table (reading 129 (pos 1))
    (told_early (breach_at 190 1) 1 (shut 129).table)
    ∷ overwrites "a reading that fulfils" sample (waiting 110) (reading 160 (pos 250))
    (told no_breach 2 (fulfilled_table 160 160))
    ∷ overwrites "a reading that breaches" sample (waiting 110) (mark 161) (told (breach_at 160 1) 1 broken)
    ∷ overwrites "a fulfilled table: only the time moves" sample (fulfilled_table 160 150) (reading 170 (pos 250))
    (told no_breach 0 (fulfilled_table 170 150))
    ∷ overwrites "a breached table: the first table, cell for cell" sample broken (reading 170 (pos 250))
    (told (breach_at 160 1) 0 broken)
    ∷ keeps "refused with 1" 1 [] (waiting 110) (mark 120)
    ∷ keeps "refused with 2" 2 (record_of 1 []) (waiting 110) (mark 120)
    ∷ keeps "refused with 3" 3 (main (asking one)) (waiting 110) (mark 120)
    ∷ keeps "refused with 4" 4 names_itself broken (mark 170)
    ∷ keeps "refused with 5" 5 over_wide (fulfilled_table 160 160) (mark 170)
    ∷ keeps "refused with 6: the first table has a cell too few" 6 sample (take 3079 (waiting 110)) (mark 120)
    ∷ keeps "refused with 6: the first table has one too many" 6 sample (pos 1 ∷ waiting 110) (mark 120)
    ∷ keeps "refused with 7: the first table is damaged" 7 sample (running_table 110 100 []) (mark 120)
    ∷ keeps "refused with 8" 8 sample (waiting 110) []
    ∷ keeps "refused with 9" 9 sample (waiting 110) (reading 120 (pos 2_000_000_000))
    ∷ keeps "refused with 10" 10 sample (waiting 110) (mark 109)
    ∷ keeps "refused with 10 on a fulfilled table" 10 sample (fulfilled_table 160 160) (mark 159)
    ∷ keeps "refused with 10 on a breached table" 10 sample broken (mark 160)
    ∷ shows "refused with 11: its cost is told, and what lies ahead is not"
    (previews second_tables doubling crowded (reading 107 (pos 0))) (map (denied 11 447) second_tables)
    ∷ misses "6 by the second table" 6 sample (waiting 110) (mark 120)
    ∷ misses "6 by both tables" 6 sample (take 3079 (waiting 110)) (mark 120)
    ∷ misses "6 on a breached table" 6 sample broken (mark 170)
    ∷ misses "6 where the reading comes too early" 6 (main (soon yes')) (shut 110).table (reading 129 (pos 1))
    ∷ misses "1 before 6 by the second table" 1 [] (waiting 110) (mark 120)
    ∷ misses "2 before it" 2 (record_of 1 []) (waiting 110) (mark 120)
    ∷ misses "3 before it" 3 (main (asking one)) (waiting 110) (mark 120)
    ∷ misses "4 before it" 4 names_itself broken (mark 170)
    ∷ misses "5 before it" 5 over_wide (fulfilled_table 160 160) (mark 170)
    ∷ misses "6 by the second table before 7" 6 sample zeros (mark 120)
    ∷ misses "before 8" 6 sample (waiting 110) []
    ∷ misses "before 9" 6 sample (waiting 110) (reading 120 (pos 2_000_000_000))
    ∷ misses "before 10" 6 sample (waiting 110) (mark 109)
    ∷ misses "before 11, and at no cost" 6 doubling crowded (reading 107 (pos 0))
    ∷ shows "the reading itself afterwards, on the first table: the same answer"
    (previews second_tables ever (running_table 105 100 (since 100)) (reading 110 (pos 1))
    ++ (asked ever (running_table 105 100 (since 100)) (reading 110 (pos 1)) ∷ []))
    (replicate 6 (told (breach_at 170 1) 3 (running_table 110 110 (since 110))))
    ∷ shows "the second table then stands for the first: a preview of the mark after it, and that mark"
    (previews second_tables ever foreseen (mark 171) ++ (asked ever foreseen (mark 171) ∷ []))
    (replicate 6 (told (breach_at 170 1) 1 (breached_table 171 171 170 1)))
    ∷ []
