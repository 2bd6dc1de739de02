-- Trials of paper 02, No. 8, by computation, as one claim over a list: readings that came too early, and each condition
-- of the mark failing.
use Rattle.std.specs.Prelude.{Bool, true, false, List, [], ◌∷◌, ◌++◌, map, ℕ, ℤ, pos, negsuc}
use Prim.Native.String.{String}
use Rattle.csl.specs.Syntax.{Agreement}
use Rattle.csl.specs.Check.{CheckResult, refused, accepted, checked}
use Rattle.csl.specs.Run.{Stepped, started, step}
use Rattle.csl.specs.Values.{Val, num}
use Rattle.csl.specs.Outcomes.{an_obligation, a_choice, Residue, unit, Outcome, done}
use Rattle.csl.specs.Rules.{Reading}
use Rattle.csl.specs.Early.{some_too_early, came_early}
use Rattle.csl.specs.Entries.{breach_at, start_of, reading_of}
use Rattle.csl.specs.Build.{lit, truth_of, yes', var, opposite, op, nothing, owes_typed, owes, simply, may, all'}
use Rattle.csl.specs.Build.{any', inst, reading_type_of, template_with, agreement_with, agreement, reading_with}
use Rattle.csl.specs.Build.{reading, mark, zeros, unit_of, join_unit, running_table}
use Rattle.csl.specs.Trials.{Trial, Seen, Moment, answers, holds, counts, marks, uncosted, follows, live}
use Rattle.csl.specs.Trials.{fulfils, refusing}
use Rattle.csl.specs.Further.{shows, obeys, leads, waits, owed, by, asking, next, main}
use Rattle.csl.specs.Further.{a_number, template, call, two}

-- ---- forms of a trial
-- a moment whose reading came too early
unfoldable pub too_soon : Moment → Moment
too_soon m = record { number = m.number; early = 1; table = m.table; forecast = m.forecast }

-- an agreement started and given readings, by the rules: the number of each, and whether it came too early
unfoldable pub told_by : Agreement → Stepped → List (List ℕ) → List Seen
told_by ag s [] = []
told_by ag s (r ∷ rs) = counts (step ag s.run r).number ∷ holds (came_early ag s.run r) ∷ told_by ag
    (step ag s.run r) rs

unfoldable pub told_from : CheckResult → List (List ℕ) → List Seen
told_from (refused n) rs = []
told_from (accepted ag ps) rs = told_by ag (started ag) rs

unfoldable pub tells : String → List ℕ → List (List ℕ) → List Seen → Trial
tells n b rs es = shows n (told_from (checked b) rs) es

unfoldable pub accepting : Bool → List Seen → List Seen
accepting early more = counts 0 ∷ holds early ∷ more

unfoldable pub refusing' : ℕ → List Seen → List Seen
refusing' n more = counts n ∷ holds false ∷ more

-- one unit by itself
unfoldable pub asks : CheckResult → Reading → Residue → List Seen
asks (refused n) d res = []
asks (accepted ag ps) d res = holds (some_too_early ag d res) ∷ []

-- a reading of type 1, and a unit since A with these values in sight
unfoldable pub one : ℕ → ℤ → Reading
one t z = record { time = t; type = 1; values = num z ∷ [] }

unfoldable pub alone : ℕ → ℕ → List Val → Residue
alone p a vs = unit an_obligation p a (record { params = []; values = vs })

-- ---- agreements
-- owed from 130 to 190, with this `where`
unfoldable pub soon : List ℕ → List ℕ
soon c = owes 0 c (pos 30) (pos 60) nothing

unfoldable pub never : List ℕ
never = asking (truth_of 0)

-- the same with a second reading type like the first
unfoldable pub two_types : List ℕ → List ℕ
two_types c = agreement_with 2 (a_number ∷ a_number ∷ []) [] c

-- a choice, at place 26, with the value 7 and party 0 in sight
unfoldable pub chosen_by : List ℕ → List ℕ
chosen_by c = agreement (template_with (1 ∷ []) 1 0 c ∷ []) (inst 0 (lit (pos 7) ∷ []) (0 ∷ []))

unfoldable pub in_sight : Outcome
in_sight = waits a_choice 26 100 (0 ∷ []) (num (pos 7) ∷ [])

-- the main clause waits since 100; the forecast is 190
unfoldable pub shut : ℕ → Moment
shut now = live now 100 (unit_of 17 17 100 [] [] ∷ []) 190 1

-- one unit that is too early, and one that takes the reading
unfoldable pub besides : List ℕ
besides = main (all' (soon yes') (simply 1 (pos 60)))

-- 129 units behind one reading, one of them too early for it
unfoldable pub crowding : List ℕ
crowding = agreement (template 1 (two (two (simply 0 (pos 60)))) ∷ map (λ k. template 1 (two (call k)))
    (0 ∷ 1 ∷ 2 ∷ 3 ∷ [])) (all' (soon yes') (next (call 4)))

-- an `and` of an obligation whose `then` is the same `and` anew and of this choice, at places 29 and 61
unfoldable pub anew : List ℕ → List ℕ
anew c = agreement (template 1 (all' (next (call 0)) c) ∷ []) (call 0)

-- as it began, and a reading in that minute
unfoldable pub again : List ℤ
again = running_table 100 100 (join_unit 20 ∷ unit_of 17 29 100 [] [] ∷ unit_of 18 61 100 [] [] ∷ [])

unfoldable pub at_once : List ℕ → Seen
at_once c = answers (uncosted (reading_of (anew c) again (reading 100 (pos 1))))

unfoldable pub too_earlies : List Trial
too_earlies =
    follows "too early, `where` false, a mark, refused with 10, the last minute before, the first, fulfilled"
    (main (soon (opposite (op 42 (var 0) (lit (pos 250))))))
    (reading 110 (pos 250) ∷ reading 111 (pos 249) ∷ mark 112 ∷ reading 111 (pos 250) ∷ reading 129 (pos 250)
    ∷ reading 130 (pos 250) ∷ reading 131 (pos 250) ∷ [])
    (shut 100 ∷ too_soon (shut 110) ∷ shut 111 ∷ shut 112 ∷ refusing 10 (shut 112) ∷ too_soon (shut 129)
    ∷ fulfils 130 130 ∷ fulfils 131 130 ∷ [])
    ∷ tells "another type, the wanted one, breached"
    (agreement_with 2 (a_number ∷ reading_type_of [] ∷ []) []
    (owes_typed 0 2 yes' (lit (pos 30)) (lit (pos 60)) nothing))
    (reading 110 (pos 1) ∷ reading_with 110 2 [] ∷ mark 191 ∷ reading_with 191 2 [] ∷ [])
    (accepting false (accepting true (accepting false (accepting false []))))
    ∷ tells "altered by another unit; then alone" besides
    (reading 110 (pos 1) ∷ reading 111 (pos 1) ∷ []) (accepting false (accepting true []))
    ∷ shows "altered by another unit, by the entries"
    (counts (reading_of besides (start_of besides zeros).table (reading 110 (pos 1))).early ∷ []) (counts 0 ∷ [])
    ∷ tells "altered in the minute of the alteration before" (main (all' (soon yes') (next (next nothing))))
    (reading 110 (pos 1) ∷ reading 110 (pos 1) ∷ []) (accepting false (accepting false []))
    ∷ tells "a type above the wanted one" (two_types (soon yes')) (reading_with 110 2 (pos 1 ∷ []) ∷ [])
    (accepting false [])
    ∷ obeys "a type above the wanted one, in time" (two_types (simply 0 (pos 60))) (reading_with 110 2 (pos 1 ∷ [])
    ∷ [])
    (leads 0 100 100 (owed 23 100) (by 160 0) ∷ leads 0 110 100 (owed 23 100) (by 160 0) ∷ [])
    ∷ tells "the left side of an `and` alone" (main (all' (soon yes') never)) (reading 110 (pos 1) ∷ [])
    (accepting true [])
    ∷ tells "the right side of an `or` alone" (main (any' never (soon yes'))) (reading 110 (pos 1) ∷ [])
    (accepting true [])
    ∷ tells "the left side of an `or` alone" (main (any' (soon yes') never)) (reading 110 (pos 1) ∷ [])
    (accepting true [])
    ∷ tells "both sides" (main (all' (soon yes') (soon yes'))) (reading 110 (pos 1) ∷ []) (accepting true [])
    ∷ tells "neither side" (main (all' never never)) (reading 110 (pos 1) ∷ []) (accepting false [])
    ∷ tells "a choice" (main (may yes' (pos 30) (pos 60) nothing nothing)) (reading 110 (pos 1) ∷ [])
    (accepting true [])
    ∷ obeys "a choice keeps what is in sight, in time" (chosen_by (may (truth_of 0) (pos 0) (pos 60) nothing nothing))
    (reading 110 (pos 1) ∷ []) (leads 0 100 100 in_sight done ∷ leads 0 110 100 in_sight done ∷ [])
    ∷ obeys "a choice keeps what is in sight, too early" (chosen_by (may yes' (pos 30) (pos 60) nothing nothing))
    (reading 110 (pos 1) ∷ []) (leads 0 100 100 in_sight done ∷ leads 0 110 100 in_sight done ∷ [])
    ∷ shows "one unit by itself: after its first, and by the values in sight alone"
    (asks (checked (main (soon yes'))) (one 140 (pos 1)) (alone 17 100 []) ++ asks
    (checked (main (next (owes_typed 0 1 yes' (var 0) (lit (pos 60)) nothing)))) (one 110 (pos 5))
    (alone 44 105 (num (pos 30) ∷ num (pos 55) ∷ []))) (holds false ∷ holds true ∷ [])
    ∷ tells "by the values in sight and A"
    (main (next (owes_typed 0 1 (op 43 (var 2) (var 0)) (var 0) (lit (pos 60)) nothing)))
    (reading 105 (pos 30) ∷ reading 134 (pos 30) ∷ reading 134 (pos 31) ∷ [])
    (accepting false (accepting true (accepting false [])))
    ∷ tells "11 where a unit is too early" crowding (reading 110 (pos 1) ∷ []) (refusing' 11 [])
    ∷ shows "what a late choice's else waits for is no unit of the table"
    (at_once (may yes' (pos 0) (negsuc 0) nothing (any' (soon yes') (simply 0 (pos 60)))) ∷ [])
    (answers (marks 0 (breach_at 160 1) 0 again) ∷ [])
    ∷ shows "late, with a first later than the reading, and the same unit anew"
    (at_once (may yes' (pos 30) (negsuc 30) nothing nothing) ∷ []) (answers (marks 0 (breach_at 160 1) 1 again) ∷ [])
    ∷ []
