-- Trials of paper 02, No. 9, by computation, as one claim over a list: what readings cost, for each kind of clause, in
-- an else, with sides that are dropped, and where it is 0; and the outcome that each name of `Rules` gives by itself.
use Rattle.std.specs.Prelude.{List, [], ◌∷◌, ◌++◌, map, ℕ, ◌+◌, ℤ, pos, negsuc, replicate}
use Rattle.std.proofs.Math.Option.{none, some}
use Prim.Native.String.{String}
use Rattle.csl.specs.Syntax.{number_lit, bad_expr, or, Clause, fulfilled, if, join, instance, bad_clause}
use Rattle.csl.specs.Syntax.{Template, Agreement}
use Rattle.csl.specs.Check.{CheckResult, refused, accepted, checked}
use Rattle.csl.specs.Outcomes.{an_obligation, a_choice, unit, done, breach, running, stuck, or_stuck}
use Rattle.csl.specs.Rules.{Reading, walk, walk_in, during, activating, taken, following, forecasting, across}
use Rattle.csl.specs.Run.{Stepped, started, step}
use Rattle.csl.specs.Cost.{cost_from, cost_of}
use Rattle.csl.specs.Entries.{Forecast, no_breach, breach_at, untold, reading_of}
use Rattle.csl.specs.Demand3.{costs_by}
use Rattle.csl.specs.Build.{truth_of, yes', nothing, owes, simply, may, ifs, all', any', template_with, agreement}
use Rattle.csl.specs.Build.{reading, mark, zeros, running_table, fulfilled_table, breached_table}
use Rattle.csl.specs.Trials.{Trial, Seen, answers, becomes, counts, self, doubling, doubled, choosing, harness}
use Rattle.csl.specs.Trials as trials
use Rattle.csl.specs.Further.{shows, owed, chosen, by, asking, next, main, calls, body, waiting, next'}
use Rattle.csl.specs.Further.{either', laddered, bare, still}

-- ---- forms of a trial
-- an agreement started and given readings, by the rules: the number of each, and what it costs
unfoldable pub spent_by : Agreement → Stepped → List (List ℕ) → List Seen
spent_by ag s [] = []
spent_by ag s (r ∷ rs) = counts (step ag s.run r).number ∷ counts (cost_of ag s.run r) ∷ spent_by ag
    (step ag s.run r) rs

unfoldable pub spent_from : CheckResult → List (List ℕ) → List Seen
spent_from (refused n) rs = []
spent_from (accepted ag ps) rs = spent_by ag (started ag) rs

-- the same by the words of demand 3, without the numbers
unfoldable pub costs_from : CheckResult → List (List ℕ) → List Seen
costs_from (refused n) rs = []
costs_from (accepted ag ps) rs = map counts (costs_by ag (started ag).run rs)

unfoldable pub costs : String → List ℕ → List (List ℕ) → List Seen → Trial
costs n b rs es = shows n (spent_from (checked b) rs) es

unfoldable pub each : ℕ → ℕ → List Seen → List Seen
each n cost more = counts n ∷ counts cost ∷ more

-- one reading of type 1, at 110
unfoldable pub takes : String → List ℕ → ℕ → Trial
takes n b cost = costs n b (reading 110 (pos 1) ∷ []) (each 0 cost [])

-- one reading of a table, by the entry
unfoldable pub asked : List ℕ → List ℤ → List ℕ → Seen
asked b us r = answers (reading_of b us r)

-- with the forecast told
unfoldable pub told : Forecast → ℕ → List ℤ → Seen
told f cost us = answers (record { number = 0; forecast = f; early = 0; cost = cost; table = us })

unfoldable pub denied : ℕ → ℕ → List ℤ → Seen
denied n cost us = answers (record { number = n; forecast = untold; early = 0; cost = cost; table = us })

-- ---- clauses
-- an `and` of two obligations: three clauses
unfoldable pub pair : List ℕ
pair = all' (simply 0 (pos 5)) (simply 0 (pos 5))

-- a choice that is late as soon as it is activated
unfoldable pub belated : List ℕ → List ℕ
belated f = may yes' (pos 0) (negsuc 0) nothing f

-- a choice to 150 with this else
unfoldable pub or_else' : List ℕ → List ℕ
or_else' f = main (may yes' (pos 0) (pos 50) nothing f)

-- template 0 has this body
unfoldable pub naming : List ℕ → List ℕ → List ℕ
naming b c = agreement (template_with [] 0 1 b ∷ []) c

-- a mark at 151, so that this else follows it
unfoldable pub lapses : String → List ℕ → ℕ → Trial
lapses n f cost = costs n (or_else' f) (mark 151 ∷ []) (each 0 cost [])

-- one obligation to 160
unfoldable pub owe : List ℕ
owe = main (next nothing)

-- its cells where it waits
unfoldable pub untaken : ℕ → List ℤ
untaken now = running_table now 100 (trials.owed 17 100 ∷ [])

-- ---- clauses and readings by themselves
unfoldable pub read_at : ℕ → Reading
read_at t = record { time = t; type = 1; values = [] }

-- a choice to 65, which waits since 5; its else is an `or` of this clause and of a choice to 125
unfoldable pub or_late : Clause → Seen
or_late c = counts
    (cost_from (laddered [] (either' fulfilled (join or c (either' fulfilled fulfilled))))
    (running (unit a_choice 0 5 bare)) (read_at 200))

-- template 0 is an obligation
unfoldable pub owing : List Template
owing = body (next' fulfilled) ∷ []

unfoldable pub costing : List Trial
costing =
    costs "a unit that waits, one that takes the reading, a fulfilled table" owe
    (mark 110 ∷ reading 120 (pos 1) ∷ mark 130 ∷ []) (each 0 1 (each 0 2 (each 0 0 [])))
    ∷ costs "an `and` of the table that is breached, a breached table"
    (main (all' (simply 0 (pos 60)) (simply 1 (pos 50)))) (mark 120 ∷ mark 161 ∷ mark 162 ∷ [])
    (each 0 3 (each 0 3 (each 0 0 [])))
    ∷ costs "refused with 8, 9 and 10" owe
    (mark 110 ∷ [] ∷ reading 120 (pos 2_000_000_000) ∷ mark 109 ∷ [])
    (each 0 1 (each 8 0 (each 9 0 (each 10 0 []))))
    ∷ takes "what is early, and what finds `where` false"
    (main (all' (owes 0 yes' (pos 30) (pos 60) nothing) (all' (may yes' (pos 30) (pos 60) nothing pair)
    (asking (truth_of 0))))) 5
    ∷ takes "a `then` that is an obligation" (main (next (simply 0 (pos 5)))) 2
    ∷ takes "a choice" (main (next (may yes' (pos 0) (pos 9) pair pair))) 2
    ∷ takes "an `if` and its first side" (main (next (ifs yes' pair nothing))) 5
    ∷ takes "an `if` and its second side" (main (next (ifs (truth_of 0) pair nothing))) 3
    ∷ takes "fulfilled sides of an `and`" (main (next (all' nothing nothing))) 4
    ∷ takes "an `and` with one fulfilled side" (main (next (all' nothing pair))) 6
    ∷ takes "an `or` with one fulfilled side" (main (next (any' pair nothing))) 6
    ∷ takes "an instance and its template's body" (naming pair (next self)) 5
    ∷ takes "a choice that is taken" (main (may yes' (pos 0) (pos 50) pair nothing)) 4
    ∷ takes "sides that are dropped" (main (any' (simply 0 (pos 60)) (next pair))) 7
    ∷ takes "a side dropped beside a breach" (main (all' (simply 0 (pos 5)) (next pair))) 6
    ∷ costs "an else that waits" choosing (mark 160 ∷ mark 165 ∷ []) (each 0 2 (each 0 1 []))
    ∷ costs "an else that takes the same reading" choosing (reading 165 (pos 1) ∷ []) (each 0 3 [])
    ∷ costs "an else that is breached" choosing (mark 171 ∷ []) (each 0 2 [])
    ∷ lapses "a chain of elses" (belated (belated pair)) 6
    ∷ costs "a `then` under an else" (or_else' (owes 0 yes' (pos 0) (pos 20) pair)) (reading 151 (pos 1) ∷ [])
    (each 0 5 [])
    ∷ lapses "an else that is fulfilled" nothing 2
    ∷ lapses "an else fulfilled when it is activated: the side that is dropped follows nothing"
    (any' nothing (belated pair)) 4
    ∷ lapses "the same with the sides the other way round" (any' (belated pair) nothing) 4
    ∷ lapses "by an `if`" (any' (ifs yes' nothing pair) (belated pair)) 5
    ∷ costs "by an instance" (naming nothing (may yes' (pos 0) (pos 50) nothing (any' self (belated pair))))
    (mark 151 ∷ []) (each 0 5 [])
    ∷ lapses "by an `or` within it" (any' (any' nothing (belated pair)) (belated pair)) 6
    ∷ lapses "by an `and` within it" (any' (all' nothing nothing) (belated pair)) 6
    ∷ lapses "an `or` fulfilled when it is activated, under an `and` that is not"
    (all' (any' nothing (belated pair)) (belated pair)) 9
    ∷ lapses "an `and` with one fulfilled side follows on" (all' nothing (belated pair)) 7
    ∷ lapses "an `and` with the other side fulfilled" (all' (belated pair) nothing) 7
    ∷ lapses "an `and` with one fulfilled side does not fulfil an `or`"
    (any' (all' nothing (simply 0 (pos 20))) (belated pair)) 9
    ∷ costs "an else fulfilled by the reading: the other side has followed it"
    (or_else' (any' (simply 0 (pos 20)) (belated pair))) (reading 151 (pos 0) ∷ []) (each 0 10 [])
    ∷ lapses "an else fulfilled by a late choice's else: the other side has followed"
    (any' (belated nothing) (belated pair)) 8
    ∷ lapses "a breached side does not fulfil an `or`" (any' (simply 0 (negsuc 0)) (belated pair)) 7
    ∷ lapses "an `and` that is breached: the other side has followed" (all' (simply 0 (negsuc 0)) (belated pair)) 7
    ∷ shows "each of a list of readings" (costs_from (checked (main (next pair)))
    (mark 109 ∷ mark 108 ∷ reading 110 (pos 1) ∷ mark 111 ∷ [])) (counts 1 ∷ counts 0 ∷ counts 4 ∷ counts 3 ∷ [])
    ∷ costs "the readings of P15, then refused with 10, breached, a breached table" doubling
    (reading 101 (pos 0) ∷ reading 102 (pos 0) ∷ reading 103 (pos 0) ∷ reading 104 (pos 0) ∷ reading 105 (pos 0)
    ∷ reading 106 (pos 0) ∷ reading 107 (pos 0) ∷ mark 50 ∷ mark 300 ∷ mark 301 ∷ [])
    (each 0 6 (each 0 13 (each 0 27 (each 0 55 (each 0 111 (each 0 223
    (each 11 447 (each 10 0 (each 0 127 (each 0 0 []))))))))))
    ∷ shows "11 by the entry, with its cost"
    (asked doubling (running_table 106 106 (doubled 106 6)) (reading 107 (pos 0)) ∷ [])
    (denied 11 447 (running_table 106 106 (doubled 106 6)) ∷ [])
    ∷ shows "by the entry: a mark, a reading that is taken, fulfilled, breached; refused with 7, 8 and 10"
    (asked owe (untaken 105) (mark 110) ∷ asked owe (untaken 105) (reading 110 (pos 1))
    ∷ asked owe (fulfilled_table 105 105) (mark 110) ∷ asked owe (breached_table 161 161 160 1) (mark 170)
    ∷ asked owe zeros (mark 110) ∷ asked owe (untaken 105) [] ∷ asked owe (untaken 105) (mark 104) ∷ [])
    (told (breach_at 160 1) 1 (untaken 110) ∷ told no_breach 2 (fulfilled_table 110 110)
    ∷ told no_breach 0 (fulfilled_table 110 105) ∷ told (breach_at 160 1) 0 (breached_table 161 161 160 1)
    ∷ denied 7 0 zeros ∷ denied 8 0 (untaken 105) ∷ denied 10 0 (untaken 105) ∷ [])
    ∷ shows "fulfilled, and what cannot be activated, beside a side that follows; a stuck run"
    (or_late fulfilled ∷ or_late bad_clause ∷ or_late (if (number_lit (pos 1)) fulfilled fulfilled) ∷ or_late (calls 99)
    ∷ or_late (instance 0 (bad_expr ∷ []) []) ∷ counts (cost_of (laddered [] fulfilled) (still stuck) (mark 200)) ∷ [])
    (counts 4 ∷ (replicate 4 (counts 5) ++ (counts 0 ∷ [])))
    ∷ shows "the outcome by each name of `Rules`"
    (becomes (walk forecasting (λ k vs ps u. breach (k + u) ps) (instance 3 [] (1 ∷ [])) bare 5)
    ∷ becomes (walk forecasting (λ k vs ps u. stuck) (next' fulfilled) bare 5)
    ∷ becomes (walk_in forecasting owing 1 (calls 0) bare 5) ∷ becomes (during forecasting owing (calls 0) bare 5)
    ∷ becomes (activating.on_obligation bare 5 0 waiting fulfilled)
    ∷ becomes (activating.on_choice bare 5 waiting fulfilled (λ u. stuck))
    ∷ becomes (taken owing (read_at 9) bare waiting (record { first = pos 5; last = pos 65 }) (calls 0) stuck)
    ∷ becomes (taken owing (record { time = 9; type = 2; values = [] }) bare waiting
    (record { first = pos 5; last = pos 65 }) (calls 0) stuck)
    ∷ becomes ((following owing (read_at 9)).on_obligation bare 5 0 waiting (calls 0))
    ∷ becomes (across (following [] (read_at 9)) (laddered [] (next' fulfilled)) (unit an_obligation 0 5 bare))
    ∷ becomes (or_stuck none) ∷ becomes (or_stuck (some done)) ∷ [])
    (becomes (breach 8 (1 ∷ [])) ∷ becomes (by 65 0) ∷ becomes (by 65 0) ∷ becomes (by 65 0) ∷ becomes (owed 0 5)
    ∷ becomes (chosen 0 5) ∷ becomes (owed 0 9) ∷ becomes stuck ∷ becomes (owed 0 9) ∷ becomes done
    ∷ becomes stuck ∷ becomes done ∷ [])
    ∷ []
