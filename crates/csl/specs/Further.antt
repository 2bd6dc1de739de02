-- Trials beyond P1 to P15, by computation, as one claim over a list: just enough that no line of a definition can be
-- changed unseen. bench/mutants changes them; bench/MUTANTS.md says which trial refuses each change.
-- All further trials are executed: crates/trials.
use Rattle.std.specs.Prelude.{Bool, true, false, List, [], ◌∷◌, ◌++◌, map, ℕ, zero, suc, ◌+◌, ◌*◌, ℤ, pos}
use Rattle.std.specs.Prelude.{negsuc, length, replicate, take}
use Rattle.std.proofs.Math.Option.{Option, none, some}
use Prim.Native.String.{String}
use Rattle.csl.specs.Numbers.{plus}
use Rattle.csl.specs.Syntax.{number, arithmetic, conj, equal, Expr, number_lit, truth_lit}
use Rattle.csl.specs.Syntax.{party_lit, binary, bad_expr, Op, Join, and, or, Wait, Clause, fulfilled, obligation}
use Rattle.csl.specs.Syntax.{choice, if, join, instance, bad_clause, Template, Agreement}
use Rattle.csl.specs.Bytes.{byte}
use Rattle.csl.specs.Parties.{member_count, bits_of}
use Rattle.csl.specs.Decode.{counts_ok, length_ok}
use Rattle.csl.specs.Check.{CheckResult, refused, accepted, checked, check_decoded, check_typed, check_of, mains_of}
use Rattle.csl.specs.Values.{Val, num, bool, who, values_of, eval}
use Rattle.csl.specs.Outcomes.{Sight, Sort, an_obligation, a_choice, Residue, unit, both, Outcome, done, breach}
use Rattle.csl.specs.Outcomes.{running, stuck, joined}
use Rattle.csl.specs.Run.{Stepped, altered, started, step}
use Rattle.csl.specs.Places.{clause_at}
use Rattle.csl.specs.Rules.{activate}
use Rattle.csl.specs.Widths.{narrow_all}
use Rattle.csl.specs.Table.{Run, add_unit, cells_of, is_sort, table_of, run_of}
use Rattle.csl.specs.Early.{wait_in, some_too_early, came_early}
use Rattle.csl.specs.Entries.{breach_at, no_forecast, shown, start_of, reading_of, forecast_of, forecast_run}
use Rattle.csl.specs.Build.{le2, le4, record_of, lit, truth_of, yes', party_of, var, opposite, op, nothing}
use Rattle.csl.specs.Build.{owes_typed, owes, simply, may, may_typed, ifs, all', any', inst, reading_type_of}
use Rattle.csl.specs.Build.{template_with, agreement_with, agreement, reading_with, reading, mark, sample, zeros}
use Rattle.csl.specs.Build.{filled, unit_of, join_unit, flat, running_table, fulfilled_table}
use Rattle.csl.specs.Trials.{Trial, Seen, checks, answers, forecasts, steps, reads, becomes, decides, evaluates}
use Rattle.csl.specs.Trials.{holds, counts, gives, denies, cells, uncosted, unmarked, follows, live, fulfils, breaches}

-- ---- forms of a trial
unfoldable pub shows : String → List Seen → List Seen → Trial
shows n s e = record { name = n; shown = s; expected = e }

-- check's number and parties
unfoldable pub says : ℕ → ℕ → Seen
says k ps = checks (record { number = k; parties = ps })

unfoldable pub accepts : String → ℕ → List ℕ → Trial
accepts n ps b = shows n (checks (check_of b) ∷ []) (says 0 ps ∷ [])

unfoldable pub refuses : String → ℕ → List ℕ → Trial
refuses n k b = shows n (checks (check_of b) ∷ []) (says k 0 ∷ [])

-- the main clause's parties that check established
unfoldable pub mains : String → ℕ → List ℕ → Trial
mains n ps b = shows n (says 0 (bits_of (mains_of b)) ∷ []) (says 0 ps ∷ [])

-- by each entry, whatever the table and the reading
unfoldable pub five : List ℤ
five = pos 5 ∷ []

unfoldable pub refuses_all : String → ℕ → List ℕ → Trial
refuses_all n k b = shows n
    (checks (check_of b) ∷ answers (unmarked (start_of b five)) ∷ answers (reading_of b five []) ∷ [])
    (says k 0 ∷ denies k five ∷ denies k five ∷ [])

-- an agreement started and given readings, by the rules alone
unfoldable pub steps_of : Agreement → Stepped → List (List ℕ) → List Seen
steps_of ag s [] = steps s (forecast_run ag s.run) ∷ []
steps_of ag s (r ∷ rs) = steps s (forecast_run ag s.run) ∷ steps_of ag (step ag s.run r) rs

unfoldable pub run_seen : CheckResult → List (List ℕ) → List Seen
run_seen (refused n) rs = []
run_seen (accepted ag ps) rs = steps_of ag (started ag) rs

unfoldable pub obeys : String → List ℕ → List (List ℕ) → List Seen → Trial
obeys n b rs es = record { name = n; shown = run_seen (checked b) rs; expected = es }

-- a number, the last reading time, when it last moved, the outcome and what would become of it
unfoldable pub leads : ℕ → ℕ → ℕ → Outcome → Outcome → Seen
leads n now moved o f =
    steps (record { number = n; run = record { last_time = now; last_moved = moved; outcome = o } }) f

unfoldable pub waits : Sort → ℕ → ℕ → List ℕ → List Val → Outcome
waits s p a qs vs = running (unit s p a (record { params = qs; values = vs }))

unfoldable pub owed : ℕ → ℕ → Outcome
owed p a = waits an_obligation p a [] []

unfoldable pub chosen : ℕ → ℕ → Outcome
chosen p a = waits a_choice p a [] []

unfoldable pub by : ℕ → ℕ → Outcome
by t p = breach t (p ∷ [])

-- ---- records
-- a record whose length is not what it says
unfoldable pub saying : ℕ → ℕ → List ℕ → List ℕ
saying n kind body = le2 n ++ (le2 kind ++ body)

unfoldable pub nested : (List ℕ → List ℕ) → ℕ → List ℕ → List ℕ
nested f zero s = s
nested f (suc n) s = f (nested f n s)

unfoldable pub one : List ℕ
one = lit (pos 1)

-- an obligation of party 0 with this `where`, `after`, `within` or `then`
unfoldable pub asking : List ℕ → List ℕ
asking e = owes 0 e (pos 0) (pos 60) nothing

unfoldable pub after_is : List ℕ → List ℕ
after_is e = owes_typed 0 1 yes' e one nothing

unfoldable pub within_is : List ℕ → List ℕ
within_is e = owes_typed 0 1 yes' one e nothing

unfoldable pub next : List ℕ → List ℕ
next t = owes 0 yes' (pos 0) (pos 60) t

-- a choice with this else, and with this `then`
unfoldable pub otherwise : List ℕ → List ℕ
otherwise f = may yes' (pos 0) (pos 60) nothing f

unfoldable pub chooses : List ℕ → List ℕ
chooses t = may yes' (pos 0) (pos 60) t nothing

-- ---- agreements: two parties, reading type 1 with a number
unfoldable pub main : List ℕ → List ℕ
main c = agreement [] c

unfoldable pub a_number : List ℕ
a_number = reading_type_of (1 ∷ [])

-- these counts, and what follows them
unfoldable pub counting : ℕ → ℕ → ℕ → List ℕ → List ℕ
counting parties readings templates rest = record_of 1 (le4 100 ++ (parties ∷ readings ∷ templates ∷ rest))

-- a template with no value and no parameter
unfoldable pub template : ℕ → List ℕ → List ℕ
template declared body = template_with [] 0 declared body

-- templates that the main clause does not name
unfoldable pub beside : List (List ℕ) → List ℕ
beside ts = agreement ts nothing

unfoldable pub call : ℕ → List ℕ
call k = inst k [] []

-- a template with two numbers and two parameters
unfoldable pub lending : List ℕ → List ℕ
lending c = agreement (template_with (1 ∷ 1 ∷ []) 2 0 (simply 128 (pos 60)) ∷ []) c

-- ---- running
-- facts joined by `and`
unfoldable pub every : List (List ℕ) → List ℕ
every [] = yes'
every (e ∷ es) = op 41 e (every es)

unfoldable pub is : List ℕ → ℤ → List ℕ
is e z = op 43 e (lit z)

unfoldable pub is_not : List ℕ → ℤ → List ℕ
is_not e z = opposite (is e z)

unfoldable pub calculated : ℕ → ℤ → ℤ → ℤ → List ℕ
calculated kind a b z = is (op kind (lit a) (lit b)) z

unfoldable pub most : ℤ
most = pos 1_000_000_000

unfoldable pub least : ℤ
least = negsuc 999_999_999

unfoldable pub sums : List (List ℕ)
sums =
    calculated 37 (pos 2) (pos 3) (pos 5)
    ∷ calculated 37 least (negsuc 0) least
    ∷ calculated 38 (pos 5) (pos 7) (negsuc 1)
    ∷ calculated 38 most (negsuc 0) most
    ∷ calculated 38 least (pos 1) least
    ∷ calculated 39 (pos 6) (negsuc 6) (negsuc 41)
    ∷ calculated 39 most most most
    ∷ calculated 39 most least least ∷ []

-- Paper 02, No. 5
unfoldable pub fractions : List (List ℕ)
fractions =
    calculated 40 (pos 7) (pos 2) (pos 3)
    ∷ calculated 40 (pos 7) (negsuc 1) (negsuc 3)
    ∷ calculated 40 (negsuc 6) (pos 2) (negsuc 3)
    ∷ calculated 40 (negsuc 6) (negsuc 1) (pos 3)
    ∷ calculated 40 (pos 1) (pos 2) (pos 0)
    ∷ calculated 40 (pos 1) (negsuc 1) (negsuc 0)
    ∷ calculated 40 (negsuc 0) (pos 2) (negsuc 0)
    ∷ calculated 40 (negsuc 0) (negsuc 1) (pos 0)
    ∷ calculated 40 (pos 1) least (negsuc 0)
    ∷ calculated 40 (negsuc 0) most (negsuc 0) ∷ []

unfoldable pub wholes : List (List ℕ)
wholes =
    calculated 40 (pos 8) (negsuc 1) (negsuc 3)
    ∷ calculated 40 (negsuc 7) (pos 2) (negsuc 3)
    ∷ calculated 40 (negsuc 7) (negsuc 1) (pos 4)
    ∷ calculated 40 (pos 0) (negsuc 4) (pos 0)
    ∷ calculated 40 (pos 7) (pos 0) (pos 0)
    ∷ calculated 40 (negsuc 6) (pos 0) (pos 0)
    ∷ calculated 40 most (pos 1) most
    ∷ calculated 40 most (negsuc 0) least
    ∷ calculated 40 least (pos 1) least
    ∷ calculated 40 least (negsuc 0) most
    ∷ calculated 40 least least (pos 1) ∷ []

unfoldable pub equations : List (List ℕ)
equations =
    is_not (lit (pos 2)) (pos 3)
    ∷ is_not (lit (pos 2)) (negsuc 1)
    ∷ is_not (lit (negsuc 1)) (pos 2)
    ∷ is_not (lit (negsuc 1)) (negsuc 2)
    ∷ op 43 (truth_of 0) (truth_of 0)
    ∷ opposite (op 43 yes' (truth_of 0))
    ∷ opposite (op 43 (truth_of 0) yes')
    ∷ op 43 (party_of 1) (party_of 1)
    ∷ opposite (op 43 (party_of 0) (party_of 1))
    ∷ op 42 (lit (negsuc 0)) (lit (pos 0))
    ∷ opposite (op 42 (lit (pos 1)) (lit (pos 1)))
    ∷ opposite (op 41 yes' (truth_of 0))
    ∷ opposite (op 41 (truth_of 0) yes') ∷ []

unfoldable pub taken : String → List ℕ → Trial
taken n e = obeys n (main (asking e)) (reading 110 (pos 1) ∷ [])
    (leads 0 100 100 (owed 17 100) (by 160 0) ∷ leads 0 110 110 done done ∷ [])

-- three templates: the third names the second, which names the first with its parameters crossed
unfoldable pub chain : List ℕ
chain = agreement (
    template_with (1 ∷ 1 ∷ []) 2 0
    (owes_typed 129 1 yes' (var 0) (var 1) (owes_typed 128 1 yes' (var 2) (var 3) nothing))
    ∷ template_with (1 ∷ []) 2 0 (inst 0 (op 37 (var 0) one ∷ lit (pos 9) ∷ []) (129 ∷ 128 ∷ []))
    ∷ template_with (1 ∷ []) 2 0 (inst 1 (var 0 ∷ []) (128 ∷ 129 ∷ [])) ∷ [])
    (next (inst 2 (var 0 ∷ []) (1 ∷ 0 ∷ [])))

unfoldable pub nums : List ℕ → List Val
nums [] = []
nums (n ∷ ns) = num (pos n) ∷ nums ns

unfoldable pub runs : List Trial
runs =
    taken "sums, differences, products" (every sums)
    ∷ taken "quotients round down" (every fractions)
    ∷ taken "quotients without a fraction, by 0 and at both ends" (every wholes)
    ∷ taken "what is equal, less and both" (every equations)
    ∷ taken "not true and false" (opposite (op 41 yes' (truth_of 0)))
    ∷ taken "not false and true" (opposite (op 41 (truth_of 0) yes'))
    ∷ obeys "a choice waits, is taken, and its `then` does not see the reading again"
    (main (may (op 42 (lit (pos 5)) (var 0)) (pos 0) (pos 50) (simply 1 (pos 20)) nothing))
    (reading 110 (pos 5) ∷ reading 120 (pos 7) ∷ []) (
    leads 0 100 100 (chosen 17 100) done
    ∷ leads 0 110 100 (chosen 17 100) done
    ∷ leads 0 120 120 (waits an_obligation 55 120 [] (nums (7 ∷ 30 ∷ []))) (by 140 1) ∷ [])
    ∷ obeys "an if by a value, its first side"
    (main (next (ifs (op 42 (var 0) (lit (pos 5))) (simply 0 (pos 60)) (simply 1 (pos 50)))))
    (reading 110 (pos 3) ∷ []) (
    leads 0 100 100 (owed 17 100) (by 160 0)
    ∷ leads 0 110 110 (waits an_obligation 65 110 [] (nums (3 ∷ 50 ∷ []))) (by 170 0)
    ∷ [])
    ∷ obeys "an if by a value, its second side"
    (main (next (ifs (op 42 (var 0) (lit (pos 5))) (simply 0 (pos 60)) (simply 1 (pos 50)))))
    (reading 110 (pos 5) ∷ []) (
    leads 0 100 100 (owed 17 100) (by 160 0)
    ∷ leads 0 110 110 (waits an_obligation 96 110 [] (nums (5 ∷ 50 ∷ []))) (by 160 1)
    ∷ [])
    ∷ obeys "only the wanted reading type, only from `first` on"
    (agreement_with 2 (reading_type_of [] ∷ a_number ∷ []) []
    (owes_typed 0 2 yes' (lit (pos 30)) (lit (pos 60)) nothing))
    (reading_with 140 1 [] ∷ reading 150 (pos 1) ∷ reading_with 150 2 (pos 1 ∷ []) ∷ []) (
    leads 0 100 100 (owed 22 100) (by 190 0) ∷ leads 0 140 100 (owed 22 100) (by 190 0)
    ∷ leads 9 140 100 (owed 22 100) (by 190 0) ∷ leads 0 150 150 done done ∷ [])
    ∷ obeys "before `first` and at it" (main (owes 0 yes' (pos 30) (pos 20) nothing))
    (reading 129 (pos 1) ∷ reading 130 (pos 1) ∷ []) (
    leads 0 100 100 (owed 17 100) (by 150 0)
    ∷ leads 0 129 100 (owed 17 100) (by 150 0) ∷ leads 0 130 130 done done ∷ [])
    ∷ obeys "three templates: values, parameters, and a `then` that sees both" chain
    (reading 110 (pos 5) ∷ reading 115 (pos 8) ∷ reading 120 (pos 8) ∷ mark 134 ∷ []) (
    leads 0 100 100 (owed 135 100) (by 160 0)
    ∷ leads 0 110 110 (waits an_obligation 27 110 (0 ∷ 1 ∷ []) (nums (6 ∷ 9 ∷ []))) (by 125 1)
    ∷ leads 0 115 110 (waits an_obligation 27 110 (0 ∷ 1 ∷ []) (nums (6 ∷ 9 ∷ []))) (by 125 1)
    ∷ leads 0 120 120 (waits an_obligation 48 120 (0 ∷ 1 ∷ []) (nums (6 ∷ 9 ∷ 8 ∷ 5 ∷ []))) (by 133 0)
    ∷ leads 0 134 134 (by 133 0) (by 133 0) ∷ [])
    ∷ obeys "the second template's clause waits"
    (agreement (template 0 nothing ∷ template 1 (simply 0 (pos 60)) ∷ []) (call 1)) (mark 161 ∷ [])
    (leads 0 100 100 (owed 37 100) (by 160 0) ∷ leads 0 161 161 (by 160 0) (by 160 0) ∷ [])
    ∷ obeys "an else sees the values and the parameters"
    (agreement (template_with (1 ∷ 1 ∷ []) 2 0
    (may_typed 1 yes' (lit (pos 0)) (var 0) nothing (owes_typed 129 1 yes' (lit (pos 0)) (var 1) nothing)) ∷ [])
    (inst 0 (lit (pos 30) ∷ lit (pos 20) ∷ []) (0 ∷ 1 ∷ []))) (mark 131 ∷ []) (
    leads 0 100 100 (waits a_choice 27 100 (0 ∷ 1 ∷ []) (nums (30 ∷ 20 ∷ []))) (by 150 1)
    ∷ leads 0 131 131 (waits an_obligation 54 130 (0 ∷ 1 ∷ []) (nums (30 ∷ 20 ∷ []))) (by 150 1) ∷ [])
    ∷ obeys "a window that ended below 0" (main (simply 0 (negsuc 199))) (mark 100 ∷ [])
    (leads 0 100 100 (owed 17 100) (by 100 0) ∷ leads 0 100 100 (by 100 0) (by 100 0) ∷ [])
    ∷ obeys "a choice's window that ended below 0" (main (may yes' (pos 0) (negsuc 199) nothing (simply 1 (pos 20))))
    (mark 100 ∷ []) (leads 0 100 100 (chosen 17 100) (by 120 1) ∷ leads 0 100 100 (owed 47 100) (by 120 1) ∷ [])
    ∷ obeys "a window beyond a number's end" (main (owes 0 yes' most most nothing)) []
    (leads 0 100 100 (owed 17 100) (by 2_000_000_100 0) ∷ [])
    ∷ obeys "a start of four bytes" (record_of 1 (le4 16_909_060 ++ (2 ∷ 1 ∷ 0 ∷ (a_number ++ simply 0 (pos 60)))))
    (reading 16_909_061 (pos 1) ∷ []) (
    leads 0 16_909_060 16_909_060 (owed 17 16_909_060) (by 16_909_120 0) ∷ leads 0 16_909_061 16_909_061 done done ∷ [])
    ∷ []

-- ---- joining
unfoldable pub pairs : (Outcome → Outcome → Outcome) → List Outcome → List Outcome → List Seen
pairs f [] rs = []
pairs f (l ∷ ls) rs = map (λ r. becomes (f l r)) rs ++ pairs f ls rs

unfoldable pub becoming : List Outcome → List Seen
becoming os = map becomes os

unfoldable pub left : Residue
left = unit an_obligation 1 5 (record { params = []; values = [] })

unfoldable pub right : Residue
right = unit a_choice 2 5 (record { params = []; values = [] })

unfoldable pub joins : List Trial
joins =
    shows "each beside `and`" (pairs (joined and) (done ∷ by 5 0 ∷ running left ∷ stuck ∷ [])
    (done ∷ by 5 1 ∷ running right ∷ stuck ∷ [])) (becoming (
    done ∷ by 5 1 ∷ running right ∷ stuck
    ∷ by 5 0 ∷ breach 5 (0 ∷ 1 ∷ []) ∷ by 5 0 ∷ stuck
    ∷ running left ∷ by 5 1 ∷ running (both and left right) ∷ stuck
    ∷ stuck ∷ stuck ∷ stuck ∷ stuck ∷ []))
    ∷ shows "each beside `or`" (pairs (joined or) (done ∷ by 5 0 ∷ running left ∷ stuck ∷ [])
    (done ∷ by 5 1 ∷ running right ∷ stuck ∷ [])) (becoming (
    done ∷ done ∷ done ∷ stuck
    ∷ done ∷ stuck ∷ running right ∷ stuck
    ∷ done ∷ running left ∷ running (both or left right) ∷ stuck
    ∷ stuck ∷ stuck ∷ stuck ∷ stuck ∷ []))
    ∷ shows "two breaches at two times"
    (pairs (joined and) (by 5 0 ∷ by 7 0 ∷ []) (by 6 1 ∷ []) ++ pairs (joined or) (by 5 0 ∷ by 7 0 ∷ [])
    (by 6 1 ∷ [])) (becoming (by 5 0 ∷ by 6 1 ∷ by 6 1 ∷ by 7 0 ∷ []))
    ∷ shows "two breaches of an `or` at one time, by one set and by a part of it"
    (pairs (joined or) (breach 5 (0 ∷ 1 ∷ []) ∷ by 5 1 ∷ []) (breach 5 (1 ∷ 0 ∷ 1 ∷ []) ∷ by 5 1 ∷ []))
    (becoming (breach 5 (0 ∷ 1 ∷ []) ∷ stuck ∷ stuck ∷ by 5 1 ∷ []))
    ∷ obeys "a tie of an `or`, seen with its party" (main (any' (simply 1 (pos 60)) (simply 1 (pos 60))))
    (mark 161 ∷ []) (
    leads 0 100 100 (running (both or (unit an_obligation 21 100 (record { params = []; values = [] }))
    (unit an_obligation 52 100 (record { params = []; values = [] })))) (by 160 1)
    ∷ leads 0 161 161 (by 160 1) (by 160 1) ∷ [])
    ∷ []

-- ---- readings: 8, 9 and 10
-- a fulfilled agreement of three parties whose readings have a number, a truth and a party
unfoldable pub values : ℕ → ℤ → ℤ → ℤ → List ℕ
values t a b c = reading_with t 1 (a ∷ b ∷ c ∷ [])

unfoldable pub refused' : ℕ → ℕ → Seen
refused' n now = leads n now 100 done done

unfoldable pub readings : List Trial
readings =
    obeys "8: no whole reading" (agreement_with 3 (reading_type_of (1 ∷ 2 ∷ 3 ∷ []) ∷ []) [] nothing) (
    [] ∷ record_of 64 (le4 120) ∷ take 20 (values 120 (pos 7) (pos 1) (pos 2)) ∷ saying 8 64 (le4 120 ++ (0 ∷ [])) ∷
    (mark 120 ++ (0 ∷ []))
    ∷ record_of 63 (le4 120 ++ (0 ∷ [])) ∷ record_of 320 (le4 120 ++ (0 ∷ []))
    ∷ reading_with 120 1 (replicate 5 (pos 1)) ∷ record_of 64 (le4 120 ++ (0 ∷ 0 ∷ [])) ∷ reading_with 90 2
    (replicate 5 (pos 1)) ∷ [])
    (refused' 0 100 ∷ replicate 10 (refused' 8 100))
    ∷ obeys "9: no such type, other values" (agreement_with 3 (reading_type_of (1 ∷ 2 ∷ 3 ∷ []) ∷ []) [] nothing) (
    reading_with 120 2 [] ∷ reading_with 120 0 (pos 0 ∷ []) ∷ reading_with 120 1 [] ∷ reading_with 120 1
    (pos 7 ∷ pos 1 ∷ []) ∷ reading_with 120 1 (pos 7 ∷ pos 1 ∷ pos 2 ∷ pos 0 ∷ [])
    ∷ values 120 (pos 1_000_000_001) (pos 1) (pos 2) ∷ values 120 (negsuc 1_000_000_000) (pos 1) (pos 2)
    ∷ values 120 (pos 7) (pos 2) (pos 2) ∷ values 120 (pos 7) (negsuc 0) (pos 2) ∷ values 120 (pos 7) (pos 1) (pos 3)
    ∷ values 120 (pos 7) (pos 1) (negsuc 0)
    ∷ reading_with 90 2 [] ∷ [])
    (refused' 0 100 ∷ replicate 12 (refused' 9 100))
    ∷ obeys "10, and what is just inside" (agreement_with 3 (reading_type_of (1 ∷ 2 ∷ 3 ∷ []) ∷ []) [] nothing) (
    mark 99 ∷ mark 100 ∷ values 120 most (pos 0) (pos 0) ∷ values 120 least (pos 1) (pos 2) ∷ values 119 (pos 7)
    (pos 1) (pos 2) ∷ mark 4_294_967_295 ∷ [])
    (refused' 0 100 ∷ refused' 10 100 ∷ refused' 0 100 ∷ refused' 0 120 ∷ refused' 0 120 ∷ refused' 10 120
    ∷ refused' 0 4_294_967_295 ∷ [])
    ∷ obeys "8, 9 and 10 also after a breach, and nothing else" (main (simply 0 (pos 60)))
    (mark 170 ∷ [] ∷ mark 161 ∷ reading 171 (pos 1_000_000_001) ∷ mark 180 ∷ mark 170 ∷ []) (
    leads 0 100 100 (owed 17 100) (by 160 0)
    ∷ leads 0 170 170 (by 160 0) (by 160 0) ∷ leads 8 170 170 (by 160 0) (by 160 0)
    ∷ leads 10 170 170 (by 160 0) (by 160 0) ∷ leads 9 170 170 (by 160 0) (by 160 0)
    ∷ leads 0 170 170 (by 160 0) (by 160 0) ∷ leads 0 170 170 (by 160 0) (by 160 0) ∷ [])
    ∷ []

-- ---- 1 and 2: records
unfoldable pub records : List Trial
records =
    refuses_all "1: under 4 bytes" 1 (3 ∷ 0 ∷ 1 ∷ [])
    ∷ refuses_all "1: a byte more than it says" 1 (sample ++ (0 ∷ []))
    ∷ shows "16,384 bytes and one more"
    (holds (length_ok (record_of 1 (replicate 16_380 0))) ∷ holds (length_ok (record_of 1 (replicate 16_381 0))) ∷ [])
    (holds true ∷ holds false ∷ [])
    ∷ refuses_all "2: only a header" 2 (record_of 1 [])
    ∷ refuses "kind 15 for a clause" 2 (main (record_of 15 []))
    ∷ refuses "kind 23 for a clause" 2 (main (record_of 23 (nothing ++ nothing)))
    ∷ refuses "kind 272 for a clause" 2 (main (record_of 272 []))
    ∷ refuses "kind 31 for an expression" 2 (main (asking (record_of 31 (1 ∷ []))))
    ∷ refuses "kind 44 for an expression" 2 (main (asking (record_of 44 (one ++ one))))
    ∷ refuses "kind 44 for a number" 2 (main (after_is (record_of 44 (le4 1))))
    ∷ refuses "not kind 1" 2 (record_of 2 (le4 100 ++ (2 ∷ 1 ∷ 0 ∷ (a_number ++ nothing))))
    ∷ refuses "not kind 2, the second reading type" 2
    (counting 2 2 0 (a_number ++ (record_of 3 (1 ∷ 1 ∷ []) ++ nothing)))
    ∷ refuses "not kind 3, the second template" 2
    (counting 2 1 2 (a_number ++ (template 0 nothing ++ (record_of 2 (0 ∷ 0 ∷ 0 ∷ 0 ∷ nothing) ++ nothing))))
    ∷ shows "counts of parties, reading types and templates"
    (map (λ b. holds (counts_ok b))
    (counting 0 1 0 [] ∷ counting 17 1 0 [] ∷ counting 1 0 0 [] ∷ counting 1 17 0 [] ∷ counting 1 1 33 []
    ∷ counting 1 1 0 [] ∷ counting 16 16 32 [] ∷ [])) (
    holds false ∷ holds false ∷ holds false ∷ holds false ∷ holds false ∷ holds true ∷ holds true ∷ [])
    ∷ refuses "party count 17" 2 (agreement_with 17 (a_number ∷ []) [] nothing)
    ∷ accepts "the last of 16 parties" 32_768 (agreement_with 16 (a_number ∷ []) [] (simply 15 (pos 60)))
    ∷ accepts "a reading's value count 4" 0 (agreement_with 2 (reading_type_of (1 ∷ 2 ∷ 3 ∷ 1 ∷ []) ∷ []) [] nothing)
    ∷ refuses "a reading's value count 5" 2
    (agreement_with 2 (reading_type_of (1 ∷ 2 ∷ 3 ∷ 1 ∷ 2 ∷ []) ∷ []) [] nothing)
    ∷ refuses "a reading's types fewer than counted" 2 (agreement_with 2 (record_of 2 (2 ∷ 1 ∷ []) ∷ []) [] nothing)
    ∷ refuses "a reading's types more than counted" 2 (agreement_with 2 (record_of 2 (1 ∷ 1 ∷ 1 ∷ []) ∷ []) [] nothing)
    ∷ refuses "a reading's second type byte 4" 2 (agreement_with 2 (reading_type_of (1 ∷ 4 ∷ []) ∷ []) [] nothing)
    ∷ refuses "a reading's length" 2 (counting 2 1 0 (saying 7 2 (1 ∷ 1 ∷ []) ++ nothing))
    ∷ accepts "a template's value count 8" 0 (beside (template_with (replicate 8 1) 0 0 nothing ∷ []))
    ∷ refuses "a template's value count 9" 2 (beside (template_with (replicate 9 1) 0 0 nothing ∷ []))
    ∷ accepts "a template's parameter count 4" 0 (beside (template_with [] 4 0 nothing ∷ []))
    ∷ refuses "the second template's parameter count 5" 2
    (beside (template 0 nothing ∷ template_with [] 5 0 nothing ∷ []))
    ∷ refuses "a template's second type byte 0" 2 (beside (template_with (1 ∷ 0 ∷ []) 0 0 nothing ∷ []))
    ∷ refuses "a template's length" 2 (counting 2 1 1 (a_number ++ (saying 13 3 (0 ∷ 0 ∷ 0 ∷ 0 ∷ nothing) ++ nothing)))
    ∷ accepts "clauses nested 24 deep" 0 (main (nested (all' nothing) 22 nothing))
    ∷ refuses "clauses nested 25 deep" 2 (main (nested (all' nothing) 23 nothing))
    ∷ accepts "a body's clauses nested 24 deep" 0 (beside (template 0 (nested (all' nothing) 21 nothing) ∷ []))
    ∷ refuses "a body's clauses nested 25 deep" 2 (beside (template 0 (nested (all' nothing) 22 nothing) ∷ []))
    ∷ accepts "expressions nested 24 deep" 1 (main (asking (nested opposite 21 yes')))
    ∷ refuses "expressions nested 25 deep" 2 (main (asking (nested opposite 22 yes')))
    ∷ refuses "a clause's length" 2 (main (saying 5 16 []))
    ∷ refuses "an expression's length" 2 (main (asking (op 41 yes' (saying 6 33 (1 ∷ [])))))
    ∷ refuses "a byte left in a number" 2 (main (after_is (record_of 32 (le4 1 ++ (0 ∷ [])))))
    ∷ refuses "a byte left in a truth" 2 (main (asking (record_of 33 (1 ∷ 0 ∷ []))))
    ∷ refuses "a byte left in a party" 2 (main (asking (op 43 (record_of 34 (1 ∷ 0 ∷ [])) (party_of 1))))
    ∷ refuses "a byte left in a value in sight" 2 (main (asking (op 43 (record_of 35 (0 ∷ 0 ∷ [])) one)))
    ∷ refuses "a byte left in fulfilled" 2 (main (record_of 16 (0 ∷ [])))
    ∷ refuses "a byte left behind a not" 2 (main (asking (opposite (yes' ++ (0 ∷ [])))))
    ∷ refuses "a byte left behind a second operand" 2 (main (asking (op 41 yes' (yes' ++ (0 ∷ [])))))
    ∷ refuses "a byte left behind a `then`" 2 (main (next (nothing ++ (0 ∷ []))))
    ∷ refuses "a byte left behind an else" 2 (main (otherwise (nothing ++ (0 ∷ []))))
    ∷ refuses "a byte left behind an if" 2 (main (ifs yes' nothing (nothing ++ (0 ∷ []))))
    ∷ refuses "a byte left behind a join" 2 (main (all' nothing (nothing ++ (0 ∷ []))))
    ∷ refuses "a byte left behind a body" 2 (beside (template 0 (nothing ++ (0 ∷ [])) ∷ []))
    ∷ refuses "a byte left behind the main clause" 2 (main (nothing ++ (0 ∷ [])))
    ∷ refuses "no first operand" 2 (main (asking (op 41 nothing yes')))
    ∷ refuses "no `where`" 2 (main (asking nothing))
    ∷ refuses "no `after`" 2 (main (after_is nothing))
    ∷ refuses "no `within`" 2 (main (within_is nothing))
    ∷ refuses "no `where` of a choice" 2 (main (may_typed 1 nothing one one nothing nothing))
    ∷ refuses "no `then` of a choice" 2 (main (chooses one))
    ∷ refuses "no condition of an if" 2 (main (ifs nothing nothing nothing))
    ∷ refuses "no first side of an if" 2 (main (ifs yes' one nothing))
    ∷ refuses "no left side of a join" 2 (main (all' one nothing))
    ∷ refuses "no second body" 2 (beside (template 0 nothing ∷ template 0 one ∷ []))
    ∷ refuses "no second argument" 2 (lending (inst 0 (one ∷ nothing ∷ []) (0 ∷ 1 ∷ [])))
    ∷ accepts "an instance" 3 (lending (inst 0 (one ∷ one ∷ []) (0 ∷ 1 ∷ [])))
    ∷ refuses "an instance of no template" 2 (lending (inst 1 (one ∷ one ∷ []) (0 ∷ 1 ∷ [])))
    ∷ refuses "an argument too few" 2 (lending (inst 0 (one ∷ []) (0 ∷ 1 ∷ [])))
    ∷ refuses "a blame too few" 2 (lending (inst 0 (one ∷ one ∷ []) (0 ∷ [])))
    ∷ refuses "a blame too many" 2 (lending (inst 0 (one ∷ one ∷ []) (0 ∷ 1 ∷ 0 ∷ [])))
    ∷ []

-- ---- 3: typing
-- template 0 declares these parties, template 1 has this body
unfoldable pub named : ℕ → ℕ → List ℕ → List ℕ
named inner outer body = beside (template inner nothing ∷ template outer body ∷ [])

-- eight values of a template, four of a reading and k of the next
unfoldable pub in_sight : ℕ → List ℕ
in_sight k = agreement_with 2 (reading_type_of (replicate 4 1) ∷ reading_type_of (replicate k 1) ∷ [])
    (template_with (replicate 8 1) 0 1 (next (owes_typed 0 2 yes' one one nothing)) ∷ []) nothing

-- sets of parties and party parameters: none, one, one that comes twice, two, two of which one comes twice, every
-- parameter, everyone
unfoldable pub parameters : List ℕ
parameters = 128 ∷ 129 ∷ 130 ∷ 131 ∷ []

unfoldable pub party_sets : List (List ℕ)
party_sets = [] ∷ (15 ∷ []) ∷ (131 ∷ 131 ∷ []) ∷ (0 ∷ 128 ∷ []) ∷ (3 ∷ 129 ∷ 3 ∷ []) ∷ parameters
    ∷ (0 ∷ 1 ∷ 2 ∷ 3 ∷ 4 ∷ 5 ∷ 6 ∷ 7 ∷ 8 ∷ 9 ∷ 10 ∷ 11 ∷ 12 ∷ 13 ∷ 14 ∷ 15 ∷ parameters) ∷ []

unfoldable pub types : List Trial
types =
    refuses_all "3: 1 + true" 3 (main (within_is (op 37 one yes')))
    ∷ refuses "true + 1" 3 (main (within_is (op 37 yes' one)))
    ∷ refuses "true + true" 3 (main (within_is (op 37 yes' yes')))
    ∷ refuses "1 and true" 3 (main (asking (op 41 one yes')))
    ∷ refuses "true and 1" 3 (main (asking (op 41 yes' one)))
    ∷ refuses "1 and 1" 3 (main (asking (op 41 one one)))
    ∷ refuses "true < 1" 3 (main (asking (op 42 yes' one)))
    ∷ refuses "1 < true" 3 (main (asking (op 42 one yes')))
    ∷ refuses "a party < a party" 3 (main (asking (op 42 (party_of 0) (party_of 1))))
    ∷ refuses "1 = true" 3 (main (asking (op 43 one yes')))
    ∷ refuses "1 = a party" 3 (main (asking (op 43 one (party_of 0))))
    ∷ refuses "true = 1" 3 (main (asking (op 43 yes' one)))
    ∷ refuses "true = a party" 3 (main (asking (op 43 yes' (party_of 0))))
    ∷ refuses "a party = 1" 3 (main (asking (op 43 (party_of 0) one)))
    ∷ refuses "a party = true" 3 (main (asking (op 43 (party_of 0) yes')))
    ∷ refuses "not 1" 3 (main (asking (opposite one)))
    ∷ refuses "`where` a sum" 3 (main (asking (op 37 one one)))
    ∷ refuses "`after` a truth" 3 (main (after_is (op 41 yes' yes')))
    ∷ refuses "`within` a comparison" 3 (main (within_is (op 42 one one)))
    ∷ refuses "`within` an equation" 3 (main (within_is (op 43 one one)))
    ∷ refuses "`within` a not" 3 (main (within_is (opposite yes')))
    ∷ refuses "`after` of a choice" 3 (main (may_typed 1 yes' yes' one nothing nothing))
    ∷ refuses "an if's condition" 3 (main (ifs one nothing nothing))
    ∷ refuses "an if's first side" 3 (main (ifs yes' (asking one) nothing))
    ∷ refuses "an if's second side" 3 (main (ifs yes' nothing (asking one)))
    ∷ refuses "a join's left side" 3 (main (all' (asking one) nothing))
    ∷ refuses "a join's right side" 3 (main (all' nothing (asking one)))
    ∷ refuses "an obligation's `then`" 3 (main (next (asking one)))
    ∷ refuses "a choice's `then`" 3 (main (chooses (asking one)))
    ∷ refuses "an else" 3 (main (otherwise (asking one)))
    ∷ refuses "the second template's body" 3 (beside (template 0 nothing ∷ template 1 (asking one) ∷ []))
    ∷ refuses "the second argument" 3 (lending (inst 0 (one ∷ yes' ∷ []) (0 ∷ 1 ∷ [])))
    ∷ refuses "the second blame" 3 (lending (inst 0 (one ∷ one ∷ []) (0 ∷ 2 ∷ [])))
    ∷ refuses "a number above the end" 3 (main (within_is (lit (pos 1_000_000_001))))
    ∷ refuses "a number below the end" 3 (main (within_is (lit (negsuc 1_000_000_000))))
    ∷ accepts "numbers at both ends" 1 (main (owes 0 yes' least most nothing))
    ∷ refuses "truth 2" 3 (main (asking (truth_of 2)))
    ∷ refuses "a party at the count" 3 (main (asking (op 43 (party_of 0) (party_of 2))))
    ∷ refuses "`where` sees one value" 3 (main (asking (is (var 1) (pos 0))))
    ∷ refuses "`after` sees no reading" 3 (main (after_is (var 0)))
    ∷ refuses "`within` sees no reading" 3 (main (within_is (var 0)))
    ∷ refuses "an else sees no reading" 3 (main (otherwise (within_is (var 0))))
    ∷ accepts "a `then` sees a value and the remaining time" 1
    (main (next (chooses (within_is (op 37 (var 3) (op 37 (var 2) (op 37 (var 1) (var 0))))))))
    ∷ refuses "a `then` sees no more" 3 (main (next (after_is (var 2))))
    ∷ refuses "a choice's `then` sees no more" 3 (main (chooses (after_is (var 2))))
    ∷ accepts "a template's truth, then the reading's number, then the remaining time" 0
    (beside (template_with (2 ∷ []) 0 1
    (owes 0 (op 41 (var 0) (is (var 1) (pos 0))) (pos 0) (pos 60) (after_is (op 37 (var 1) (var 2)))) ∷ []))
    ∷ refuses "a party parameter is no value" 3
    (beside (template_with [] 1 0 (ifs (op 43 (var 0) (party_of 0)) nothing nothing) ∷ []))
    ∷ accepts "16 in sight" 0 (in_sight 2)
    ∷ refuses "17 in sight" 3 (in_sight 3)
    ∷ accepts "the last party" 2 (main (simply 1 (pos 60)))
    ∷ refuses "a blame at the count" 3 (main (simply 2 (pos 60)))
    ∷ refuses "a parameter in the main clause" 3 (main (simply 128 (pos 60)))
    ∷ accepts "the last parameter" 0 (beside (template_with [] 4 0 (simply 131 (pos 60)) ∷ []))
    ∷ refuses "a parameter that the template lacks" 3 (beside (template_with [] 3 0 (simply 131 (pos 60)) ∷ []))
    ∷ refuses "blame 127" 3 (beside (template_with [] 4 0 (simply 127 (pos 60)) ∷ []))
    ∷ refuses "wanted type 0" 3 (main (owes_typed 0 0 yes' one one nothing))
    ∷ refuses "wanted type over the count" 3 (main (may_typed 2 yes' one one nothing nothing))
    ∷ refuses "the second declared party" 3 (beside (template 5 nothing ∷ []))
    ∷ accepts "declared parties" 0 (beside (template 3 (all' (simply 0 (pos 60)) (simply 1 (pos 60))) ∷ []))
    ∷ refuses "a second constant not declared" 3
    (beside (template 1 (all' (simply 0 (pos 60)) (simply 1 (pos 60))) ∷ []))
    ∷ accepts "an instance's declared party, declared" 0 (named 2 2 (call 0))
    ∷ refuses "an instance's declared party, not declared" 3 (named 2 1 (call 0))
    ∷ refuses "an instance's blame, not declared" 3
    (beside (template_with [] 1 0 nothing ∷ template 1 (inst 0 [] (1 ∷ [])) ∷ []))
    ∷ accepts "the last of 16 declared parties" 32_768
    (agreement_with 16 (a_number ∷ []) (template 32_768 nothing ∷ []) (call 0))
    ∷ accepts "parties of an if" 3 (main (ifs yes' (simply 0 (pos 60)) (simply 1 (pos 60))))
    ∷ accepts "parties of a join" 3 (main (all' (simply 0 (pos 60)) (simply 1 (pos 60))))
    ∷ accepts "parties of a choice" 3 (main (may yes' (pos 0) (pos 60) (simply 0 (pos 60)) (simply 1 (pos 60))))
    ∷ accepts "parties of an obligation" 3 (main (next (simply 1 (pos 60))))
    ∷ accepts "parties of an instance" 3 (agreement (template_with [] 1 1 nothing ∷ []) (inst 0 [] (1 ∷ [])))
    ∷ accepts "an `or` by one party" 2
    (main (any' (simply 1 (pos 50)) (owes 1 yes' (pos 0) (pos 60) (simply 1 (pos 60)))))
    ∷ refuses "an `or` by two parties" 3 (main (any' (simply 0 (pos 50)) (simply 1 (pos 60))))
    ∷ refuses "an `or` by a party and a parameter" 3
    (beside (template_with [] 1 1 (any' (simply 0 (pos 60)) (simply 128 (pos 60))) ∷ []))
    ∷ shows "the number of members, parameters too" (map (λ ps. counts (member_count ps)) party_sets)
    (counts 0 ∷ counts 1 ∷ counts 1 ∷ counts 2 ∷ counts 2 ∷ counts 4 ∷ counts 20 ∷ [])
    ∷ []

-- ---- 4: guards
unfoldable pub guards : List Trial
guards =
    mains "the main clause's parties" 3 (main (all' (simply 0 (pos 60)) (simply 1 (pos 60))))
    ∷ mains "no parties of what is refused" 0 []
    ∷ refuses "4: itself" 4 (agreement (template 0 (call 0) ∷ []) (asking (op 43 one one)))
    ∷ refuses "a later one" 4 (beside (template 0 (call 1) ∷ template 0 nothing ∷ []))
    ∷ refuses "the second body" 4 (beside (template 0 nothing ∷ template 0 (call 1) ∷ []))
    ∷ refuses "a join's left side" 4 (beside (template 0 (all' (call 0) nothing) ∷ []))
    ∷ refuses "a join's right side" 4 (beside (template 0 (all' nothing (call 0)) ∷ []))
    ∷ refuses "an if's first side" 4 (beside (template 0 (ifs yes' (call 0) nothing) ∷ []))
    ∷ refuses "an if's second side" 4 (beside (template 0 (ifs yes' nothing (call 0)) ∷ []))
    ∷ refuses "an else" 4 (beside (template 0 (otherwise (call 0)) ∷ []))
    ∷ accepts "an earlier one" 0 (beside (template 0 nothing ∷ template 0 (call 0) ∷ []))
    ∷ accepts "an obligation's `then`" 1 (agreement (template 1 (next (call 0)) ∷ []) (call 0))
    ∷ accepts "a choice's `then`" 0 (agreement (template 0 (chooses (call 0)) ∷ []) (call 0))
    ∷ []

-- ---- 5: widths
-- templates of width 3, 9, 21, 45, 93 and 189: each but the first joins the one before to itself
unfoldable pub ladder : List (List ℕ)
ladder = template 0 (all' nothing nothing) ∷ map (λ k. template 0 (all' (call k) (call k))) (0 ∷ 1 ∷ 2 ∷ 3 ∷ 4 ∷ [])

-- of width 254 and the last clause's
unfoldable pub wide : List ℕ → List ℕ
wide c = all' (call 5) (all' (call 3) (all' (call 1) (all' (call 0) c)))

-- the same as clauses
unfoldable pub calls : ℕ → Clause
calls k = instance k [] []

unfoldable pub both' : Clause → Clause → Clause
both' l r = join and l r

unfoldable pub body : Clause → Template
body c = record { head = record { values = []; params = 0; declared = []; units = none }; body = c }

unfoldable pub ladder' : List Template
ladder' = body (both' fulfilled fulfilled) ∷ map (λ k. body (both' (calls k) (calls k))) (0 ∷ 1 ∷ 2 ∷ 3 ∷ 4 ∷ [])

unfoldable pub wide' : Clause → Clause
wide' c = both' (calls 5) (both' (calls 3) (both' (calls 1) (both' (calls 0) c)))

unfoldable pub waiting : Wait
waiting = record {
  place = 0;
  wanted = 1;
  condition = truth_lit 1;
  after = number_lit (pos 0);
  within = number_lit
      (pos 60);
}

unfoldable pub next' : Clause → Clause
next' t = obligation 0 waiting t

unfoldable pub either' : Clause → Clause → Clause
either' t f = choice waiting t f

unfoldable pub if' : Clause → Clause → Clause
if' t f = if (truth_lit 1) t f

unfoldable pub widest : Clause
widest = wide' (either' fulfilled fulfilled)

unfoldable pub too_wide : Clause
too_wide = wide' (both' fulfilled fulfilled)

-- a typed agreement with these templates behind the ladder
unfoldable pub laddered : List Template → Clause → Agreement
laddered ts c = record {
  start = 100;
  parties = 2;
  readings = (number ∷ []) ∷ [];
  templates = ladder' ++ ts;
  main = c;
}

unfoldable pub narrow : String → List Template → Clause → Trial
narrow n ts c = shows n (decides (check_typed (laddered ts c) []) ∷ []) (decides (accepted (laddered ts c) []) ∷ [])

unfoldable pub over : String → List Template → Clause → Trial
over n ts c = shows n (decides (check_typed (laddered ts c) []) ∷ []) (decides (refused 5) ∷ [])

unfoldable pub widths : List Trial
widths =
    accepts "256" 0 (agreement ladder (wide (otherwise nothing)))
    ∷ refuses "5: 257" 5 (agreement ladder (wide (all' nothing nothing)))
    ∷ narrow "a clause of 256" [] widest
    ∷ narrow "a `then` of 256" [] (next' widest)
    ∷ narrow "a body of 256, an obligation of 1" (body widest ∷ [])
    (both' (calls 5) (both' (calls 3)
    (both' (calls 1) (both' (both' (next' widest) fulfilled) (both' bad_clause (next' widest))))))
    ∷ narrow "a body that is no clause" (body bad_clause ∷ []) fulfilled
    ∷ over "257" [] too_wide
    ∷ over "257 by an obligation" [] (wide' (both' (next' fulfilled) fulfilled))
    ∷ over "257 by an if" [] (wide' (if' fulfilled fulfilled))
    ∷ over "257 by an if's first side" [] (if' (wide' fulfilled) fulfilled)
    ∷ over "257 by an if's second side" [] (if' fulfilled (wide' fulfilled))
    ∷ over "257 by a join's left side" [] (both' (wide' fulfilled) fulfilled)
    ∷ over "257 by an else" [] (either' fulfilled widest)
    ∷ over "a `then` of 257" [] (next' too_wide)
    ∷ over "a choice's `then` of 257" [] (either' too_wide fulfilled)
    ∷ over "a `then` within a `then`" [] (next' (next' too_wide))
    ∷ over "a `then` within a choice's `then`" [] (either' (next' too_wide) fulfilled)
    ∷ over "a `then` within an else" [] (either' fulfilled (next' too_wide))
    ∷ over "a `then` within an if's first side" [] (if' (next' too_wide) fulfilled)
    ∷ over "a `then` within an if's second side" [] (if' fulfilled (next' too_wide))
    ∷ over "a `then` within a join's left side" [] (both' (next' too_wide) fulfilled)
    ∷ over "a `then` within a join's right side" [] (both' fulfilled (next' too_wide))
    ∷ over "the last body" (body fulfilled ∷ body too_wide ∷ []) fulfilled
    ∷ over "the last body's `then`" (body fulfilled ∷ body (next' too_wide) ∷ []) fulfilled
    ∷ []

-- ---- 7: the run that a table shows
-- three parties, the main clause's being 0 and 1; reading type 1 with a number, a truth and a party
-- template 0 (its body at place 28): a number and two parameters, of whom the first owes a reading above that number
-- main: party 0 owes a reading with truth (at 72), then a choice (at 99) sees number, truth, party and remaining time;
-- and template 0 for party 1, or party 1 owes a reading without truth (at 179)
unfoldable pub mixed : List ℕ
mixed = agreement_with 3 (reading_type_of (1 ∷ 2 ∷ 3 ∷ []) ∷ [])
    (template_with (1 ∷ []) 2 0 (owes 128 (op 42 (var 0) (var 1)) (pos 0) (pos 60) nothing) ∷ [])
    (all' (owes 0 (var 1) (pos 0) (pos 60) (otherwise (simply 0 (pos 20))))
    (any' (inst 0 (lit (pos 50) ∷ []) (1 ∷ 1 ∷ [])) (owes 1 (opposite (var 1)) (pos 0) (pos 60) nothing)))

-- after the reading (110; 7, true, party 2): an `and`, the choice, an `or`,
-- the template's and the main clause's obligation
unfoldable pub lent : ℕ → ℕ → List ℤ
lent p q = unit_of 17 28 100 (pos p ∷ pos q ∷ []) (pos 50 ∷ [])

unfoldable pub offered : ℤ → ℕ → List ℤ
offered z b = unit_of 18 99 110 [] (z ∷ pos b ∷ pos 2 ∷ pos 50 ∷ [])

unfoldable pub units' : ℕ → ℕ → ℤ → ℕ → ℕ → ℕ → List (List ℤ)
units' j k z b p a = join_unit j ∷ offered z b ∷ join_unit k ∷ lent p 1 ∷ unit_of 17 179 a [] [] ∷ []

-- a head and units that last moved at the start: what lies behind them to 3,080 cells is left out, but for one unit
unfoldable pub short : ℕ → List (List ℤ) → List ℤ
short now us =
    filled 8 (pos 1 ∷ pos now ∷ pos 0 ∷ pos 0 ∷ pos (length us) ∷ pos 100 ∷ []) ++ (flat us ++ replicate 24 (pos 0))

unfoldable pub good : List ℤ
good = short 110 (units' 20 21 (pos 7) 1 1 100)

unfoldable pub ended : List ℤ → List ℤ
ended zs = filled 40 zs

unfoldable pub broke : ℕ → ℕ → List ℤ
broke time bits = ended (pos 3 ∷ pos 170 ∷ pos time ∷ pos bits ∷ pos 0 ∷ pos 100 ∷ [])

unfoldable pub full : ℕ → List ℤ
full now = ended (pos 2 ∷ pos now ∷ pos 0 ∷ pos 0 ∷ pos 0 ∷ pos 100 ∷ [])

-- the table with another number in a cell; cell k of unit u
unfoldable pub set : ℕ → ℤ → List ℤ → List ℤ
set i z [] = []
set zero z (c ∷ cs) = z ∷ cs
set (suc i) z (c ∷ cs) = c ∷ set i z cs

unfoldable pub alter : ℕ → ℕ → ℤ → List ℤ
alter u k z = set (8 + 24 * u + k) z good

unfoldable pub read_by : CheckResult → List (List ℤ) → List Seen
read_by (refused n) ts = []
read_by (accepted ag ps) ts = map (λ t. reads (run_of ag ps t)) ts

unfoldable pub rejects : String → List (List ℤ) → Trial
rejects n ts = record { name = n; shown = read_by (checked mixed) ts; expected = map (λ t. reads none) ts }

-- a run that last moved at the start, or later
unfoldable pub ends : ℕ → Outcome → Seen
ends now o = reads (some (record { last_time = now; last_moved = 100; outcome = o }))

unfoldable pub running' : ℕ → Residue → Seen
running' now r = ends now (running r)

unfoldable pub moves : ℕ → ℕ → Outcome → Seen
moves now moved o = reads (some (record { last_time = now; last_moved = moved; outcome = o }))

-- the residue of those units
unfoldable pub lent' : ℕ → ℕ → Residue
lent' p q = unit an_obligation 28 100 (record { params = p ∷ q ∷ []; values = num (pos 50) ∷ [] })

unfoldable pub residue : Join → Join → ℤ → Bool → ℕ → ℕ → Residue
residue j k z b p a = both j (unit a_choice 99 110
    (record { params = []; values = num z ∷ bool b ∷ who 2 ∷ num (pos 50) ∷ [] }))
    (both k (lent' p 1) (unit an_obligation 179 a (record { params = []; values = [] })))

unfoldable pub sound : List (List ℤ)
sound =
    good
    ∷ short 110 (units' 20 20 most 0 0 110)
    ∷ short 110 (units' 20 21 least 1 1 100)
    ∷ short 110 (join_unit 20 ∷ join_unit 21 ∷ lent 1 0 ∷ lent 1 1 ∷ lent 0 2 ∷ [])
    ∷ full 100 ∷ full 4_294_967_295
    ∷ broke 160 3 ∷ broke 100 2 ∷ broke 170 1
    ∷ set 5 (pos 110) good ∷ set 5 (pos 120) (full 120) ∷ set 5 (pos 170) (broke 160 1) ∷ []

-- waiting clauses in each place of a `then`, which sees a value and the remaining time, and in a template
unfoldable pub sights : List ℕ
sights = agreement_with 3 (a_number ∷ [])
    (template_with (1 ∷ []) 2 0 (may yes' (pos 0) (pos 60) (simply 128 (pos 60)) (simply 129 (pos 60))) ∷ [])
    (next (all' (ifs yes' (simply 0 (pos 60)) (simply 0 (pos 60)))
    (may yes' (pos 0) (pos 60) (simply 0 (pos 60)) (simply 0 (pos 60)))))

unfoldable pub alone : ℕ → ℕ → List ℤ → List ℤ → List ℤ
alone s p qs vs = short 120 (unit_of s p 110 qs vs ∷ [])

unfoldable pub alone' : Sort → ℕ → List ℕ → List ℕ → Seen
alone' s p qs ns = running' 120 (unit s p 110 (record { params = qs; values = nums ns }))

unfoldable pub in_place : List (List ℤ)
in_place =
    alone 17 154 [] (pos 7 ∷ pos 50 ∷ [])
    ∷ alone 17 185 [] (pos 7 ∷ pos 50 ∷ [])
    ∷ alone 18 216 [] (pos 7 ∷ pos 50 ∷ [])
    ∷ alone 17 242 [] (pos 7 ∷ pos 50 ∷ pos 8 ∷ pos 20 ∷ [])
    ∷ alone 17 273 [] (pos 7 ∷ pos 50 ∷ [])
    ∷ alone 18 26 (pos 0 ∷ pos 0 ∷ []) (pos 9 ∷ [])
    ∷ alone 18 26 (pos 0 ∷ pos 2 ∷ []) (pos 9 ∷ []) ∷ []

unfoldable pub tables : List Trial
tables =
    shows "tables that show a run" (read_by (checked mixed) sound) (
    running' 110 (residue and or (pos 7) true 1 100)
    ∷ running' 110 (residue and and most false 0 110)
    ∷ running' 110 (residue and or least true 1 100)
    ∷ running' 110 (both and (both or (lent' 1 0) (lent' 1 1)) (lent' 0 2))
    ∷ ends 100 done ∷ ends 4_294_967_295 done
    ∷ ends 170 (breach 160 (0 ∷ 1 ∷ [])) ∷ ends 170 (by 100 1) ∷ ends 170 (by 170 0)
    ∷ moves 110 110 (running (residue and or (pos 7) true 1 100)) ∷ moves 120 120 done ∷ moves 170 170 (by 160 0) ∷ [])
    ∷ shows "in each place what is in sight there; the last with a party not of the main clause"
    (read_by (checked sights) in_place) (
    alone' an_obligation 154 [] (7 ∷ 50 ∷ [])
    ∷ alone' an_obligation 185 [] (7 ∷ 50 ∷ [])
    ∷ alone' a_choice 216 [] (7 ∷ 50 ∷ [])
    ∷ alone' an_obligation 242 [] (7 ∷ 50 ∷ 8 ∷ 20 ∷ [])
    ∷ alone' an_obligation 273 [] (7 ∷ 50 ∷ [])
    ∷ alone' a_choice 26 (0 ∷ 0 ∷ []) (9 ∷ [])
    ∷ reads none ∷ [])
    ∷ shows "truths in cells" (cells (cells_of (bool false ∷ bool true ∷ [])) ∷ []) (cells (pos 0 ∷ pos 1 ∷ [])
    ∷ [])
    ∷ rejects "7: a state that is none"
    (set 0 (pos 0) good ∷ set 0 (pos 4) good ∷ set 0 (negsuc 0) good ∷ take 7 (full 100) ∷ [])
    ∷ rejects "7: a last reading time outside its range"
    (full 99 ∷ set 1 (negsuc 0) (full 100) ∷ full 4_294_967_296 ∷ set 1 (pos 4_294_967_296) good ∷ [])
    ∷ rejects "7: a breach time, parties or a zero while running"
    (set 2 (pos 105) good ∷ set 3 (pos 1) good ∷ set 6 (negsuc 0) good ∷ set 7 (pos 1) good ∷ [])
    ∷ rejects "7: moved before the start, after the last reading or at no time, in each state"
    (set 5 (pos 99) good ∷ set 5 (pos 111) good ∷ set 5 (negsuc 99) good
    ∷ set 5 (pos 99) (full 120) ∷ set 5 (pos 121) (full 120) ∷ set 5 (negsuc 99) (full 120)
    ∷ set 5 (pos 99) (broke 160 1) ∷ set 5 (pos 171) (broke 160 1) ∷ set 5 (negsuc 99) (broke 160 1) ∷ [])
    ∷ rejects "7: units in use"
    (set 4 (pos 0) good ∷ set 4 (pos 4) good ∷ set 4 (pos 6) good ∷ short 110 [] ∷
    (filled 8 (pos 1 ∷ pos 110 ∷ pos 0 ∷ pos 0 ∷ pos 129 ∷ pos 100 ∷ []) ++
    (flat (replicate 64 (join_unit 20)) ++ flat (replicate 65 (lent 1 1)))) ∷ [])
    ∷ rejects "7: joins without sides, two residues"
    (short 110 (join_unit 20 ∷ []) ∷ short 110 (join_unit 21 ∷ lent 1 1 ∷ []) ∷ short 110 (lent 1 1 ∷ join_unit 20 ∷ [])
    ∷ short 110 (lent 1 1 ∷ lent 1 1 ∷ []) ∷ [])
    ∷ rejects "7: a unit's sort"
    (alter 4 0 (pos 16) ∷ alter 4 0 (pos 19) ∷ alter 4 0 (pos 22) ∷ alter 4 0 (negsuc 16) ∷ alter 4 0 (pos 18)
    ∷ alter 1 0 (pos 17) ∷ alter 1 0 (pos 19) ∷ [])
    ∷ rejects "7: a place that is no waiting clause"
    (alter 4 1 (pos 0) ∷ alter 4 1 (negsuc 0) ∷ alter 4 1 (pos 68) ∷ alter 4 1 (pos 210) ∷ [])
    ∷ rejects "7: an A before the start or after the last reading"
    (alter 4 2 (pos 99) ∷ alter 4 2 (pos 111) ∷ alter 4 2 (negsuc 0) ∷ [])
    ∷ rejects "7: a parameter" (short 110 (lent 1 3 ∷ []) ∷ alter 3 4 (negsuc 0) ∷ alter 3 5 (pos 1) ∷ alter 3 7
    (pos 1) ∷ alter 4 3 (pos 1) ∷ [])
    ∷ rejects "7: a value" (alter 1 8 (pos 1_000_000_001) ∷ alter 1 9 (pos 2) ∷ alter 1 10 (pos 3) ∷ alter 1 10
    (negsuc 0) ∷ alter 1 12 (pos 1) ∷ alter 4 8 (pos 1) ∷ alter 4 23 (negsuc 0) ∷ [])
    ∷ rejects "7: a join's other cells, an unused cell"
    (alter 0 1 (pos 68) ∷ alter 2 23 (negsuc 0) ∷ alter 5 0 (pos 1) ∷ alter 5 23 (negsuc 0) ∷ [])
    ∷ rejects "7: parties beside an `or`, a party not of the main clause"
    (short 110 (units' 20 21 (pos 7) 1 0 100) ∷ short 110 (units' 21 20 (pos 7) 1 1 100) ∷ short 110 (lent 2 1 ∷ [])
    ∷ short 110 (join_unit 21 ∷ join_unit 20 ∷ lent 1 1 ∷ lent 0 1 ∷ lent 1 1 ∷ [])
    ∷ short 110 (join_unit 21 ∷ join_unit 20 ∷ lent 0 1 ∷ lent 1 1 ∷ lent 1 1 ∷ []) ∷ [])
    ∷ rejects "7: a fulfilled table with more"
    (set 2 (pos 105) (full 110) ∷ set 3 (pos 1) (full 110) ∷ set 4 (pos 1) (full 110) ∷ set 39 (pos 1) (full 110)
    ∷ [])
    ∷ rejects "7: a breach" (broke 160 0 ∷ broke 160 4 ∷ broke 160 5 ∷ broke 160 65_537 ∷ broke 99 1 ∷ broke 171 1
    ∷ set 4 (pos 1) (broke 160 1) ∷ set 8 (pos 17) (broke 160 1) ∷ set 39 (negsuc 0) (broke 160 1) ∷ [])
    ∷ []

-- ---- the entries on tables of 3,080 cells
unfoldable pub begun : List (List ℤ)
begun = join_unit 20 ∷ unit_of 17 72 100 [] [] ∷ join_unit 21 ∷ lent 1 1 ∷ unit_of 17 179 100 [] [] ∷ []

-- 65 obligations by five templates: 129 units
unfoldable pub two : List ℕ → List ℕ
two c = all' c c

unfoldable pub crowd : List ℕ
crowd = agreement (template 1 (two (two (simply 0 (pos 60)))) ∷ map (λ k. template 1 (two (call k)))
    (0 ∷ 1 ∷ 2 ∷ 3 ∷ [])) (all' (call 4) (simply 0 (pos 60)))

unfoldable pub entries : List Trial
entries =
    follows "values, truths, parties and parameters in cells" mixed
    (reading_with 110 1 (pos 7 ∷ pos 1 ∷ pos 2 ∷ []) ∷ [])
    (live 100 100 begun 160 3 ∷ live 110 110 (units' 20 21 (pos 7) 1 1 100) 160 2 ∷ [])
    ∷ shows "6: a cell too few and one too many"
    (answers (unmarked (start_of sample (take 3079 zeros))) ∷ answers (reading_of sample (take 3079 zeros) [])
    ∷ answers (unmarked (start_of sample (pos 1 ∷ zeros))) ∷ [])
    (denies 6 (take 3079 zeros) ∷ denies 6 (take 3079 zeros) ∷ denies 6 (pos 1 ∷ zeros) ∷ [])
    ∷ shows "a start whatever the table was, 7 before 8"
    (answers (unmarked (start_of sample (set 0 (pos 9) zeros))) ∷ answers (reading_of sample zeros []) ∷ [])
    (gives (breach_at 160 1) (running_table 100 100 (unit_of 17 17 100 [] [] ∷ [])) ∷ denies 7 zeros ∷ [])
    ∷ shows "11 at the start, 8 on a fulfilled table"
    (answers (unmarked (start_of crowd zeros)) ∷ answers (reading_of sample (fulfilled_table 120 100) []) ∷ [])
    (denies 11 zeros ∷ denies 8 (fulfilled_table 120 100) ∷ [])
    ∷ []

-- ---- when a run last moved: paper 02, No. 1
-- an obligation within 60 whose `then` is itself anew, at place 25
unfoldable pub ever : List ℕ
ever = agreement (template 1 (next (call 0)) ∷ []) (call 0)

unfoldable pub since : ℕ → List (List ℤ)
since a = unit_of 17 25 a [] [] ∷ []

-- a head and two cells, as if they were units
unfoldable pub ten : List ℤ
ten = map pos (1 ∷ 12 ∷ 13 ∷ 14 ∷ 15 ∷ 16 ∷ 17 ∷ 18 ∷ 19 ∷ []) ++ (negsuc 20 ∷ [])

unfoldable pub unlike : List (List ℤ)
unlike =
    set 0 (pos 2) ten ∷ set 0 (negsuc 1) ten ∷ set 8 (pos 20) ten ∷ set 8 (negsuc 19) ten ∷ set 9 (negsuc 21) ten
    ∷ set 9 (pos 20) ten ∷ take 9 ten ∷ (ten ++ (pos 0 ∷ [])) ∷ []

unfoldable pub alike : List (List ℤ)
alike =
    ten ∷ set 1 (pos 0) ten ∷ set 2 (pos 0) ten ∷ set 3 (pos 0) ten ∷ set 4 (pos 0) ten ∷ set 5 (pos 0) ten
    ∷ set 6 (pos 0) ten ∷ set 7 (pos 0) ten ∷ []

unfoldable pub moved : List Trial
moved =
    follows "a mark moves the last reading time alone; a unit with another A, a breach" ever
    (mark 105 ∷ reading 110 (pos 1) ∷ mark 120 ∷ reading 120 (pos 1) ∷ mark 181 ∷ mark 190 ∷ [])
    (live 100 100 (since 100) 160 1 ∷ live 105 100 (since 100) 160 1 ∷ live 110 110 (since 110) 170 1
    ∷ live 120 110 (since 110) 170 1 ∷ live 120 120 (since 120) 180 1 ∷ breaches 181 181 180 1
    ∷ breaches 181 181 180 1 ∷ [])
    ∷ follows "fulfilled, and a mark and a reading after it" sample
    (mark 105 ∷ reading 110 (pos 250) ∷ mark 120 ∷ reading 130 (pos 250) ∷ [])
    (live 100 100 (unit_of 17 17 100 [] [] ∷ []) 160 1 ∷ live 105 100 (unit_of 17 17 100 [] [] ∷ []) 160 1
    ∷ fulfils 110 110 ∷ fulfils 120 110 ∷ fulfils 130 110 ∷ [])
    ∷ shows "a unit replaced by its equal, and by one a minute later"
    (answers (uncosted (reading_of ever (running_table 120 105 (since 120)) (reading 120 (pos 1)))) ∷ answers
    (uncosted (reading_of ever (running_table 120 105 (since 120)) (reading 121 (pos 1)))) ∷ [])
    (gives (breach_at 180 1) (running_table 120 105 (since 120)) ∷ gives (breach_at 181 1)
    (running_table 121 121 (since 121)) ∷ [])
    ∷ shows "what has altered: the state cell, a unit cell"
    (map (λ t. holds (altered ten t)) unlike ++ map (λ t. holds (altered t ten)) unlike)
    (replicate 16 (holds true))
    ∷ shows "what has not: any other cell of the head" (map (λ t. holds (altered ten t)) alike)
    (replicate 8 (holds false))
    ∷ []

-- ---- where no accepted agreement leads: what is not typed is stuck, and refused
unfoldable pub bare : Sight
bare = record { params = []; values = [] }

unfoldable pub lent_a_number : Template
lent_a_number = record {
  head = record { values = number ∷ []; params = 1; declared = []; units = none };
  body = fulfilled;
}

unfoldable pub asked : Clause → Seen
asked c = decides (check_decoded (laddered (lent_a_number ∷ []) c))

unfoldable pub op' : Op → Expr → Expr → Seen
op' o a b = evaluates (eval [] (binary o a b))

unfoldable pub still : Outcome → Run
still o = record { last_time = 5; last_moved = 5; outcome = o }

unfoldable pub absent : {A : Type 0} → Option A → Bool
absent none = true
absent (some x) = false

unfoldable pub unreached : List Trial
unreached =
    shows "untyped clauses" (asked bad_clause ∷ asked (if bad_expr fulfilled fulfilled) ∷ asked (calls 7) ∷ asked
    (instance 6 [] (0 ∷ [])) ∷ asked (instance 6 (number_lit (pos 1) ∷ number_lit (pos 1) ∷ []) (0 ∷ [])) ∷ asked
    (instance 6 (number_lit (pos 1) ∷ []) []) ∷ []) (replicate 6 (decides (refused 3)))
    ∷ shows "clauses that cannot be activated"
    (map (λ c. becomes (activate [] c bare 5))
    (bad_clause ∷ calls 0 ∷ if (number_lit (pos 1)) fulfilled fulfilled ∷ [])) (replicate 3 (becomes stuck))
    ∷ shows "operands of another type" (
    op' (arithmetic plus) (truth_lit 1) (number_lit (pos 1)) ∷ op' (arithmetic plus) (number_lit (pos 1)) (party_lit 0)
    ∷ op' conj (number_lit (pos 1)) (truth_lit 1) ∷ op' conj (truth_lit 1) (party_lit 0)
    ∷ op' equal (number_lit (pos 1)) (truth_lit 1) ∷ op' equal (number_lit (pos 1)) (party_lit 1)
    ∷ op' equal (truth_lit 1)
    (number_lit (pos 1)) ∷ op' equal (truth_lit 1) (party_lit 1) ∷ op' equal (party_lit 1) (number_lit (pos 1))
    ∷ op' equal
    (party_lit 1) (truth_lit 1)
    ∷ evaluates (eval [] bad_expr) ∷ evaluates (eval [] (truth_lit 2)) ∷ []) (replicate 12 (evaluates none))
    ∷ shows "a stuck run" (cells (table_of (still stuck)) ∷ forecasts (shown stuck) ∷ forecasts
    (shown (running left)) ∷ becomes (forecast_run (laddered [] fulfilled) (still stuck)) ∷ steps
    (step (laddered [] fulfilled) (still stuck) (mark 9)) done ∷ steps (started (laddered [] bad_clause)) done ∷ [])
    (cells [] ∷ forecasts no_forecast ∷ forecasts no_forecast ∷ becomes stuck ∷ steps
    (record { number = 0; run = still stuck }) done ∷ leads 0 100 100 stuck done ∷ [])
    ∷ shows "the forecast of no agreement, and of no table"
    (forecasts (forecast_of [] zeros) ∷ forecasts (forecast_of sample zeros) ∷ []) (replicate 2 (forecasts no_forecast))
    ∷ shows "fewer values than types" (holds (absent (values_of 2 (number ∷ []) [])) ∷ []) (holds true ∷ [])
    ∷ shows "a unit without cells" (holds (absent (add_unit (laddered [] fulfilled) [] [])) ∷ []) (holds true ∷ [])
    ∷ shows "a byte that is not there" (says (byte [] 0) 0 ∷ []) (says 0 0 ∷ [])
    ∷ shows "a place where nothing stands" (holds (absent (clause_at (laddered [] bad_clause) 99_999)) ∷ [])
    (holds true ∷ [])
    ∷ shows "the width of no template" (holds (narrow_all (laddered [] (calls 99))) ∷ []) (holds true ∷ [])
    ∷ shows "too early for a unit where nothing stands, for a stuck run"
    (holds (some_too_early (laddered [] fulfilled) (record { time = 5; type = 1; values = [] })
    (unit an_obligation 7 5 bare)) ∷ holds (came_early (laddered [] fulfilled) (still stuck) (mark 9)) ∷ [])
    (replicate 2 (holds false))
    ∷ shows "only what waits waits for something"
    (map (λ c. holds (absent (wait_in c))) (fulfilled ∷ if' (next' fulfilled) (next' fulfilled)
    ∷ both' (next' fulfilled) (next' fulfilled) ∷ calls 0 ∷ bad_clause ∷ []))
    (replicate 5 (holds true))
    ∷ shows "only what waits has a sort"
    (map (λ c. holds (is_sort an_obligation c))
    (fulfilled ∷ if' fulfilled fulfilled ∷ both' fulfilled fulfilled ∷ calls 0 ∷ bad_clause ∷ []))
    (replicate 5 (holds false))
    ∷ []

unfoldable pub further : List Trial
further = runs ++ (joins ++ (readings ++
    (records ++ (types ++ (guards ++ (widths ++ (tables ++ (entries ++ (moved ++ unreached)))))))))
