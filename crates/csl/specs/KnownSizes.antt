-- Trials of paper 02, No. 7, by computation, as one claim over a list: what a clause needs, what is refused with 15,
-- and what a sized agreement's run needs on the way.
use Rattle.std.specs.Prelude.{List, [], ◌∷◌, ◌++◌, map, ℕ, suc, pos, replicate}
use Rattle.std.proofs.Math.Option.{some}
use Prim.Native.String.{String}
use Rattle.csl.specs.Syntax.{number, and, Clause, fulfilled, bad_clause, Template, Agreement}
use Rattle.csl.specs.Check.{CheckResult, refused, accepted, checked, check_of, check_decoded, check_typed}
use Rattle.csl.specs.Sizes.{clause_need, main_need}
use Rattle.csl.specs.Values.{num, who}
use Rattle.csl.specs.Outcomes.{an_obligation, Sight, unit, both, done, breach, running, stuck}
use Rattle.csl.specs.Needs.{residue_need, outcome_need}
use Rattle.csl.specs.Run.{started, step}
use Rattle.csl.specs.Table.{Run}
use Rattle.csl.specs.Build.{le2, record_of, nothing, yes', party_of, simply, may, owes, ifs, all', any', inst}
use Rattle.csl.specs.Build.{sized_with, agreement, reading, mark, join_unit}
use Rattle.csl.specs.Trials.{Trial, Seen, checks, counts, decides, follows, live, owed, self}
use Rattle.csl.specs.Further.{says, shows, accepts, refuses, refuses_all, obeys, leads, one, next, chooses, template}
use Rattle.csl.specs.Further.{beside, calls, both', body, next', bare}
use Rattle.csl.specs.Joined.{waiting}
use Rattle.csl.specs.Previews.{keeps, misses}

-- ---- forms of a trial
-- a template of kind 4 with no value and no parameter
unfoldable pub sized_template : ℕ → List ℕ → List ℕ
sized_template units body = sized_with [] 0 3 units body

-- behind these templates, a body that needs so many units and one more: so many and one more do, so many do not
unfoldable pub limits : String → List (List ℕ) → ℕ → List ℕ → Trial
limits n ts k c = shows n
    (map (λ u. checks (check_of (beside (ts ++ (sized_template u c ∷ []))))) (suc k ∷ k ∷ []))
    (says 0 0 ∷ says 15 0 ∷ [])

-- what the main clause needs, and then what the run does: begun, and after each reading
unfoldable pub needs_by : Agreement → Run → List (List ℕ) → List Seen
needs_by a run [] = counts (outcome_need a run.outcome) ∷ []
needs_by a run (r ∷ rs) = counts (outcome_need a run.outcome) ∷ needs_by a (step a run r).run rs

unfoldable pub needs_from : CheckResult → List (List ℕ) → List Seen
needs_from (refused n) rs = []
needs_from (accepted a ps) rs = counts (main_need a) ∷ needs_by a (started a).run rs

unfoldable pub needing : String → List ℕ → List (List ℕ) → List ℕ → Trial
needing n b rs ks = shows n (needs_from (checked b) rs) (map counts ks)

-- ---- clauses: an obligation, and one of each party, which needs 3
unfoldable pub owe : List ℕ
owe = simply 0 (pos 60)

unfoldable pub two : List ℕ
two = all' owe (simply 1 (pos 60))

-- sized agreements: 15 by the body of a template that is not used, and a run that needs its 3 units
unfoldable pub over_size : List ℕ
over_size = beside (sized_template 1 owe ∷ sized_template 2 two ∷ [])

unfoldable pub whole_need : List ℕ
whole_need = agreement (sized_template 3 two ∷ []) (next self)

-- with values and a party parameter: the units stand behind them all
unfoldable pub with_values : List ℕ
with_values = agreement (
    sized_with (1 ∷ 3 ∷ []) 1 1 3 (all' (owes 128 yes' (pos 0) (pos 60) nothing) owe) ∷ [])
    (inst 0 (one ∷ party_of 1 ∷ []) (0 ∷ []))

-- ---- the same as definitions
unfoldable pub sized_body : ℕ → Clause → Template
sized_body u c = record { head = record { values = []; params = 0; declared = []; units = some u }; body = c }

unfoldable pub agreeing : List Template → Clause → Agreement
agreeing ts c = record { start = 100; parties = 2; readings = (number ∷ []) ∷ []; templates = ts; main = c }

-- of width and need 255, and 511
unfoldable pub twice : Clause → Clause
twice c = both' c c

unfoldable pub large : Clause
large = twice (twice (twice (twice (twice (twice (twice (next' fulfilled)))))))

-- the second body needs a unit more than is declared, and the first just what is
unfoldable pub second_over : List Template
second_over = sized_body 0 fulfilled ∷ sized_body 0 (next' fulfilled) ∷ []

unfoldable pub first_at : List Template
first_at = sized_body 1 (next' fulfilled) ∷ sized_body 0 fulfilled ∷ []

-- one of the two declares its units
unfoldable pub first_sized : List Template
first_sized = sized_body 0 fulfilled ∷ body fulfilled ∷ []

unfoldable pub second_sized : List Template
second_sized = body fulfilled ∷ sized_body 0 fulfilled ∷ []

unfoldable pub typed_as : List Template → Clause → Seen
typed_as ts c = decides (check_typed (agreeing ts c) [])

unfoldable pub taken : List Template → Clause → Seen
taken ts c = decides (accepted (agreeing ts c) [])

unfoldable pub in_sight : Sight
in_sight = record { params = 0 ∷ []; values = num (pos 1) ∷ who 1 ∷ [] }

unfoldable pub known_sizes : List Trial
known_sizes =
    accepts "fulfilled needs nothing" 0 (beside (sized_template 0 nothing ∷ []))
    ∷ accepts "an if of two fulfilled needs nothing" 0 (beside (sized_template 0 (ifs yes' nothing nothing) ∷ []))
    ∷ limits "an obligation: 1" [] 0 owe
    ∷ limits "an obligation: its `then`" [] 2 (next two)
    ∷ limits "a choice: 1" [] 0 (chooses nothing)
    ∷ limits "a choice: its `then`" [] 2 (may yes' (pos 0) (pos 60) two owe)
    ∷ limits "a choice: its else" [] 2 (may yes' (pos 0) (pos 60) owe two)
    ∷ limits "an if: its first clause" [] 2 (ifs yes' two owe)
    ∷ limits "an if: its second clause, though it is never followed" [] 2 (ifs yes' owe two)
    ∷ limits "`and`: 1 of its own" [] 0 (all' nothing nothing)
    ∷ limits "`and`: both together" [] 4 (all' owe two)
    ∷ limits "`or`: both together" [] 4 (any' owe (any' owe owe))
    ∷ limits "an instance: what its template declares, not what its body needs" (sized_template 7 owe ∷ []) 6 self
    ∷ limits "an instance of the second template" (sized_template 7 owe ∷ sized_template 5 owe ∷ []) 4 (inst 1 [] [])
    ∷ accepts "an instance of a template without units needs nothing" 0
    (beside (sized_template 0 nothing ∷ sized_template 0 self ∷ []))
    ∷ limits "an instance of its own template behind a reading: all that it declares" [] 0 (next self)
    ∷ refuses "a clause that begins anew beside itself" 15 (beside (sized_template 128 (next (all' self owe)) ∷ []))
    ∷ accepts "declared more than is needed" 0 (beside (sized_template 128 owe ∷ []))
    ∷ accepts "the main clause: 128" 3 (agreement (sized_template 128 owe ∷ []) self)
    ∷ refuses "the main clause: 129" 15 (agreement (sized_template 128 owe ∷ []) (all' self nothing))
    ∷ refuses_all "a body that is not used, before 6" 15 over_size
    ∷ keeps "a preview: 15 before 7" 15 over_size (waiting 110) (mark 120)
    ∷ misses "a preview: 15 before 6" 15 over_size (waiting 110) (mark 120)
    ∷ accepts "128 units" 0 (beside (sized_template 128 nothing ∷ []))
    ∷ refuses "129 units" 2 (beside (sized_template 129 nothing ∷ []))
    ∷ refuses "255 units" 2 (beside (sized_template 255 nothing ∷ []))
    ∷ refuses "kind 4 behind kind 3" 2 (beside (template 0 nothing ∷ sized_template 1 nothing ∷ []))
    ∷ refuses "kind 3 behind kind 4" 2 (beside (sized_template 1 nothing ∷ template 0 nothing ∷ []))
    ∷ refuses "kind 5" 2 (beside (record_of 5 (0 ∷ 0 ∷ (le2 0 ++ nothing)) ∷ []))
    ∷ refuses "kind 5 with units" 2 (beside (record_of 5 (0 ∷ 0 ∷ (le2 0 ++ (1 ∷ nothing))) ∷ []))
    ∷ refuses "kind 2 for the only template" 2 (beside (record_of 2 (0 ∷ 0 ∷ (le2 0 ++ nothing)) ∷ []))
    ∷ refuses "kind 4 without its units" 2 (beside (record_of 4 (0 ∷ 0 ∷ (le2 0 ++ nothing)) ∷ []))
    ∷ refuses "kind 3 with units" 2 (beside (record_of 3 (0 ∷ 0 ∷ (le2 0 ++ (1 ∷ nothing))) ∷ []))
    ∷ accepts "kind 4 with 8 values and 4 parameters" 0 (beside (sized_with (replicate 8 1) 4 0 128 nothing ∷ []))
    ∷ refuses "kind 4 with 129 units behind a value" 2 (beside (sized_with (1 ∷ []) 0 0 129 nothing ∷ []))
    ∷ refuses "kind 4 with 9 values" 2 (beside (sized_with (replicate 9 1) 0 0 1 nothing ∷ []))
    ∷ refuses "kind 4 with a type byte 4" 2 (beside (sized_with (4 ∷ []) 0 0 1 nothing ∷ []))
    ∷ refuses "kind 4 with 5 parameters" 2 (beside (sized_with [] 5 0 1 nothing ∷ []))
    ∷ shows "no template, or templates of kind 3: not sized, whatever is needed"
    (typed_as [] large ∷ typed_as (body large ∷ []) large ∷ typed_as (body fulfilled ∷ body large ∷ []) (calls 1) ∷ [])
    (taken [] large ∷ taken (body large ∷ []) large ∷ taken (body fulfilled ∷ body large ∷ []) (calls 1) ∷ [])
    ∷ shows "one template that declares units, and one that does not: not sized"
    (typed_as first_sized large ∷ typed_as second_sized large ∷ [])
    (taken first_sized large ∷ taken second_sized large ∷ [])
    ∷ shows "sized: the main clause and each body"
    (typed_as (sized_body 0 fulfilled ∷ []) large ∷ typed_as second_over fulfilled ∷ typed_as first_at fulfilled ∷ [])
    (decides (refused 15) ∷ decides (refused 15) ∷ taken first_at fulfilled ∷ [])
    ∷ shows "3, 4 and 5 before 15"
    (decides (check_decoded (agreeing (sized_body 0 (next' fulfilled) ∷ []) bad_clause))
    ∷ typed_as (sized_body 0 (calls 0) ∷ sized_body 0 (next' fulfilled) ∷ []) fulfilled
    ∷ typed_as (sized_body 0 (next' fulfilled) ∷ []) (twice large) ∷ [])
    (decides (refused 3) ∷ decides (refused 4) ∷ decides (refused 5) ∷ [])
    ∷ follows "a run that uses its whole need" whole_need (reading 110 (pos 1) ∷ [])
    (live 100 100 (owed 92 100 ∷ []) 160 1
    ∷ live 110 110 (join_unit 20 ∷ owed 30 110 ∷ owed 61 110 ∷ []) 170 3 ∷ [])
    ∷ needing "it needs 3 all the way, and nothing once breached" whole_need
    (reading 110 (pos 1) ∷ mark 170 ∷ mark 171 ∷ []) (3 ∷ 3 ∷ 3 ∷ 3 ∷ 0 ∷ [])
    ∷ needing "fulfilled needs nothing, whatever the templates declare" (beside (sized_template 7 owe ∷ [])) []
    (0 ∷ 0 ∷ [])
    ∷ needing "an `or` needs both together" (agreement (sized_template 3 (any' owe owe) ∷ []) self) []
    (3 ∷ 3 ∷ [])
    ∷ needing "an instance with values and a parameter: what its template declares" with_values [] (3 ∷ 3 ∷ [])
    ∷ needing "a choice that is taken, then fulfilled" (agreement (sized_template 3 two ∷ [])
    (may yes' (pos 0) (pos 60) owe self)) (reading 110 (pos 1) ∷ reading 120 (pos 1) ∷ []) (3 ∷ 3 ∷ 1 ∷ 0 ∷ [])
    ∷ needing "a unit that vanishes takes its join with it" (agreement (sized_template 3 two ∷ [])
    (all' (simply 0 (pos 60)) (next self))) (mark 110 ∷ reading 120 (pos 1) ∷ []) (5 ∷ 5 ∷ 5 ∷ 3 ∷ [])
    ∷ obeys "units behind values and a party parameter" with_values [] (leads 0 100 100
    (running (both and (unit an_obligation 32 100 in_sight) (unit an_obligation 63 100 in_sight)))
    (breach 160 (0 ∷ 0 ∷ [])) ∷ [])
    ∷ shows "where no accepted agreement leads, and where nothing waits"
    (counts (clause_need [] bad_clause) ∷ counts (clause_need (3 ∷ []) (calls 1))
    ∷ counts (residue_need (agreeing [] fulfilled) (unit an_obligation 7 5 bare))
    ∷ counts (outcome_need (agreeing [] fulfilled) done) ∷ counts (outcome_need (agreeing [] fulfilled) stuck) ∷ [])
    (map counts (0 ∷ 0 ∷ 0 ∷ 0 ∷ 0 ∷ []))
    ∷ []
