-- Demand 3, spelled out sentence by sentence: each is what `monitor`'s theorem says.
use mathlib.Core.Path.{◌≡◌}
use mathlib.Core.Logic.{◌≢◌, ◌↔◌}
use mathlib.Core.List.{List, [], ◌∷◌, ◌++◌}
use mathlib.Core.Option.{some}
use Prim.Native.Nat.{ℕ, ◌*◌, ◌≤◌, ◌<◌}
use lib.Dec.{T}
use lib.IntN.{ℤ, pos}
use lib.ListN.{length, drop}
use Rattle.std.specs.Prelude.{Ok, Option}
use Rattle.csl.specs.Lists.{at}
use Rattle.csl.specs.Parties.{subset}
use Rattle.csl.specs.Syntax.{Agreement}
use Rattle.csl.specs.Check.{checked, accepted}
use Rattle.csl.specs.Outcomes.{breach, stuck}
use Rattle.csl.specs.Rules.{Reading}
use Rattle.csl.specs.Run.{Stepped, started, step}
use Rattle.csl.specs.Table.{Run, table_of, run_of}
use Rattle.csl.specs.Entries.{forecast_run, shown, start_of, untold}
use Rattle.csl.specs.Demand3.{Bytes, AllBytes, fitting, reached, needed, NotStuck, IsBreach, Unaltered, run_after}
use Rattle.csl.specs.Demand3.{costs_by, forecasts_by, marks_by, numbers_by, told_by}
use Rattle.csl.specs.Early.{came_early, mark_of}
use Rattle.csl.specs.Cost.{cost_of}
use Rattle.csl.specs.Marks.{time_in}
use Rattle.monitor.specs.declared.BreachAhead.{BreachAhead}
use Rattle.monitor.specs.Answers.{Started, start_answer, taken_answer}
use Rattle.monitor.specs.Calls.{Call, Calls, last_table, readings_in, number_in, numbers_in, early_in, marks_in}
use Rattle.monitor.specs.Calls.{cost_in, costs_in, forecast_in, forecasts_in}
use Rattle.monitor.specs.Early.{TooEarly}
use Rattle.monitor.specs.Preview.{Preview, Previews, answer_in}
use Rattle.monitor.specs.Demand3.{Demand3, Begins, Foreseen, Upheld, run_by}
use Rattle.monitor.proofs.Demand3.{demand3, begins}

-- what the words mean where it matters
stuck_is_stuck : NotStuck stuck → ⊥
unfolding NotStuck
stuck_is_stuck h = h

breach_is_breach : (t : ℕ) (ps : List ℕ) → IsBreach (breach t ps)
unfolding IsBreach
breach_is_breach t ps = tt

abbrev ran : Agreement → List Call → Run
ran a calls = run_after a (started a).run (readings_in calls)

-- for an accepted, started agreement and every list of readings, whatever their bytes
module _ (s : List ℕ) (lent : List ℤ) (a : Agreement) (mains : List ℕ) (r : Started) (us : List ℤ) (calls : List Call)
    (bytes : Bytes s) (all : AllBytes (readings_in calls))
    (acc : checked s ≡ accepted a mains) (long : length lent ≡ 3080) (few : (started a).number ≡ 0)
    (begun : start_answer r us ≡ start_of s lent) (made : Calls s us calls) where
  claim : Upheld s a mains r us calls
  unfolding Demand3
  claim = demand3 s lent a mains r us calls bytes all (record {
    is_accepted = acc;
    not_six = long;
    not_eleven = few;
  }) begun made

  never_stuck : (before later : List Call) → calls ≡ before ++ later → NotStuck (ran a before).outcome
  unfolding run_by
  never_stuck = claim.never_stuck

  starts : (start_answer r us).number ≡ 0
  starts = claim.begun

  answers : numbers_in calls ≡ numbers_by a (started a).run (readings_in calls)
  answers = claim.numbers

  table_long : length (last_table us calls) ≡ 3080
  table_long = claim.cells

  table_typed : (q : Run) × (run_of a mains (last_table us calls) ≡ some q)
  table_typed = claim.well_typed

  table_is : last_table us calls ≡ table_of (ran a calls)
  unfolding run_by
  table_is = claim.table

  module _ (before : List Call) (one : Call) (later : List Call) (split : calls ≡ before ++ (one ∷ later)) where
    is_eleven : (number_in one ≡ 11) ↔ ((d : Reading) × (fitting a one.bytes ≡ some d)
        × ((ran a before).last_time ≤ d.time)
        × (128 < needed (reached a (ran a before).outcome d)))
    unfolding run_by
    is_eleven = claim.eleven before one later split

    is_taken : (number_in one ≡ 0) ↔ ((d : Reading) × (fitting a one.bytes ≡ some d)
        × ((ran a before).last_time ≤ d.time)
        × (needed (reached a (ran a before).outcome d) ≤ 128))
    unfolding run_by
    is_taken = claim.taken before one later split

    is_refused : number_in one ≢ 0 → one.left ≡ last_table us before
    is_refused = claim.refused before one later split

    is_breached : (IsBreach (ran a before).outcome → ⊥)
        → (t : ℕ) (ps : List ℕ) → (step a (ran a before) one.bytes).run.outcome ≡ breach t ps
        → (d : Reading) × (fitting a one.bytes ≡ some d) × (ps ≢ []) × T (subset ps mains) × (a.start ≤ t)
        × (t ≤ d.time)
    unfolding run_by
    is_breached = claim.breached before one later split

    stays_breached : IsBreach (ran a before).outcome → one.left ≡ last_table us before
    unfolding run_by
    stays_breached = claim.final before one later split

    -- paper 02, No. 2
    tells : number_in one ≡ 0 → forecast_in one ≡ shown (forecast_run a (ran a (before ++ (one ∷ []))))
    unfolding run_by
    tells = claim.ahead before one later split

    tells_nothing : number_in one ≢ 0 → forecast_in one ≡ untold
    tells_nothing = claim.untold before one later split

    -- paper 02, No. 1
    moved_stays : (at (last_table us before) 0 ≡ at one.left 0)
        × (drop 8 (last_table us before) ≡ drop 8 one.left) → at one.left 5 ≡ at (last_table us before) 5
    unfolding Unaltered
    moved_stays = claim.stays before one later split

    moved_moves : ((at (last_table us before) 0 ≡ at one.left 0)
        × (drop 8 (last_table us before) ≡ drop 8 one.left) → ⊥)
        → at one.left 5 ≡ some (pos (time_in one.bytes))
    unfolding Unaltered
    moved_moves = claim.moves before one later split

    -- paper 02, No. 8
    came_early_lem : (early_in one ≡ 1) ↔ TooEarly a (ran a before) (last_table us before) one
    unfolding run_by
    came_early_lem = claim.early before one later split

    -- paper 02, No. 9
    each_unit_lem : cost_in one ≤ 65_792 * needed (ran a before).outcome
    unfolding run_by
    each_unit_lem = claim.each_unit before one later split

    at_most_lem : cost_in one ≤ 8_421_376
    at_most_lem = claim.at_most before one later split

  -- paper 02, No. 6: of any reading's bytes, on the way and at the end
  module _ (before later : List Call) (split : calls ≡ before ++ later) (p : Preview) (all_bytes : Bytes p.bytes)
      (asked : Previews s (last_table us before) p) (second_long : length p.second ≡ 3080) where
    foreseen : Foreseen a (ran a before) p
    unfolding run_by
    foreseen = claim.foreseen before later split p all_bytes asked second_long

    abbrev next : Stepped
    next = step a (ran a before) p.bytes

    says_the_number : (taken_answer p.answer p.left).number ≡ next.number
    unfolding answer_in
    says_the_number = foreseen.number

    says_the_forecast : (taken_answer p.answer p.left).forecast ≡ told_by a next
    unfolding answer_in
    says_the_forecast = foreseen.forecast

    says_the_mark : (taken_answer p.answer p.left).early ≡ mark_of (came_early a (ran a before) p.bytes)
    unfolding answer_in
    says_the_mark = foreseen.mark

    says_the_cost : (taken_answer p.answer p.left).cost ≡ cost_of a (ran a before) p.bytes
    unfolding answer_in
    says_the_cost = foreseen.cost

    writes_the_table : (taken_answer p.answer p.left).number ≡ 0 → p.left ≡ table_of next.run
    unfolding answer_in
    writes_the_table = foreseen.outcome

    leaves_the_second : (taken_answer p.answer p.left).number ≢ 0 → p.left ≡ p.second
    unfolding answer_in
    leaves_the_second = foreseen.untouched

  forecasts : forecasts_in calls ≡ forecasts_by a (started a).run (readings_in calls)
  forecasts = claim.forecasts

  begins_ahead : (start_answer r us).forecast ≡ told_by a (started a)
  begins_ahead = claim.begun_ahead

  costs : costs_in calls ≡ costs_by a (started a).run (readings_in calls)
  costs = claim.costs

  marks : marks_in calls ≡ marks_by a (started a).run (readings_in calls)
  marks = claim.marks

  moved_first_lem : at us 5 ≡ some (pos a.start)
  moved_first_lem = claim.moved_first

  begins_unbreached : IsBreach (started a).run.outcome → ⊥
  begins_unbreached = claim.unbreached

begun_was_started : (s : List ℕ) (lent us : List ℤ) (ahead : Option BreachAhead)
    → start_answer (Ok ahead) us ≡ start_of s lent
    → (a : Agreement) × (mains : List ℕ) × (checked s ≡ accepted a mains) × (length lent ≡ 3080)
    × ((started a).number ≡ 0)
unfolding Begins
begun_was_started s lent us ahead e = let b = begins s lent us ahead e in
    (b.0, b.1, b.2.is_accepted, b.2.not_six, b.2.not_eleven)
