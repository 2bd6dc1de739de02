-- Demand 3, one claim about the whole list of readings; proofs/Demand3.antt proves it (`demand3`, `begins`).
-- "For an accepted, started agreement and every list of readings, whatever their bytes: the run by the rules is
-- never stuck, each answer carries the run's number, the table afterwards is well typed and, cell for cell, the
-- run's; 11 if and only if the residue needs more than 128 units; a breach names only parties that can be blamed,
-- at a time from the start to the reading that showed it; after it no reading alters a cell."
use Rattle.std.specs.Prelude.{◌≡◌, ◌≢◌, ◌↔◌, List, [], ◌∷◌, ◌++◌, ℕ, ◌*◌, ◌≤◌, ◌<◌, T, ℤ, pos, length}
use Rattle.std.specs.Prelude.{Ok, Option}
use Rattle.std.proofs.Math.Option.{some}
use Rattle.csl.specs.Lists.{at}
use Rattle.csl.specs.Parties.{subset}
use Rattle.csl.specs.Syntax.{Agreement}
use Rattle.csl.specs.Check.{checked, accepted}
use Rattle.csl.specs.Outcomes.{breach}
use Rattle.csl.specs.Rules.{Reading}
use Rattle.csl.specs.Run.{started, step}
use Rattle.csl.specs.Table.{Run, table_length, table_of, run_of}
use Rattle.csl.specs.Entries as entries
use Rattle.csl.specs.Entries.{forecast_run, shown, start_of}
use Rattle.csl.specs.Demand3.{Bytes, AllBytes, fitting, reached, needed, NotStuck, IsBreach, Unaltered, run_after}
use Rattle.csl.specs.Demand3.{numbers_by, forecasts_by, marks_by, costs_by, told_by}
use Rattle.csl.specs.Early.{came_early, mark_of}
use Rattle.csl.specs.Cost.{cost_of}
use Rattle.csl.specs.Marks.{time_in}
use Rattle.monitor.specs.declared.BreachAhead.{BreachAhead}
use Rattle.monitor.specs.Answers.{Started, start_answer}
use Rattle.monitor.specs.Calls.{Call, Calls, last_table, readings_in, number_in, numbers_in, early_in}
use Rattle.monitor.specs.Calls.{marks_in, cost_in, costs_in, forecast_in, forecasts_in}
use Rattle.monitor.specs.Early.{TooEarly}
use Rattle.monitor.specs.Preview.{Preview, Previews, answer_in}

-- "A run is fed the agreement and the readings' bytes, nothing from a table."
unfoldable pub run_by : Agreement → List Call → Run
run_by a calls = run_after a (started a).run (readings_in calls)

-- a reading that fits, is not earlier than the run's last, and whose outcome needs so many units (after a breach none)
abbrev pub Fits : Agreement → Run → List ℕ → (ℕ → Type 0) → Type 0
Fits a run bytes units =
    (d : Reading) × (fitting a bytes ≡ some d) × (run.last_time ≤ d.time)
    × units (needed (reached a run.outcome d))

-- of agreement a and its run: what a preview answers is the run's number, forecast, mark and cost of that reading, and
-- what it writes is the table of the run that the reading leads to; a refusal leaves the second table
pub record Foreseen (a : Agreement) (run : Run) (p : Preview) : Type 0 where
  pub number : (answer_in p).number ≡ (step a run p.bytes).number
  pub forecast : (answer_in p).forecast ≡ told_by a (step a run p.bytes)
  pub mark : (answer_in p).early ≡ mark_of (came_early a run p.bytes)
  pub cost : (answer_in p).cost ≡ cost_of a run p.bytes
  pub outcome : (answer_in p).number ≡ 0 → p.left ≡ table_of (step a run p.bytes).run
  pub untouched : (answer_in p).number ≢ 0 → p.left ≡ p.second

-- of agreement a in the bytes s, whose main clause's parties are `mains`: start answered r and left the table us, then
-- came the calls
pub record Upheld (s : List ℕ) (a : Agreement) (mains : List ℕ) (r : Started) (us : List ℤ) (calls : List Call) : Type
    0 where
  -- "the run by the rules is never stuck"
  pub never_stuck : (before later : List Call) → calls ≡ before ++ later → NotStuck (run_by a before).outcome
  -- "each answer carries the run's number": the start's, which is 0, and every reading's
  pub begun : (start_answer r us).number ≡ 0
  pub numbers : numbers_in calls ≡ numbers_by a (started a).run (readings_in calls)
  -- "the table afterwards is well typed": it has its cells, and 7 does not apply
  pub cells : length (last_table us calls) ≡ table_length
  pub well_typed : (q : Run) × (run_of a mains (last_table us calls) ≡ some q)
  -- "and, cell for cell, the run's"
  pub table : last_table us calls ≡ table_of (run_by a calls)
  -- "11 if and only if the residue needs more than 128 units"
  pub eleven : (before : List Call) (one : Call) (later : List Call) → calls ≡ before ++ (one ∷ later)
      → (number_in one ≡ 11) ↔ Fits a (run_by a before) one.bytes (λ units. 128 < units)
  -- and it is taken, with 0, if and only if it needs at most 128
  pub taken : (before : List Call) (one : Call) (later : List Call) → calls ≡ before ++ (one ∷ later)
      → (number_in one ≡ 0) ↔ Fits a (run_by a before) one.bytes (λ units. units ≤ 128)
  -- every other answer is a refusal, which alters no cell
  pub refused : (before : List Call) (one : Call) (later : List Call) → calls ≡ before ++ (one ∷ later)
      → number_in one ≢ 0 → one.left ≡ last_table us before
  -- paper 02, No. 1: head cell 5 holds "the time of the last reading that altered a unit or the state". "It begins as
  -- the start time"
  pub moved_first : at us 5 ≡ some (pos a.start)
  -- where neither a unit cell nor the state cell holds another number afterwards it stays
  pub stays : (before : List Call) (one : Call) (later : List Call) → calls ≡ before ++ (one ∷ later)
      → Unaltered (last_table us before) one.left → at one.left 5 ≡ at (last_table us before) 5
  -- and where one does it is the reading's time
  pub moves : (before : List Call) (one : Call) (later : List Call) → calls ≡ before ++ (one ∷ later)
      → (Unaltered (last_table us before) one.left → ⊥) → at one.left 5 ≡ some (pos (time_in one.bytes))
  -- paper 02, No. 2: "Start and reading both answer with the forecast of the table they leave": the start's is that of
  -- the run that has begun, and each reading's that of the run that it leads to; "a refusal gives zeros for it"
  pub begun_ahead : (start_answer r us).forecast ≡ told_by a (started a)
  pub forecasts : forecasts_in calls ≡ forecasts_by a (started a).run (readings_in calls)
  pub ahead : (before : List Call) (one : Call) (later : List Call) → calls ≡ before ++ (one ∷ later)
      → number_in one ≡ 0 → forecast_in one ≡ shown (forecast_run a (run_by a (before ++ (one ∷ []))))
  pub untold : (before : List Call) (one : Call) (later : List Call) → calls ≡ before ++ (one ∷ later)
      → number_in one ≢ 0 → forecast_in one ≡ entries.untold
  -- paper 02, No. 8: each answer carries the run's mark
  pub marks : marks_in calls ≡ marks_by a (started a).run (readings_in calls)
  -- "It is 1 if and only if the reading is accepted, the table was running and no unit or state altered, and at least
  -- one waiting unit wants this type, finds `where` true, and has a first later than the reading."
  pub early : (before : List Call) (one : Call) (later : List Call) → calls ≡ before ++ (one ∷ later)
      → (early_in one ≡ 1) ↔ TooEarly a (run_by a before) (last_table us before) one
  -- paper 02, No. 9: each answer carries what the reading costs on the run
  pub costs : costs_in calls ≡ costs_by a (started a).run (readings_in calls)
  -- "It is at most 65,792 for each unit read, so at most 8,421,376 a reading."
  pub each_unit : (before : List Call) (one : Call) (later : List Call) → calls ≡ before ++ (one ∷ later)
      → cost_in one ≤ 65_792 * needed (run_by a before).outcome
  pub at_most : (before : List Call) (one : Call) (later : List Call) → calls ≡ before ++ (one ∷ later)
      → cost_in one ≤ 8_421_376
  -- paper 02, No. 6: a preview on the way, of whatever bytes, says what the reading would do to the run
  pub foreseen : (before later : List Call) → calls ≡ before ++ later → (p : Preview) → Bytes p.bytes
      → Previews s (last_table us before) p → length p.second ≡ table_length → Foreseen a (run_by a before) p
  -- "a breach names only parties that can be blamed, at a time from the start to the reading that showed it", here
  -- `one`
  pub breached : (before : List Call) (one : Call) (later : List Call) → calls ≡ before ++ (one ∷ later)
      → (IsBreach (run_by a before).outcome → ⊥)
      → (t : ℕ) (ps : List ℕ) → (step a (run_by a before) one.bytes).run.outcome ≡ breach t ps
      → (d : Reading) × (fitting a one.bytes ≡ some d)
      × (ps ≢ []) × T (subset ps mains) × (a.start ≤ t) × (t ≤ d.time)
  -- and the start shows none
  pub unbreached : IsBreach (started a).run.outcome → ⊥
  -- "after it no reading alters a cell"
  pub final : (before : List Call) (one : Call) (later : List Call) → calls ≡ before ++ (one ∷ later)
      → IsBreach (run_by a before).outcome → one.left ≡ last_table us before

-- "An agreement is accepted if none of check's conditions applies, and started if then neither 6 nor 11 does."
pub record IsStarted (s : List ℕ) (lent : List ℤ) (a : Agreement) (mains : List ℕ) : Type 0 where
  pub is_accepted : checked s ≡ accepted a mains
  pub not_six : length lent ≡ table_length
  pub not_eleven : (started a).number ≡ 0

-- the calls of start and reading are what their contracts say of them
unfoldable pub Demand3 : Type 0
Demand3 =
    (s : List ℕ) (lent : List ℤ) (a : Agreement) (mains : List ℕ) (r : Started) (us : List ℤ) (calls : List Call)
    → Bytes s → AllBytes (readings_in calls) → IsStarted s lent a mains
    → start_answer r us ≡ start_of s lent → Calls s us calls → Upheld s a mains r us calls

-- and a start that answers `Ok` was given such an agreement
unfoldable pub Begins : Type 0
Begins =
    (s : List ℕ) (lent : List ℤ) (us : List ℤ) (ahead : Option BreachAhead)
    → start_answer (Ok ahead) us ≡ start_of s lent
    → (a : Agreement) × (mains : List ℕ) × IsStarted s lent a mains
