-- Paper 02, No. 7, one claim about the whole list of readings; proofs/KnownSize.antt proves it (`known_size`,
-- `starts_below`).
-- "An agreement whose templates are all of kind 4, and which has at least one, is sized. [..] Show that no residue
-- reached from a sized agreement's start passes the main clause's need, so 11 never occurs from there."
use Rattle.std.specs.Prelude.{◌≡◌, ◌≢◌, true, List, [], ◌∷◌, ◌++◌, ℕ, ◌≤◌, ℤ, pos, length}
use Rattle.std.proofs.Math.Option.{some}
use Rattle.csl.specs.Lists.{at}
use Rattle.csl.specs.Syntax.{Agreement}
use Rattle.csl.specs.Sizes.{main_need, sized}
use Rattle.csl.specs.Check.{accepted, checked}
use Rattle.csl.specs.Needs.{outcome_need}
use Rattle.csl.specs.Table.{table_length}
use Rattle.csl.specs.Entries.{start_of}
use Rattle.csl.specs.Demand3.{AllBytes, Bytes, needed}
use Rattle.monitor.specs.Answers.{Started, start_answer}
use Rattle.monitor.specs.Calls.{Call, Calls, last_table, number_in, readings_in}
use Rattle.monitor.specs.Demand3.{run_by}
use Rattle.monitor.specs.Preview.{Preview, Previews, answer_in}

-- of agreement a in the bytes s: start answered r and left the table us, then came the calls
pub record WithinNeed (s : List ℕ) (a : Agreement) (r : Started) (us : List ℤ) (calls : List Call) : Type 0 where
  -- "11 never occurs from there": the start begins the run
  pub begun : (start_answer r us).number ≡ 0
  -- no reading answers 11
  pub never_eleven : (before : List Call) (one : Call) (later : List Call) → calls ≡ before ++ (one ∷ later)
      → number_in one ≢ 11
  -- nor a preview on the way, whatever is previewed and wherever it is written
  pub foreseen : (before later : List Call) → calls ≡ before ++ later → (p : Preview) → Bytes p.bytes
      → Previews s (last_table us before) p → (answer_in p).number ≢ 11
  -- "no residue reached from a sized agreement's start passes the main clause's need", and a table has room for that
  pub need : (before later : List Call) → calls ≡ before ++ later
      → outcome_need a (run_by a before).outcome ≤ main_need a
  pub room : main_need a ≤ 128
  -- a reading never makes it grow
  pub falls : (before : List Call) (one : Call) (later : List Call) → calls ≡ before ++ (one ∷ later)
      → outcome_need a (run_by a (before ++ (one ∷ []))).outcome ≤ outcome_need a (run_by a before).outcome
  -- a residue has no more units than it needs: nor do the units in use, as head cell 4 counts them, pass that need
  pub units : (before later : List Call) → calls ≡ before ++ later
      → needed (run_by a before).outcome ≤ outcome_need a (run_by a before).outcome
  pub in_use : (before later : List Call) → calls ≡ before ++ later → (n : ℕ)
      → at (last_table us before) 4 ≡ some (pos n) → n ≤ main_need a

-- the calls of start and reading are what their contracts say of them
unfoldable pub KnownSize : Type 0
KnownSize =
    (s : List ℕ) (lent : List ℤ) (a : Agreement) (mains : List ℕ) (r : Started) (us : List ℤ) (calls : List Call)
    → Bytes s → AllBytes (readings_in calls) → checked s ≡ accepted a mains → sized a ≡ true
    → length lent ≡ table_length → start_answer r us ≡ start_of s lent → Calls s us calls → WithinNeed s a r us calls

-- and whatever is lent to a start as a table, it does not answer 11
unfoldable pub StartsBelow : Type 0
StartsBelow =
    (s : List ℕ) (lent : List ℤ) (a : Agreement) (mains : List ℕ) (r : Started) (us : List ℤ)
    → checked s ≡ accepted a mains → sized a ≡ true → start_answer r us ≡ start_of s lent
    → (start_answer r us).number ≢ 11
