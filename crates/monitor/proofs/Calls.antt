-- Calls of reading on a run's table answer as the run does and leave its table: one call at a time (`called`), so
-- through the list (`runs`), and at each of its calls (`found`).
use mathlib.Core.Path.{◌≡◌, refl, sym, ap, ap₂, subst, ◌∙◌}
use mathlib.Core.List.{List, [], ◌∷◌, ◌++◌}
use mathlib.Core.Option.{some}
use Prim.Native.Nat.{ℕ}
use contract.Lifetimes.{Lfts}
use borrow.Fn.Kinds.{Dens, ended_of}
use denote.Triple.Clauses.{AtExit}
use lib.IntN.{ℤ}
use lib.ListN.{length}
use Rattle.csl.specs.Syntax.{Agreement}
use Rattle.csl.specs.Check.{checked, accepted}
use Rattle.csl.specs.Run.{step}
use Rattle.csl.specs.Table.{Run, run_of, table_length, table_of}
use Rattle.csl.specs.Entries.{read_of, reading_of, start_of, told_of}
use Rattle.csl.specs.Early.{came_early, mark_of}
use Rattle.csl.specs.Cost.{cost_of}
use Rattle.csl.specs.Demand3.{AllBytes, Bytes, costs_by, forecasts_by, marks_by, numbers_by, run_after, told_by}
use Rattle.soundness.proofs.Runs.{InvOf, is_fair, reading_fine, step_inv}
use Rattle.soundness.proofs.ReadBack.{run_of_good, table_back}
use Rattle.soundness.proofs.Demand3.{after_inv}
use Rattle.soundness.proofs.Marks.{told_shows}
use Rattle.monitor.specs.Answers.{Started, TakenOrRefused, start_answer, taken_answer}
use Rattle.monitor.specs.Calls.{Call, Calls, cost_in, costs_in, early_in, last_table, marks_in, number_in, numbers_in}
use Rattle.monitor.specs.Calls.{forecast_in, forecasts_in, readings_in}
use Rattle.monitor.proofs.Joined.{part, part_of, table_in}
use Rattle.monitor.proofs.start.Kinds as start-kinds
use Rattle.monitor.proofs.start.Reads as start
use Rattle.monitor.proofs.reading.Kinds as reading-kinds
use Rattle.monitor.proofs.reading.Reads as reading

-- ---- the contracts of the entries are the equations that specs/Calls and specs/Demand3 speak of
pub start_call : (lifetimes : Lfts 2) (given : Dens {n = 2} lifetimes start-kinds.ps) (r : Started)
    (left : AtExit (ended_of 2 start-kinds.ps start-kinds.r) lifetimes)
    → start.Post lifetimes given r left → start_answer r left.1.0.now ≡ start_of given.0.now given.1.0.now
start_call lifetimes given r left meets = meets

pub reading_call : (lifetimes : Lfts 3) (given : Dens {n = 3} lifetimes reading-kinds.ps) (r : TakenOrRefused)
    (left : AtExit (ended_of 3 reading-kinds.ps reading-kinds.r) lifetimes)
    → reading.Post lifetimes given r left
    → taken_answer r left.1.0.now ≡ reading_of given.0.now given.1.0.now given.1.1.0.now
reading_call lifetimes given r left meets = meets

-- ---- lists of calls
calls_split : (s : List ℕ) (us : List ℤ) (before later : List Call) → Calls s us (before ++ later)
    → Calls s us before × Calls s (last_table us before) later
unfolding Calls last_table
calls_split s us [] later c = (tt, c)
calls_split s us (one ∷ before) later c = let h = calls_split s one.left before later c.1 in ((c.0, h.0), h.1)

pub bytes_split : (before later : List Call) → AllBytes (readings_in (before ++ later))
    → AllBytes (readings_in before) × AllBytes (readings_in later)
unfolding AllBytes readings_in
bytes_split [] later h = (tt, h)
bytes_split (one ∷ before) later h = let g = bytes_split before later h.1 in ((h.0, g.0), g.1)

-- ---- of an accepted agreement
module _ (s : List ℕ) (a : Agreement) (mains : List ℕ) (ck : checked s ≡ accepted a mains) where
  abbrev pub Sound : Run → Type 0
  Sound q = InvOf s a mains ck q

  -- a table that shows a run is the run's
  pub shown : (q : Run) (us : List ℤ) → length us ≡ table_length → run_of a mains us ≡ some q
      → (us ≡ table_of q) × Sound q
  shown q us l e = (sym (table_back a mains us q e l), run_of_good a mains us q (is_fair s a mains ck) e)

  -- a call on the table of a run
  pub record Called (q : Run) (one : Call) : Type 0 where
    pub number : number_in one ≡ (step a q one.bytes).number
    pub left : one.left ≡ table_of (step a q one.bytes).run
    pub early : early_in one ≡ mark_of (came_early a q one.bytes)
    pub cost : cost_in one ≡ cost_of a q one.bytes

  pub called : (q : Run) (us : List ℤ) (one : Call) → us ≡ table_of q → Sound q
      → taken_answer one.answer one.left ≡ reading_of s us one.bytes → Called q one
  unfolding number_in early_in cost_in
  called q us one e i meets =
      let fine = reading_fine s a mains ck q one.bytes i in
      let does = part_of s us one.bytes meets in
      let is : part (taken_answer one.answer one.left) ≡ read_of s (table_of q) one.bytes = rw e at does in
      record {
        number = ap (λ x. x.number) is ∙ fine.0;
        left = sym (table_in one.answer one.left) ∙ ap (λ x. x.table) is ∙ fine.1;
        early = ap (λ x. x.early) is ∙ fine.2;
        cost = ap (λ x. x.cost) is ∙ fine.3;
      }

  -- the forecast that it tells is that of the run which it leads to
  pub called_told : (q : Run) (us : List ℤ) (one : Call) → us ≡ table_of q → Sound q → Bytes one.bytes
      → taken_answer one.answer one.left ≡ reading_of s us one.bytes → forecast_in one ≡ told_by a (step a q one.bytes)
  unfolding forecast_in reading_of
  called_told q us one e i h meets =
      let next = step a q one.bytes in
      let fine = reading_fine s a mains ck q one.bytes i in
      let is : taken_answer one.answer one.left ≡ reading_of s (table_of q) one.bytes = rw e at meets in
      ap (λ x. x.forecast) is ∙ ap₂ (told_of s) fine.0 fine.1
      ∙ told_shows s a mains ck next (step_inv s a mains ck q one.bytes h i)

  -- calls one after another: the answers and the table are the run's
  pub record Runs (q : Run) (us : List ℤ) (calls : List Call) : Type 0 where
    pub table : last_table us calls ≡ table_of (run_after a q (readings_in calls))
    pub numbers : numbers_in calls ≡ numbers_by a q (readings_in calls)
    pub marks : marks_in calls ≡ marks_by a q (readings_in calls)
    pub costs : costs_in calls ≡ costs_by a q (readings_in calls)
    pub forecasts : forecasts_in calls ≡ forecasts_by a q (readings_in calls)

  pub runs : (q : Run) (us : List ℤ) (calls : List Call) → us ≡ table_of q → Sound q
      → AllBytes (readings_in calls) → Calls s us calls → Runs q us calls
  unfolding Calls AllBytes readings_in last_table run_after numbers_in numbers_by marks_in marks_by costs_in costs_by
      forecasts_in forecasts_by
  runs q us [] e i h cs = record { table = e; numbers = refl; marks = refl; costs = refl; forecasts = refl }
  runs q us (one ∷ calls) e i h cs =
      let x = called q us one e i cs.0 in
      let more = runs (step a q one.bytes).run one.left calls x.left (step_inv s a mains ck q one.bytes h.0 i) h.1
      cs.1 in
      record {
        table = more.table;
        numbers = rw (x.number, more.numbers) refl;
        marks = rw (x.early, more.marks) refl;
        costs = rw (x.cost, more.costs) refl;
        forecasts = rw (called_told q us one e i h.0 cs.0, more.forecasts) refl;
      }

  -- ---- one of the calls, on a table that was the run q's at first
  module _ (q : Run) (us : List ℤ) (is : us ≡ table_of q) (i : Sound q) (calls : List Call)
      (h : AllBytes (readings_in calls)) (cs : Calls s us calls) where
    -- what the call finds, and how the run goes on
    pub record Found (before : List Call) (one : Call) (later : List Call) : Type 0 where
      pub inv : Sound (run_after a q (readings_in before))
      pub table : last_table us before ≡ table_of (run_after a q (readings_in before))
      pub number : number_in one ≡ (step a (run_after a q (readings_in before)) one.bytes).number
      pub left : one.left ≡ table_of (step a (run_after a q (readings_in before)) one.bytes).run
      pub early : early_in one ≡ mark_of (came_early a (run_after a q (readings_in before)) one.bytes)
      pub cost : cost_in one ≡ cost_of a (run_after a q (readings_in before)) one.bytes
      pub forecast : forecast_in one ≡ told_by a (step a (run_after a q (readings_in before)) one.bytes)
      pub next : Sound (step a (run_after a q (readings_in before)) one.bytes).run
      pub bytes : AllBytes (readings_in before) × AllBytes (readings_in later)
      pub meets : Calls s us before × Calls s one.left later

    pub inv_at : (before later : List Call) → calls ≡ before ++ later → Sound (run_after a q (readings_in before))
    inv_at before later e = after_inv s a mains ck q (readings_in before)
        (bytes_split before later (subst (λ cs. AllBytes (readings_in cs)) e h)).0 i

    pub table_at : (before later : List Call) → calls ≡ before ++ later
        → last_table us before ≡ table_of (run_after a q (readings_in before))
    table_at before later e =
        let bs = bytes_split before later (subst (λ cs. AllBytes (readings_in cs)) e h) in
        (runs q us before is i bs.0 (calls_split s us before later (subst (Calls s us) e cs)).0).table

    pub found : (before : List Call) (one : Call) (later : List Call) → calls ≡ before ++ (one ∷ later)
        → Found before one later
    unfolding Calls AllBytes readings_in
    found before one later e =
        let run = run_after a q (readings_in before) in
        let two = calls_split s us before (one ∷ later) (subst (Calls s us) e cs) in
        let bs = bytes_split before (one ∷ later) (subst (λ cs. AllBytes (readings_in cs)) e h) in
        let i' = inv_at before (one ∷ later) e in
        let t = table_at before (one ∷ later) e in
        let x = called run (last_table us before) one t i' two.1.0 in
        record {
          inv = i';
          table = t;
          number = x.number;
          left = x.left;
          early = x.early;
          cost = x.cost;
          forecast = called_told run (last_table us before) one t i' bs.1.0 two.1.0;
          next = step_inv s a mains ck run one.bytes bs.1.0 i';
          bytes = (bs.0, bs.1.1);
          meets = (two.0, two.1.1);
        }
