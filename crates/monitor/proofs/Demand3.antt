-- Demand 3 holds: the table that each call is given is the run's (`Calls`), and of one more reading the run says all
-- that is claimed.
use mathlib.Core.Path.{◌≡◌, refl, sym, ap, ◌∙◌}
use mathlib.Core.List.{List, [], ◌∷◌, ◌++◌}
use mathlib.Core.Option.{some}
use Prim.Native.Nat.{ℕ}
use native.Mathlib.Omega.{arith}
use lib.IntN.{ℤ, pos}
use lib.ListN.{length}
use Rattle.csl.specs.Lists.{at}
use Rattle.csl.specs.Syntax.{Agreement}
use Rattle.csl.specs.Decode.{agreement_of}
use Rattle.csl.specs.Check.{checked, accepted}
use Rattle.csl.specs.Run.{started, step}
use Rattle.csl.specs.Table.{Run, run_of, table_of}
use Rattle.csl.specs.Entries.{begun_of, forecast_of, forecast_run, shown, start_of, told_of}
use Rattle.csl.specs.Demand3.{AllBytes, Bytes, run_after, told_by}
use Rattle.soundness.proofs.Checked.{passed}
use Rattle.soundness.proofs.CostBound.{run_cost}
use Rattle.soundness.proofs.Marks.{forecast_shows, told_more, told_zero}
use Rattle.soundness.proofs.Runs.{CaseOf, case_of, not_stuck, start_is, table_typed, written_number, written_zero}
use Rattle.soundness.proofs.Demand3.{after_inv, moved_cell_lem, start_inv, start_moved, start_unbreached, step_eleven}
use Rattle.soundness.proofs.Demand3.{step_final, step_moves, step_refused, step_shows, step_stays, step_taken}
use Rattle.monitor.specs.Answers.{Started, start_answer}
use Rattle.monitor.specs.Calls.{Call, Calls, last_table, readings_in}
use Rattle.monitor.specs.Demand3.{Begins, Demand3, IsStarted, Upheld, run_by}
use Rattle.monitor.proofs.Calls.{Found, Sound, found, inv_at, runs, table_at}
use Rattle.monitor.proofs.Copies.{foresees}
use Rattle.monitor.proofs.Early.{early_is, unaltered_in}
use Rattle.monitor.proofs.Joined.{begun_table}
use Rattle.monitor.proofs.Opens.{by_table}

-- the run after one call more
pub run_next : (a : Agreement) (q : Run) (before : List Call) (one : Call)
    → run_after a q (readings_in (before ++ (one ∷ []))) ≡ (step a (run_after a q (readings_in before)) one.bytes).run
unfolding run_after readings_in
run_next a q [] one = refl
run_next a q (c ∷ before) one = run_next a (step a q c.bytes).run before one

module _ (s : List ℕ) (lent : List ℤ) (a : Agreement) (mains : List ℕ) (st : IsStarted s lent a mains)
    (r : Started) (us : List ℤ) (start : start_answer r us ≡ start_of s lent) (hs : Bytes s) where
  abbrev pub run : Run
  run = (started a).run

  pub ck : checked s ≡ accepted a mains
  ck = st.is_accepted

  begun_zero : begun_of s lent ≡ record { number = 0; table = table_of run }
  unfolding run
  begun_zero = start_is s a mains ck lent st.not_six ∙ written_zero lent (started a) st.not_eleven

  pub begins_zero : start_of s lent
      ≡ record { number = 0; forecast = forecast_of s (table_of run); table = table_of run }
  unfolding start_of told_of
  begins_zero = ap (λ x. record { number = x.number; forecast = told_of s x.number x.table; table = x.table })
      begun_zero

  pub us_is : us ≡ table_of run
  us_is = sym (begun_table r us) ∙ ap (λ x. x.table) (start ∙ begins_zero)

  pub run_inv : Sound s a mains ck run
  unfolding run
  run_inv = start_inv s a mains ck hs st.not_eleven

  begun_told : (start_answer r us).forecast ≡ told_by a (started a)
  unfolding run
  begun_told = ap (λ x. x.forecast) (start ∙ begins_zero) ∙ forecast_shows s a mains ck run run_inv
      ∙ sym (told_zero a (started a) st.not_eleven)

  -- when a run last moved, in the cells of its table
  cell_five : {cells : List ℤ} {q : Run} → cells ≡ table_of q → Sound s a mains ck q
      → at cells 5 ≡ some (pos q.last_moved)
  cell_five {q = q} e i = ap (λ cells. at cells 5) e
      ∙ moved_cell_lem q (not_stuck a mains q.last_time q.outcome i.good)

  module _ (calls : List Call) (hr : AllBytes (readings_in calls)) (cs : Calls s us calls) where
    -- of one of the calls: what it finds, and the case of its reading
    pub at_call : (before : List Call) (one : Call) (later : List Call) → calls ≡ before ++ (one ∷ later)
        → Found s a mains ck run us us_is run_inv calls hr cs before one later
        × CaseOf a (run_by a before) one.bytes
    unfolding run_by run
    at_call before one later e =
        let f = found s a mains ck run us us_is run_inv calls hr cs before one later e in
        (f, case_of a (run_by a before) one.bytes (not_stuck a mains _ _ f.inv.good))

    upheld : Upheld s a mains r us calls
    unfolding run_by run
    upheld =
        let whole = runs s a mains ck run us calls us_is run_inv hr cs in
        let bound = run_cost s a mains (passed s a mains ck) in
        let typed = table_typed s a mains ck (run_by a calls)
        (after_inv s a mains ck run (readings_in calls) hr run_inv) in
        record {
          never_stuck = λ before later e. not_stuck a mains _ _
              (inv_at s a mains ck run us us_is run_inv calls hr cs before later e).good;
          begun = ap (λ x. x.number) (start ∙ begins_zero);
          numbers = whole.numbers;
          cells = ap length whole.table ∙ typed.0;
          well_typed = (typed.1.0, ap (run_of a mains) whole.table ∙ typed.1.1);
          table = whole.table;
          eleven = λ before one later e. let f = at_call before one later e in
              rw f.0.number (step_eleven a (run_by a before) one.bytes f.1);
          taken = λ before one later e. let f = at_call before one later e in
              rw f.0.number (step_taken a (run_by a before) one.bytes f.1);
          refused = λ before one later e nz. let f = at_call before one later e in
              f.0.left ∙ ap table_of (step_refused a (run_by a before) one.bytes f.1
              (λ z. nz (f.0.number ∙ z))) ∙ sym f.0.table;
          moved_first = cell_five us_is run_inv ∙ ap (λ m. some (pos m)) (start_moved s a mains ck);
          stays = λ before one later e u. let f = at_call before one later e in
              cell_five f.0.left f.0.next
              ∙ ap (λ m. some (pos m)) (step_stays a (run_by a before) one.bytes f.1
              (unaltered_in f.0.table f.0.left u))
              ∙ sym (cell_five f.0.table f.0.inv);
          moves = λ before one later e h. let f = at_call before one later e in
              cell_five f.0.left f.0.next
              ∙ ap (λ m. some (pos m)) (step_moves a (run_by a before) one.bytes f.1
              (λ u. h (unaltered_in (sym f.0.table) (sym f.0.left) u)));
          begun_ahead = begun_told;
          forecasts = whole.forecasts;
          ahead = λ before one later e z. let f = (at_call before one later e).0 in
              f.forecast ∙ told_zero a _ (sym f.number ∙ z)
              ∙ ap (λ q. shown (forecast_run a q)) (sym (run_next a run before one));
          untold = λ before one later e nz. let f = (at_call before one later e).0 in
              f.forecast ∙ told_more a _ (λ z. nz (f.number ∙ z));
          marks = whole.marks;
          early = λ before one later e. let f = (at_call before one later e).0 in
              early_is a (run_by a before) _ one f.table f.number f.left f.early;
          costs = whole.costs;
          each_unit = λ before one later e. let f = (at_call before one later e).0 in
              omega (arith, f.cost, bound (run_by a before) one.bytes);
          at_most = λ before one later e. let f = (at_call before one later e).0 in
              omega (arith, f.cost, f.inv.small, bound (run_by a before) one.bytes);
          foreseen = λ before later e p h meets l.
              let i = inv_at s a mains ck run us us_is run_inv calls hr cs before later e in
              foresees s a mains ck (run_by a before) (last_table us before) p
              (table_at s a mains ck run us us_is run_inv calls hr cs before later e) i h meets l;
          breached = λ before one later e. step_shows s a mains ck (run_by a before) one.bytes
              (at_call before one later e).0.inv;
          unbreached = start_unbreached s a mains ck;
          final = λ before one later e b. let f = at_call before one later e in
              f.0.left ∙ ap table_of (step_final a (run_by a before) one.bytes f.1 b) ∙ sym f.0.table;
        }

-- The single claim over the whole list.
pub demand3 : Demand3
unfolding Demand3
demand3 s lent a mains r us calls hs hr st start cs = upheld s lent a mains st r us start hs calls hr cs

pub begins : Begins
unfolding Begins start_of
begins s lent us ahead start = by_table s lent
    (λ n more other x. let z : n ≡ 0 = sym (ap (λ y. y.number) x.start) ∙ zero in absurd (omega arith))
    (λ mains ck l. (
      agreement_of s,
      mains,
      record {
        is_accepted = ck;
        not_six = l;
        not_eleven = sym (written_number lent (started (agreement_of s)))
            ∙ sym (ap (λ x. x.number) (start_is s (agreement_of s) mains ck lent l)) ∙ zero;
      },
    ))
  where
    zero : (begun_of s lent).number ≡ 0
    zero = sym (ap (λ x. x.number) start)
