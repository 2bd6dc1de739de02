-- What the entries answer, from the rules on cells: code that is proved against those answers as csl says.
-- Main theorems: `start_reduce`, `reading_running`, `forecast_running`.
use mathlib.Core.Bool.{Bool, cond, false, not, true, ◌&&◌}
use mathlib.Core.List.{List, [], ◌∷◌, ◌++◌}
use mathlib.Core.Option.{none, some}
use mathlib.Core.Path.{ap, ap₂, refl, subst, sym, ◌∙◌, ◌≡◌}
use Prim.Native.Nat.{◌<◌, ℕ, ◌≤◌}
use native.Mathlib.Omega.{arith}
use lib.Dec.{ltb}
use borrow.Author.Tests.{ltb-false}
use lib.IntN.{pos, ℤ}
use lib.ListN.{drop, length}
use Rattle.csl.specs.Lists.{all}
use Rattle.csl.specs.Parties.{bits_of}
use Rattle.csl.specs.Syntax.{Agreement}
use Rattle.csl.specs.Decode.{agreement_of, main_of}
use Rattle.csl.specs.Check.{accepted, checked}
use Rattle.csl.specs.Outcomes.{Outcome, Residue, breach, done, running, units}
use Rattle.csl.specs.Rules.{Reading, activate, follow}
use Rattle.csl.specs.Run.{Raw, Stepped, altered, fit, fit_of, followed, kept, raw_reading, read_at, started, step}
use Rattle.csl.specs.Run.{typed_reading, unfit}
use Rattle.csl.specs.Table.{Run, cells_of, head_cells, nat_cells, run_of, stand_for, table_of}
use Rattle.csl.specs.Early.{came_early, idle, mark_of, some_too_early}
use Rattle.csl.specs.Cost.{cost_from, cost_of, total}
use Rattle.csl.specs.Entries.{Answer, breach_at, forecast_of, forecast_run, no_breach}
use Rattle.csl.specs.Entries.{read_of}
use Rattle.csl.specs.Entries.{answered, refusal, shown, begun_of, written}
use Rattle.csl.specs.Demand3.{fitting, needed}
use Rattle.laws.proofs.Bools.{by}
use Rattle.laws.proofs.Options.{some_inj, none_some}
use Rattle.soundness.proofs.Evaluation.{HaveTy}
use Rattle.soundness.proofs.Good.{Good, SightOk}
use Rattle.soundness.proofs.Walks.{Fair}
use Rattle.soundness.proofs.Activation.{activate_good}
use Rattle.soundness.proofs.Following.{ReadingOk, follow_good}
use Rattle.soundness.proofs.Readings.{reading_ok}
use Rattle.soundness.proofs.Runs.{Since, fit_cases, fit_by_bytes, fit_by_type, is_fair, moved_to, reading_is, run_at}
use Rattle.soundness.proofs.Runs.{start_is, stepped}
use Rattle.soundness.proofs.Moved.{stays_done}
use Rattle.soundness.proofs.Early.{mark_not_early}
use Rattle.soundness.proofs.Marks.{forecast_is}
use Rattle.soundness.proofs.ReadBack.{run_of_good, table_back}
use Rattle.cells.specs.Reduce.{Reckoned, Reduced}
use Rattle.cells.specs.Reduce as cells
use Rattle.cells.specs.Across as table
use Rattle.bridge.proofs.Shows.{Shows, outcomes_match}
use Rattle.bridge.proofs.Reduce.{activate_shows}
use Rattle.bridge.proofs.Across.{FoundIs, follow_across, follow_costs, sights_of}
use Rattle.bridge.proofs.Refusals.{answer, unread}
use Rattle.cells.specs.Tables.{alters, head_of, moved_cell, reduced_table, stepped_table}
use Rattle.bridge.proofs.Tables.{needed_shows, table_shows, too_many_shows, units_in}
use Rattle.bridge.proofs.Moved.{alters_shows, moved_first_lem, moved_shows}
use Rattle.bridge.proofs.Early.{whole_opens_later}

-- "over 128 units it is 11 and nothing changes, otherwise 0"
unfoldable pub kept_cells : ℕ → ℕ → List ℤ → Reduced → Answer
kept_cells now n us x = cond (ltb 128 (units_in x)) (answer 11 us) (answer 0 (stepped_table now n us x))

-- "the reading is accepted [..] no unit or state altered, and at least one waiting unit" opens later
unfoldable pub early_cells : ℕ → List ℤ → Reduced → Bool → Bool
early_cells n us x later = not (ltb 128 (units_in x)) && not (alters n us x) && later

module _ (ag : Agreement) (W : ℕ → Type 0) (P : List ℕ) (before : Run) (us : List ℤ) (now m n : ℕ) (o : Outcome)
    (x : Reduced) (g : Good ag W P o) (h : Shows o x) where
  few : ltb 128 (units_in x) ≡ false → needed o ≤ 128
  few e = omega (arith, ltb-false 128 (units_in x) e, needed_shows ag W P o x g h)

  abbrev kept_if : Bool → Stepped
  kept_if b = elim b [ true ↦ stepped 11 before | false ↦ stepped 0 (run_at now m o) ]

  kept_by : kept before (run_at now m o) ≡ kept_if (ltb 128 (units_in x))
  unfolding kept
  kept_by = ap kept_if (too_many_shows ag W P o x g h)

  kept_shows : (needed o ≤ 128 → pos m ≡ moved_cell now n us x)
      → written us (kept before (run_at now m o)) ≡ kept_cells now n us x
  unfolding written refusal kept_cells stepped_table
  kept_shows mv = ap (written us) kept_by
      ∙ by (λ b. written us (kept_if b) ≡ cond b (answer 11 us) (answer 0 (stepped_table now n us x)))
      (ltb 128 (units_in x)) (λ e. refl)
      (λ e. ap (answer 0) (table_shows ag W P now m o x g h ∙ ap (λ z. reduced_table now z x) (mv (few e))))

  early_shows : (needed o ≤ 128 → altered (table_of before) (table_of (run_at now m o)) ≡ alters n us x)
      → (later : Bool)
      → (elim later [ false ↦ false | true ↦ idle before (kept before (run_at now m o)) ]) ≡ early_cells n us x later
  unfolding idle early_cells
  early_shows al later = last (idle before (kept before (run_at now m o))) later ∙ ap (λ b. b && later)
      (ap (idle before) kept_by
      ∙ by (λ b. idle before (kept_if b) ≡ (not b && not (alters n us x)))
      (ltb 128 (units_in x)) (λ e. refl) (λ e. ap not (al (few e))))
    where
      last : (b c : Bool) → (elim c [ false ↦ false | true ↦ b ]) ≡ (b && c)
      last true true = refl
      last true false = refl
      last false true = refl
      last false false = refl

same_one : {x y : Reckoned} → x ∷ [] ≡ y ∷ [] → x ≡ y
same_one e = cc

-- ---- a reading that fits, or not
module _ (a : Agreement) (now : ℕ) (r : List ℕ) where
  fit_eight : raw_reading r ≡ none → fit_of a now r ≡ unfit 8
  unfolding fit_of
  fit_eight e = ap (fit_by_bytes a now) e

  fit_nine : (w : Raw) → raw_reading r ≡ some w → typed_reading a w ≡ none → fit_of a now r ≡ unfit 9
  unfolding fit_of
  fit_nine w e f = ap (fit_by_bytes a now) e ∙ ap (fit_by_type now) f

  fit_ten : (d : Reading) → fitting a r ≡ some d → d.time < now → fit_of a now r ≡ unfit 10
  fit_ten d f lt = fit_cases a now r
      (λ n w f' e. none_some (sym f' ∙ f))
      (λ d' f' lt' e. e)
      (λ w d' e₁ e₂ f' le e. let t : d'.time ≡ d.time = ap (λ x. x.time) (some_inj (sym f' ∙ f)) in
      absurd (omega arith))

  -- one that fits and is not earlier
  fit_on : (d : Reading) → fitting a r ≡ some d → now ≤ d.time → ReadingOk a d × (fit_of a now r ≡ fit d)
  fit_on d f le = fit_cases a now r
      (λ n w f' e. none_some (sym f' ∙ f))
      (λ d' f' lt e. let t : d'.time ≡ d.time = ap (λ x. x.time) (some_inj (sym f' ∙ f)) in absurd (omega arith))
      (λ w d' e₁ e₂ f' le' e. let t : d' ≡ d = some_inj (sym f' ∙ f) in
      (subst (ReadingOk a) t (reading_ok a w d' e₂).0, e ∙ ap fit t))

-- ---- an accepted agreement
module _ (s mains : List ℕ) (ck : checked s ≡ accepted (agreement_of s) mains) where
  abbrev ag : Agreement
  ag = agreement_of s

  fair : Fair ag mains
  fair = is_fair s ag mains ck

  no_sight : SightOk ag 0 [] (record { params = []; values = [] })
  unfolding HaveTy all
  no_sight = record { count = refl; few_params = omega arith; range = tt; values = tt }

  -- ---- start
  start_shows : (us : List ℤ) (x : Reduced) → length us ≡ 3080
      → Shows (activate ag.templates ag.main (record { params = []; values = [] }) ag.start) x
      → begun_of s us ≡ kept_cells ag.start 0 us x
  unfolding started
  start_shows us x l h =
      start_is s ag mains ck us l
      ∙ kept_shows ag (λ t. Unit {0}) (stand_for [] mains) _ us ag.start ag.start 0 first x good h
      (λ few. moved_first_lem ag (λ t. Unit {0}) (stand_for [] mains) ag.start us first x good h)
    where
      first : Outcome
      first = activate ag.templates ag.main (record { params = []; values = [] }) ag.start

      good : Good ag (λ t. Unit {0}) (stand_for [] mains) first
      good = activate_good ag mains fair (λ t. Unit {0}) ag.main 0 [] (record { params = []; values = [] })
          ag.start mains no_sight tt fair.main fair.main_placed

  pub start_reduce : (us : List ℤ) → length us ≡ 3080
      → begun_of s us ≡ kept_cells ag.start 0 us
      (cells.reduce cells.activating ag.templates (main_of s) [] [] ag.start).outcome
  unfolding agreement_of nat_cells cells_of activate
  start_reduce us l = start_shows us _ l (activate_shows outcomes_match ag mains fair ag.main 0 []
      (record { params = []; values = [] }) ag.start mains no_sight fair.main fair.main_placed)

  module _ (us : List ℤ) (l : length us ≡ 3080) where
    -- ---- a reading that does not fit, or comes before the last
    module _ (q : Run) (is : run_of ag mains us ≡ some q) (r : List ℕ) where
      unfits : (n : ℕ) → fit_of ag q.last_time r ≡ unfit n → read_of s us r ≡ answered 0 0 (written us (stepped n q))
      unfolding came_early mark_of cost_of step
      unfits n e = reading_is s ag mains ck us q r l is ∙ rw (e, came_early, cost_of, step) refl

      pub reading_eight : raw_reading r ≡ none → read_of s us r ≡ unread 8 us
      unfolding written refusal
      reading_eight e = unfits 8 (fit_eight ag q.last_time r e)

      pub reading_nine : (w : Raw) → raw_reading r ≡ some w → typed_reading ag w ≡ none
          → read_of s us r ≡ unread 9 us
      unfolding written refusal
      reading_nine w e f = unfits 9 (fit_nine ag q.last_time r w e f)

      pub reading_ten : (d : Reading) → fitting ag r ≡ some d → d.time < q.last_time → read_of s us r ≡ unread 10 us
      unfolding written refusal
      reading_ten d f lt = unfits 10 (fit_ten ag q.last_time r d f lt)

    -- ---- one that fits and does not come before the last
    module _ (now m : ℕ) (r : List ℕ) (d : Reading) (f : fitting ag r ≡ some d) (le : now ≤ d.time) where
      pub reading_done : run_of ag mains us ≡ some (run_at now m done)
          → read_of s us r ≡ answered 0 0 (answer 0 (reduced_table d.time (pos m) cells.done))
      unfolding came_early mark_of cost_of cost_from step written followed read_at
      reading_done is = reading_is s ag mains ck us (run_at now m done) r l is
          ∙ rw ((fit_on ag now r d f le).1, came_early, cost_of, step) refl
          ∙ ap (λ k. answered 0 0 (answer 0 (table_of (run_at d.time k done)))) (stays_done now m d.time)
          ∙ ap (λ t. answered 0 0 (answer 0 t)) (unfold table_of reduced_table head_of head_cells nat_cells in refl)

      pub reading_breach : (t : ℕ) (ps : List ℕ) → run_of ag mains us ≡ some (run_at now m (breach t ps))
          → read_of s us r ≡ answered 0 0 (answer 0 us)
      unfolding came_early mark_of cost_of cost_from step written followed
      reading_breach t ps is = reading_is s ag mains ck us (run_at now m (breach t ps)) r l is
          ∙ rw ((fit_on ag now r d f le).1, came_early, cost_of, step) refl
          ∙ ap (λ t. answered 0 0 (answer 0 t)) (table_back ag mains us (run_at now m (breach t ps)) is l)

      module _ (found : FoundIs s) (res : Residue) (sights : List ℕ) where
        -- some unit of the table opens later
        abbrev later : Bool
        later = table.some_open_later d.time d.type (cells_of d.values) s (units res) (sights_of ag res ++ sights)
            (drop 8 us)

        -- x is what the rules on cells give for all units of the table
        pub reading_running : (x : Reckoned) → run_of ag mains us ≡ some (run_at now m (running res))
            → table.across (cells.following d.time d.type (cells_of d.values)) s (units res)
            (sights_of ag res ++ sights) (drop 8 us) ≡ x ∷ []
            → read_of s us r ≡ answered (mark_of (early_cells (units res) us x.outcome later)) (total x.tally)
            (kept_cells d.time (units res) us x.outcome)
        unfolding came_early cost_of cost_from step followed Good follow read_at
        reading_running x is e =
            let q = run_at now m (running res) in
            let o = follow ag d res in
            let W = Since ag d.time in
            let moved = moved_to now m (running res) d.time o in
            let st = fit_on ag now r d f le in
            let g = (run_of_good ag mains us q fair is).good in
            let w = follow_across s mains fair found now m res us l is sights d st.0 in
            let same = same_one (sym w.only ∙ e) in
            let good = follow_good ag mains fair d st.0 now le res g.0 g.1 in
            let shows = subst (λ y. Shows o y.outcome) same (w.shown outcomes_match) in
            let cost = sym (follow_costs s mains fair found now m res us l is sights d st.0)
            ∙ ap (λ y. total y.tally) same in
            reading_is s ag mains ck us q r l is ∙ rw (st.1, came_early, cost_of, step, cost) refl
            ∙ ap₂ (λ b y. answered (mark_of b) (total x.tally) y)
            (early_shows ag W g.0 q us d.time moved (units res) o x.outcome good shows
            (alters_shows ag mains fair now m res us l is W g.0 d.time moved o x.outcome good shows)
            (some_too_early ag d res)
            ∙ ap (early_cells (units res) us x.outcome)
            (sym (whole_opens_later s mains fair found d st.0 now m res us l is sights)))
            (kept_shows ag W g.0 q us d.time moved (units res) o x.outcome good shows
            (moved_shows ag mains fair now m res us l is W g.0 d.time o x.outcome good shows))

        -- no unit waits for a time mark
        pub marks_later : run_of ag mains us ≡ some (run_at now m (running res)) → d.type ≡ 0 → later ≡ false
        unfolding Good
        marks_later is mark =
            let g = (run_of_good ag mains us (run_at now m (running res)) fair is).good in
            whole_opens_later s mains fair found d (fit_on ag now r d f le).0 now m res us l is sights
            ∙ mark_not_early ag (Since ag now) d mark res g.0 g.1

    -- ---- the forecast
    pub forecast_done : (now m : ℕ) → run_of ag mains us ≡ some (run_at now m done) → forecast_of s us ≡ no_breach
    unfolding forecast_run shown
    forecast_done now m is = forecast_is s ag mains ck us (run_at now m done) is

    -- "A breached table gives its verdict."
    pub forecast_breach : (now m t : ℕ) (ps : List ℕ) → run_of ag mains us ≡ some (run_at now m (breach t ps))
        → forecast_of s us ≡ breach_at t (bits_of ps)
    unfolding forecast_run shown
    forecast_breach now m t ps is = forecast_is s ag mains ck us (run_at now m (breach t ps)) is
