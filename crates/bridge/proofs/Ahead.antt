-- What the units of a residue come to on cells if only time goes on, all cells of parameters and values being lent,
-- shows csl's forecast of the residue.
-- Main theorems: `unit_ahead_is` for a waiting unit, `residue_ahead_shows` for a residue, `ahead_shows` for a table.
use mathlib.Core.List.{List, [], ◌∷◌, ◌++◌, append_assoc}
use mathlib.Core.Option.{some}
use mathlib.Core.Path.{ap, ap₂, refl, subst, sym, ◌∙◌, ◌≡◌}
use Prim.Native.Nat.{◌*◌, ◌+◌, ◌-◌, ℕ, ◌≤◌}
use native.Mathlib.Omega.{arith}
use lib.IntN.{ℤ}
use lib.ListN.{drop, length, length-append, take}
use lib.Seq.{drop-drop, drop_at, take_all, take_at}
use Rattle.csl.specs.Syntax.{Agreement}
use Rattle.csl.specs.Decode.{agreement_of}
use Rattle.csl.specs.Check.{accepted, checked}
use Rattle.csl.specs.Outcomes.{Outcome, Residue, Sight, Sort, both, breach, done, running, stuck}
use Rattle.csl.specs.Outcomes.{unit, units}
use Rattle.csl.specs.Places.{clause_at}
use Rattle.csl.specs.Reckoning as Open
use Rattle.csl.specs.Rules.{forecast, forecasting, outcomes}
use Rattle.csl.specs.Table.{cells_of, cells_of_unit, join_cells, nat_cells, padded, residue_cells, run_of}
use Rattle.csl.specs.Entries.{Forecast, breach_at, forecast_of, forecast_run, no_breach, no_forecast, shown}
use Rattle.laws.proofs.Cells.{length_join, length_padded}
use Rattle.laws.proofs.Clash.{impossible}
use Rattle.soundness.proofs.Good.{Good, Ok, OkUnit}
use Rattle.soundness.proofs.Walks.{Fair}
use Rattle.soundness.proofs.Forecasts.{ForecastOk, forecast_ok}
use Rattle.soundness.proofs.RoundTrip.{len_nats, units_length}
use Rattle.soundness.proofs.Runs.{Since, cells_len, is_fair, run_at}
use Rattle.soundness.proofs.Moved.{units_behind}
use Rattle.soundness.proofs.Marks.{forecast_is}
use Rattle.soundness.proofs.ReadBack.{run_of_good, table_back}
use Rattle.cells.specs.Reduce as cells
use Rattle.cells.specs.Reduce.{Reckoned, Reduced}
use Rattle.cells.specs.Across.{nat_of, unit_reckoned}
use Rattle.cells.specs.Ahead.{ahead, unit_ahead}
use Rattle.cells.proofs.Wide.{reduce_wide}
use Rattle.bridge.proofs.Shows.{Shows, joined_shows, match_bind, outcomes_match}
use Rattle.bridge.proofs.Reduce.{forecast_shows}
use Rattle.bridge.proofs.Across.{FoundIs}

-- of the 5 cells of a unit's parameters 4 are lent
four : (xs rest : List ℤ) → length xs ≤ 4 → take 4 (padded 5 xs ++ rest) ≡ padded 4 xs
unfolding padded
four [] rest few = refl
four (x ∷ []) rest few = refl
four (x ∷ y ∷ []) rest few = refl
four (x ∷ y ∷ z ∷ []) rest few = refl
four (x ∷ y ∷ z ∷ w ∷ []) rest few = refl
four (x ∷ y ∷ z ∷ w ∷ v ∷ more) rest few = absurd (omega (arith, few))

module _ (s : List ℕ) (found : FoundIs s) where
  abbrev ag : Agreement
  ag = agreement_of s

  -- ---- a waiting unit that is as it should be
  module _ (W : ℕ → Type 0) (k : Sort) (p a : ℕ) (e : Sight) (ps : List ℕ) (ok : OkUnit ag W k p a e ps) where
    few : length (nat_cells e.params) ≤ 4
    few = omega (arith, len_nats e.params, ok.sight.count, ok.sight.few_params)

    five : length (padded 5 (nat_cells e.params)) ≡ 5
    five = length_padded 5 (nat_cells e.params) (omega (arith, few))

    sixteen : length (padded 16 (cells_of e.values)) ≤ 16
    unfolding cells_of_unit
    sixteen = omega (
      arith,
      five,
      length-append (padded 5 (nat_cells e.params)) (padded 16 (cells_of e.values)),
      units_length ag W k p a e ps ok,
    )

    -- its clause forecast with what is in sight alone
    abbrev in_sight : Reckoned
    in_sight = cells.reduce cells.forecasting ag.templates ok.found.clause (nat_cells e.params) (cells_of e.values) a

    pub unit_ahead_is : unit_reckoned cells.forecasting s 4 16 (cells_of_unit k p a e) ≡ in_sight
    unfolding unit_reckoned nat_of cells_of_unit padded
    unit_ahead_is = rw (← (found p ok.found ok.is_at))
        (ap₂ (λ qs vs. cells.reduce cells.forecasting ag.templates ok.found.clause qs vs a)
        (four (nat_cells e.params) (padded 16 (cells_of e.values)) few)
        (ap (take 16) (drop_at (padded 5 (nat_cells e.params)) (padded 16 (cells_of e.values)) 5 five)
        ∙ take_all 16 (padded 16 (cells_of e.values)) sixteen)
        ∙ reduce_wide ag.templates ok.found.clause (nat_cells e.params) (cells_of e.values)
        (4 - length (nat_cells e.params)) (16 - length (cells_of e.values)) a)

  -- ---- the units of a residue, in front of other cells
  module _ (mains : List ℕ) (fair : Fair ag mains) (W : ℕ → Type 0) where
    pub residue_ahead_shows : (res : Residue) (ps : List ℕ) (rest : List ℤ) → Ok ag W res ps
        → Shows (forecast ag res) (ahead s res (residue_cells res ++ rest))
    unfolding Ok units residue_cells forecast forecasting Open.across Open.or_stops ahead unit_ahead
    residue_ahead_shows (unit k p a e) ps rest ok =
        let is = ap (unit_ahead s) (take_at (cells_of_unit k p a e) rest 24 (units_length ag W k p a e ps ok))
        ∙ ap (λ x. x.outcome) (unit_ahead_is W k p a e ps ok) in
        subst (Shows (forecast ag (unit k p a e))) (sym is)
        (match_bind outcomes (λ o x. Shows o x.outcome) (clause_at ag p) _ ok.found
        (in_sight W k p a e ps ok) ok.is_at
        (forecast_shows outcomes_match ag mains fair ok.found.clause ok.found.params ok.found.sight e a ok.blames
        ok.sight ok.typed ok.placed))
    residue_ahead_shows (both j l r) ps rest ok =
        rw (sides, right) (joined_shows j (forecast ag l) (forecast ag r) _ _
        (residue_ahead_shows l ok.0 behind ok.2) (residue_ahead_shows r ok.1 rest ok.3))
      where
        whole : List ℤ
        whole = (join_cells j ++ (residue_cells l ++ residue_cells r)) ++ rest

        behind : List ℤ
        behind = residue_cells r ++ rest

        sides : drop 24 whole ≡ residue_cells l ++ behind
        sides = ap (drop 24) (append_assoc (join_cells j) (residue_cells l ++ residue_cells r) rest)
            ∙ drop_at (join_cells j) ((residue_cells l ++ residue_cells r) ++ rest) 24 (length_join j)
            ∙ append_assoc (residue_cells l) (residue_cells r) rest

        right : drop (24 + 24 * units l) whole ≡ behind
        right = sym (drop-drop (24 * units l) 24 whole) ∙ ap (drop (24 * units l)) sides
            ∙ drop_at (residue_cells l) behind (24 * units l) (cells_len ag W l ok.0 ok.2)

-- a forecast's outcome on cells
unfoldable pub foretold : Reduced → Forecast
foretold cells.done = no_breach
foretold (cells.breach t b) = breach_at t b
foretold (cells.running us) = no_forecast

-- a forecast that is as it should be is told as what shows it tells it
foretold_shows : (ag : Agreement) (mains : List ℕ) (o : Outcome) (x : Reduced) → ForecastOk ag mains o → Shows o x
    → (shown o ≡ foretold x) × ((vs : List ℤ) → x ≡ cells.running vs → ⊥)
unfolding ForecastOk Shows shown foretold
foretold_shows ag mains done x f h = rw h (refl, λ vs e. impossible cc)
foretold_shows ag mains (breach t ps) x f h = rw h (refl, λ vs e. impossible cc)
foretold_shows ag mains (running r) x f h = absurd f
foretold_shows ag mains stuck x f h = absurd f

-- ---- the table of a running run of an accepted agreement
module _ (s mains : List ℕ) (ck : checked s ≡ accepted (agreement_of s) mains) (found : FoundIs s) (now m : ℕ)
    (res : Residue) (us : List ℤ) (l : length us ≡ 3080)
    (is : run_of (agreement_of s) mains us ≡ some (run_at now m (running res))) where
  pub ahead_shows : (forecast_of s us ≡ foretold (ahead s res (drop 8 us)))
      × ((vs : List ℤ) → ahead s res (drop 8 us) ≡ cells.running vs → ⊥)
  unfolding Good forecast_run
  ahead_shows =
      let ag = agreement_of s in
      let run = run_at now m (running res) in
      let fair = is_fair s ag mains ck in
      let g = (run_of_good ag mains us run fair is).good in
      let behind = ap (drop 8) (sym (table_back ag mains us run is l)) ∙ units_behind now m res in
      let told = foretold_shows ag mains (forecast ag res) (ahead s res (drop 8 us))
      (forecast_ok ag mains fair now res g.0 g.1 g.2)
      (rw behind (residue_ahead_shows s found mains fair (Since ag now) res g.0 _ g.1)) in
      (forecast_is s ag mains ck us run is ∙ told.0, told.1)
