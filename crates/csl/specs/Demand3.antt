-- The words of demand 3: readings that fit, what one of them reaches, and the run through a list of them.
-- The claim itself stands in monitor/specs/Demand3, of calls of the entries; `soundness` proves what it rests on.
use Rattle.std.specs.Prelude.{List, [], ◌∷◌, ◌≡◌, ℕ, zero, suc, T, ltb, ℤ, drop}
use Rattle.std.proofs.Math.Option.{Option}
use Rattle.csl.specs.Lists.{◌>>=◌, all, at}
use Rattle.csl.specs.Syntax.{Agreement}
use Rattle.csl.specs.Outcomes.{Outcome, done, breach, running, stuck, units}
use Rattle.csl.specs.Rules.{Reading, follow}
use Rattle.csl.specs.Table.{Run}
use Rattle.csl.specs.Run.{Stepped, raw_reading, typed_reading, step}
use Rattle.csl.specs.Early.{came_early, mark_of}
use Rattle.csl.specs.Cost.{cost_of}
use Rattle.csl.specs.Entries.{Forecast, untold, shown, forecast_run}

unfoldable pub Bytes : List ℕ → Type 0
Bytes bs = T (all (λ b. ltb b 256) bs)

unfoldable pub AllBytes : List (List ℕ) → Type 0
AllBytes [] = Unit {0}
AllBytes (r ∷ rs) = Bytes r × AllBytes rs

-- "A reading fits if neither 8 nor 9 applies"
unfoldable pub fitting : Agreement → List ℕ → Option Reading
fitting a bytes = raw_reading bytes >>= typed_reading a

-- the outcome that a fitting reading reaches, whether or not it is kept
unfoldable pub reached : Agreement → Outcome → Reading → Outcome
reached a done d = done
reached a (breach t ps) d = breach t ps
reached a (running r) d = follow a d r
reached a stuck d = stuck

-- the units that an outcome needs
unfoldable pub needed : Outcome → ℕ
needed done = 0
needed (breach t ps) = 0
needed (running r) = units r
needed stuck = 0

unfoldable pub NotStuck : Outcome → Type 0
NotStuck done = Unit {0}
NotStuck (breach t ps) = Unit {0}
NotStuck (running r) = Unit {0}
NotStuck stuck = ⊥

-- paper 02, No. 1: "Altered means that a unit cell or the state cell holds another number afterwards.": none does
unfoldable pub Unaltered : List ℤ → List ℤ → Type 0
Unaltered before after = (at before 0 ≡ at after 0) × (drop 8 before ≡ drop 8 after)

unfoldable pub IsBreach : Outcome → Type 0
IsBreach done = ⊥
IsBreach (breach t ps) = Unit {0}
IsBreach (running r) = ⊥
IsBreach stuck = ⊥

-- ---- "A run is fed the agreement and the readings' bytes, nothing from a table":
-- the run after a list of readings, and the number of each
unfoldable pub run_after : Agreement → Run → List (List ℕ) → Run
run_after a run [] = run
run_after a run (r ∷ rs) = run_after a (step a run r).run rs

unfoldable pub numbers_by : Agreement → Run → List (List ℕ) → List ℕ
numbers_by a run [] = []
numbers_by a run (r ∷ rs) = (step a run r).number ∷ numbers_by a (step a run r).run rs

-- paper 02, No. 8: the mark of each
unfoldable pub marks_by : Agreement → Run → List (List ℕ) → List ℕ
marks_by a run [] = []
marks_by a run (r ∷ rs) = mark_of (came_early a run r) ∷ marks_by a (step a run r).run rs

-- paper 02, No. 9: what each costs
unfoldable pub costs_by : Agreement → Run → List (List ℕ) → List ℕ
costs_by a run [] = []
costs_by a run (r ∷ rs) = cost_of a run r ∷ costs_by a (step a run r).run rs

-- paper 02, No. 2: the forecast that a step of the run tells, of the run that it leads to
unfoldable pub told_by : Agreement → Stepped → Forecast
told_by a s = elim s.number [ zero ↦ shown (forecast_run a s.run) | suc n ↦ untold ]

-- and the one told with each reading
unfoldable pub forecasts_by : Agreement → Run → List (List ℕ) → List Forecast
forecasts_by a run [] = []
forecasts_by a run (r ∷ rs) = told_by a (step a run r) ∷ forecasts_by a (step a run r).run rs
