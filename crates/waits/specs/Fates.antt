-- What becomes of a wait; what the code says of a wait in the record s holds whatever the place of s is.
use Rattle.std.specs.Prelude.{◌≡◌, List, ℕ, ◌+◌, ◌≤◌, ℤ, Bool, length}
use Rattle.cells.specs.Reduce.{Mode, activating, forecasting, following, fate, waits, late, taken, first_of, last_of}
use Rattle.readings.specs.declared.reading.Reading.{Reading}
use Rattle.readings.specs.Values.{values_read}
use Rattle.waits.specs.declared.Event.TheVariants.{Activate, Forecast, Follow}
use Rattle.csl.specs.Syntax.{Wait}
use Rattle.csl.specs.Bytes.{record_end}
use Rattle.csl.specs.Decode.{expr, wait_at}
use Rattle.csl.specs.Rules as rules
use Rattle.cells.specs.Evaluate.{is_true_cell, eval_cells}
use Rattle.arith.specs.Near.{Near}
use Rattle.waits.specs.declared.Event.{Event}
use Rattle.waits.specs.declared.wait.Wait.{Wait as Here}
use Rattle.waits.specs.declared.Fate.{Fate}
use Rattle.waits.specs.declared.Fate.TheVariants.{Waits, Late, Taken}
use Rattle.waits.specs.declared.Window.{Window}
use Rattle.waits.specs.declared.Timing.{Timing}
use Rattle.waits.specs.declared.Timing.TheVariants.{Early, OnTime, Late as tooLate}

-- csl's word for how a time stands to a window
abbrev pub timing_is : Timing → rules.Timing
timing_is Early = rules.early
timing_is OnTime = rules.on_time
timing_is tooLate = rules.late

-- the mode of a clause that follows a reading
abbrev pub mode_of : Reading → Mode
mode_of r = following r.time r.tag (values_read r)

-- ---- waits; what the code says of a wait in the record s holds whatever the place of s is
abbrev pub mode_at : Event → Mode
mode_at Activate = activating
mode_at Forecast = forecasting
mode_at (Follow r) = mode_of r.now

abbrev pub wait_in : Here → ℕ → Wait
wait_in w p = wait_at (expr w.depth) p w.bytes.now w.at

unfoldable pub condition_of : List ℕ → ℕ → ℕ → List ℤ → Bool
condition_of s i d vs = is_true_cell (eval_cells vs (wait_at (expr d) 0 s i).condition)

-- a wait's `after` stands from b to c in the record s, the reading type standing at i
pub record AfterAt (s : List ℕ) (i b c : ℕ) : Type 0 where
  pub begins : b ≡ record_end s (i + 1)
  pub ends : c ≡ record_end s b
  pub order : b ≤ c
  pub inside : c ≤ length s

pub record WindowIs (vs : List ℤ) (a : ℕ) (w : Wait) (r : Window) : Type 0 where
  pub first : r.first ≡ first_of vs a w
  pub last : r.last ≡ last_of vs a w
  pub near : Near (a + 2_000_000_000) r.last

unfoldable pub FateIs : Mode → List ℤ → ℕ → Wait → Fate → Type 0
FateIs m vs a w Waits = fate m vs a w ≡ waits
FateIs m vs a w (Late l) = (fate m vs a w ≡ late) × (l ≡ last_of vs a w) × Near (a + 2_000_000_000) l
FateIs m vs a w (Taken r l) = (fate m vs a w ≡ taken) × (l ≡ last_of vs a w) × Near (a + 2_000_000_000) l
    × (m ≡ mode_of r.now)
