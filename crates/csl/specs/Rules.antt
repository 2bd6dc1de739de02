-- The rules of `Reckoning`, reckoning the outcome: paper 01, "Following a reading" (CSL Figs. 8 and 9).
use Rattle.std.specs.Prelude.{List, ℕ}
use Rattle.csl.specs.Syntax.{Wait, Clause, Template, Agreement}
use Rattle.csl.specs.Values.{Val}
use Rattle.csl.specs.Outcomes.{Sight, Residue, unit, Outcome, done, breach, running, stuck, or_stuck, joined}
use Rattle.csl.specs.Windows as Windows
unfoldable pub use Rattle.csl.specs.Windows.{blamed, blamed_all, window, timing, with_values}
pub use Rattle.csl.specs.Windows.{Window, Reading, Timing, early, on_time, late}
use Rattle.csl.specs.Reckoning as Open
use Rattle.csl.specs.Reckoning.{Reckoning, StepOf}

-- fulfilled, breached with time and parties, running with a residue, joined; a clause that is reached, and one that
-- becomes another, count for nothing here
abbrev pub outcomes : Reckoning Outcome
outcomes = record {
  ends = done;
  breaks = breach;
  waits = λ s p a e. running (unit s p a e);
  joins = joined;
  stops = stuck;
  reaches = λ o. o;
  becomes = λ o. o;
}

abbrev pub Step : Type 0
Step = StepOf Outcome

unfoldable pub walk : Step → (ℕ → List Val → List ℕ → ℕ → Outcome) → Clause → Sight → ℕ → Outcome
unfolding Open.walk Open.or_stops or_stuck
walk s un c e a = Open.walk outcomes s un c e a

unfoldable pub walk_in : Step → List Template → ℕ → Clause → Sight → ℕ → Outcome
unfolding Open.walk_in Open.or_stops or_stuck walk
walk_in s ts n c e a = Open.walk_in outcomes s ts n c e a

unfoldable pub during : Step → List Template → Clause → Sight → ℕ → Outcome
unfolding Open.during walk_in
during s ts c e a = Open.during outcomes s ts c e a

unfoldable pub activating : Step
unfolding Open.activating
activating = Open.activating outcomes

unfoldable pub activate : List Template → Clause → Sight → ℕ → Outcome
unfolding Open.activate during activating
activate ts c e a = Open.activate outcomes ts c e a

unfoldable pub taken : List Template → Reading → Sight → Wait → Window → Clause → Outcome → Outcome
unfolding Open.taken Open.or_stops or_stuck activate
taken ts r e w v t waiting = Open.taken outcomes ts r e w v t waiting

unfoldable pub following : List Template → Reading → Step
unfolding Open.following Open.or_stops or_stuck taken
following ts r = Open.following outcomes ts r

-- none is `done`, which `and` treats as later than every time and which fulfils an `or`
unfoldable pub forecasting : Step
unfolding Open.forecasting Open.or_stops or_stuck
forecasting = Open.forecasting outcomes

unfoldable pub across : Step → Agreement → Residue → Outcome
unfolding Open.across Open.or_stops or_stuck during
across s a res = Open.across outcomes s a res

unfoldable pub follow : Agreement → Reading → Residue → Outcome
unfolding Open.follow across following
follow a r res = Open.follow outcomes a r res

unfoldable pub forecast : Agreement → Residue → Outcome
unfolding across forecasting
forecast a res = Open.across outcomes forecasting a res

-- what a proof by computation unfolds
unfoldable pub computes : Unit {0}
unfolding Windows.computes Open.computes walk walk_in during activating activate taken following forecasting across
    follow forecast
computes = tt
