-- The state that a table shows.
use Rattle.std.specs.Prelude.{◌≡◌, List, ℕ, ◌≤◌, ◌<◌, T, ℤ, pos, get_or, take, drop}
use Rattle.std.specs.Prelude.{Option as Maybe, Some, None}
use Rattle.std.proofs.Math.Option.{Option, none, some}
use Rattle.csl.specs.Lists.{all}
use Rattle.csl.specs.Bytes.{le32}
use Rattle.csl.specs.Parties.{members}
use Rattle.csl.specs.Decode.{agreement_of}
use Rattle.csl.specs.Outcomes.{Residue, units, Outcome, done, breach, running}
use Rattle.csl.specs.Table.{Run, is_zero, run_of}
use Rattle.csl.specs.Check.{mains_of}
use Rattle.cells.specs.Sights.{sights_in}
use Rattle.cells.specs.declared.Sight.{Sight}
use Rattle.state.specs.declared.State.{State}
use Rattle.state.specs.declared.State.TheVariants.{Running, Fulfilled, Breached}

-- o is a run with this outcome, and its last reading time stands in cell 1
pub record RunShows (o : Option Run) (cells : List ℤ) (out : Outcome) : Type 0 where
  pub now : ℕ
  pub moved : ℕ
  pub is : o ≡ some (record { last_time = now; last_moved = moved; outcome = out })
  pub cell : get_or cells 1 (pos 0) ≡ pos now

-- running with n units, which the sights show too
pub record RunningAs (o : Option Run) (cells : List ℤ) (sights : List Sight) (n : ℕ) : Type 0 where
  pub residue : Residue
  pub shows : RunShows o cells (running residue)
  pub count : n ≡ units residue
  pub few : n ≤ 128
  pub sighted : take n sights ≡ sights_in residue

pub record BreachedAs (o : Option Run) (cells : List ℤ) (t : ℤ) (bits : ℕ) : Type 0 where
  pub time : ℕ
  pub is_time : t ≡ pos time
  pub small : bits < 65_536
  pub shows : RunShows o cells (breach time (members bits))

unfoldable pub Shows : Option Run → List ℤ → List Sight → Maybe State → Type 0
Shows o cells sights None = o ≡ none
Shows o cells sights (Some (Running n)) = RunningAs o cells sights n
Shows o cells sights (Some Fulfilled) = RunShows o cells done
Shows o cells sights (Some (Breached b)) = BreachedAs o cells b.time b.parties

-- the run that csl reads
abbrev pub run_in : List ℕ → List ℤ → Option Run
run_in a cells = run_of (agreement_of a) (mains_of a) cells

-- ---- the head's times, the last reading's and when the run last moved, with zeros behind them
pub record TimesAt (a : List ℕ) (cells : List ℤ) (time : ℕ) : Type 0 where
  pub is_now : get_or cells 1 (pos 0) ≡ pos time
  pub moved : ℕ
  pub is_moved : get_or cells 5 (pos 0) ≡ pos moved
  pub from : le32 a 4 ≤ moved
  pub until : moved ≤ time
  pub to : time < 4_294_967_296
  pub zeros : T (all is_zero (take 2 (drop 6 cells)))

-- the last reading time, where the head's times are some
unfoldable pub TimeIs : List ℕ → List ℤ → Maybe ℕ → Type 0
TimeIs a cells None = (time : ℕ) → TimesAt a cells time → ⊥
TimeIs a cells (Some time) = TimesAt a cells time

-- the head's state and times
pub record HeadAt (a : List ℕ) (cells : List ℤ) (state time : ℕ) : Type 0 where
  pub is_state : get_or cells 0 (pos 0) ≡ pos state
  pub times : TimesAt a cells time

-- what a table with a fulfilled state shows
abbrev pub FulfilledIs : List ℤ → Maybe State → Type 0
FulfilledIs cells r = (a : List ℕ) (time : ℕ) (sights : List Sight) → HeadAt a cells 2 time
    → Shows (run_in a cells) cells sights r
