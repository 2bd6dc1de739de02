-- A step by the rules on cells: what it asks, and what it makes of the main clause or of a table's units.
use Rattle.std.specs.Prelude.{◌≡◌, Bool, List, [], ◌∷◌, ℕ, ◌*◌, ◌≤◌, ◌<◌, min, ℤ, length, drop, Result, Ok, Err}
use Rattle.csl.specs.Decode.{agreement_of, main_of}
use Rattle.csl.specs.Entries.{Answer}
use Rattle.csl.specs.Cost.{total}
use Rattle.cells.specs.Reduce as cells
use Rattle.cells.specs.Across.{across}
use Rattle.cells.specs.Sights.{flat}
use Rattle.cells.specs.declared.Sight.{Sight}
use Rattle.cells.specs.Tables.{alters}
use Rattle.bridge.proofs.Tables.{units_in}
use Rattle.bridge.proofs.Entries.{kept_cells}
use Rattle.waits.specs.Fates.{mode_at}
use Rattle.residues.specs.Tallies.{most_counted}
use Rattle.walk.specs.Tree.{Tree, tree_reckoned}
use Rattle.waits.specs.declared.Event.{Event}
use Rattle.waits.specs.declared.Event.TheVariants.{Activate, Forecast, Follow}
use Rattle.reduction.specs.declared.Short.{Short}
use Rattle.reduction.specs.declared.Wrote.{Wrote}
use Rattle.reduction.specs.declared.TooMany.{TooMany}

-- the cells of as many units as a table has
abbrev pub room_length : ℕ
room_length = 3072

-- "the main clause is activated at the start time"
unfoldable pub main_reckoned : List ℕ → cells.Reckoned
main_reckoned s = cells.reduce cells.activating (agreement_of s).templates (main_of s) [] [] (agreement_of s).start

-- n units of a table with what is in sight at them, and that an event makes one outcome of them
pub record UnitsDue (s : List ℕ) (sights : List Sight) (us : List ℤ) (n : ℕ) (e : Event) : Type 0 where
  pub tree : Tree (length s) sights (drop 8 us) n
  pub given : cells.Reckoned
  pub one : across (mode_at e) s n (flat sights) (drop 8 us) ≡ given ∷ []

abbrev pub DueBy : Event → Type 0 → Type 0
DueBy Activate units = Unit {0}
DueBy Forecast units = units
DueBy (Follow r) units = units

-- what is asked for an event at a time: at the start nothing but the agreement, else the units
pub record Due (s : List ℕ) (sights : List Sight) (us : List ℤ) (n time : ℕ) (e : Event) : Type 0 where
  pub short : length s ≤ 16_384
  pub held : n ≤ 128
  pub soon : time < 4_294_967_296
  pub units : DueBy e (UnitsDue s sights us n e)

abbrev pub reckoned_by : Event → cells.Reckoned → cells.Reckoned → cells.Reckoned
reckoned_by Activate main units = main
reckoned_by Forecast main units = units
reckoned_by (Follow r) main units = units

-- what an event makes of the main clause, or of n units
unfoldable pub reckoned : List ℕ → List Sight → List ℤ → ℕ → Event → cells.Reckoned
reckoned s sights us n e = reckoned_by e (main_reckoned s) (tree_reckoned (mode_at e) s n sights (drop 8 us))

abbrev pub reduced : List ℕ → List Sight → List ℤ → ℕ → Event → cells.Reduced
reduced s sights us n e = (reckoned s sights us n e).outcome

-- what it costs, as the code counts it
abbrev pub counted_cost : List ℕ → List Sight → List ℤ → ℕ → Event → ℕ
counted_cost s sights us n e = min (total (reckoned s sights us n e).tally) most_counted

-- "over 128 units it is 11 and nothing changes, otherwise 0"
abbrev pub advanced : Result Wrote TooMany → List ℤ → Answer
advanced (Err many) left = record { number = 11; table = left }
advanced (Ok wrote) left = record { number = 0; table = left }

-- what is said of a written table: whether a unit or the state altered
abbrev pub SaysAltered : Result Wrote TooMany → Bool → Type 0
SaysAltered (Err many) b = Unit {0}
SaysAltered (Ok wrote) b = wrote.altered ≡ b

abbrev pub cost_in : Result Wrote TooMany → ℕ
cost_in (Err many) = many.cost
cost_in (Ok wrote) = wrote.cost

-- where an event leads, in a table that is dated by the time
pub record Advances (s : List ℕ) (sights : List Sight) (us : List ℤ) (n time : ℕ) (e : Event) (left : List ℤ)
    (r : Result Wrote TooMany) : Type 0 where
  pub is : advanced r left ≡ kept_cells time n us (reduced s sights us n e)
  pub told : SaysAltered r (alters n us (reduced s sights us n e))
  pub costs : cost_in r ≡ counted_cost s sights us n e

-- what comes of it needs so many units, counted up to 129, for which there are not as many cells as `room`
pub record NoRoom (s : List ℕ) (sights : List Sight) (us : List ℤ) (n : ℕ) (e : Event) (room : ℕ)
    (lent left : List ℤ) (short : Short) : Type 0 where
  pub count : short.units ≡ min (units_in (reduced s sights us n e)) 129
  pub costs : short.cost ≡ counted_cost s sights us n e
  pub less : room < 24 * short.units
  pub kept : left ≡ lent

-- what a try in so many cells comes to; what is to be written held `lent`
abbrev pub Tried : List ℕ → List Sight → List ℤ → ℕ → ℕ → Event → ℕ → List ℤ → List ℤ → Result Wrote Short → Type 0
Tried s sights us n time e room lent left (Err short) = NoRoom s sights us n e room lent left short
Tried s sights us n time e room lent left (Ok wrote) = Advances s sights us n time e left (Ok wrote)
