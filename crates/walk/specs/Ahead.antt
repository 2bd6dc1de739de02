-- A residue's units at the front of a table, of which no sights are known, and what the code tells of their forecast.
use Rattle.std.specs.Prelude.{◌≡◌, true, false, List, ℕ, ◌+◌, ◌*◌, ◌≤◌, ltb, ℤ, pos, length, get_or, take, drop}
use Rattle.std.specs.Prelude.{[], Option, Some, None}
use Rattle.laws.specs.Joins.{join_of}
use Rattle.kinds.specs.Kinds.{join_in}
use Rattle.kinds.specs.declared.Join as kinds
use Rattle.csl.specs.Syntax.{Join}
use Rattle.csl.specs.Outcomes.{Residue, unit, both, units}
use Rattle.cells.specs.Reduce.{Reduced, done, breach, running}
use Rattle.cells.specs.Ahead.{ahead}
use Rattle.cells.specs.Across.{nat_of}
use Rattle.parties.specs.declared.breach.Breach.{Breach}
use Rattle.residues.specs.Reduces.{Is}
use Rattle.walk.specs.declared.ahead.Foretold.{Foretold}
use Rattle.walk.specs.Tree.{Waiting}

-- a unit that joins two sides so
pub record JoinedBy (j : Join) (unit : List ℤ) : Type 0 where
  pub sort : ltb (nat_of (get_or unit 0 (pos 0))) 20 ≡ false
  pub is : j ≡ join_of (nat_of (get_or unit 0 (pos 0)))

-- a residue's units stand at the front; at each that waits all cells of parameters and of values are lent
unfoldable pub UnitsOf : ℕ → Residue → List ℤ → Type 0
UnitsOf size (unit k p a e) cs = (24 ≤ length cs) × Waiting size 4 16 (take 24 cs)
UnitsOf size (both j l r) cs = (24 ≤ length cs) × JoinedBy j (take 24 cs) × UnitsOf size l (drop 24 cs)
    × UnitsOf size r (drop (24 + 24 * units l) cs)

-- some residue's units do, no more than a table holds
pub record SomeUnits (size : ℕ) (cs : List ℤ) : Type 0 where
  pub residue : Residue
  pub few : units residue ≤ 128
  pub stands : UnitsOf size residue cs

-- how a unit of a sort joins two sides, none where it waits
unfoldable pub SortIs : ℤ → Option kinds.Join → Type 0
SortIs z None = ltb (nat_of z) 20 ≡ true
SortIs z (Some join) = (ltb (nat_of z) 20 ≡ false) × (join_in join ≡ join_of (nat_of z))

-- so many units stand at the front, and come to this
pub record ComesTo (s : List ℕ) (res : Residue) (cs : List ℤ) (f : Foretold) : Type 0 where
  pub count : f.units ≡ units res
  pub outcome : Is (ahead s res cs) f.outcome []

-- a breach, or none where all is fulfilled; of units that wait on, which do not occur, nothing is said
unfoldable pub Tells : Reduced → Option Breach → Type 0
Tells done None = Unit {0}
Tells done (Some b) = ⊥
Tells (breach t c) None = ⊥
Tells (breach t c) (Some b) = (b.time ≡ pos t) × (b.parties ≡ c)
Tells (running cs) b = Unit {0}
