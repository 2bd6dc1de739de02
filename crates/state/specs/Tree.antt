-- The tree of units at the front of the cells: "An `and` or `or` unit is followed by all of its left side, then all
-- of its right".
use Rattle.std.specs.Prelude.{◌≡◌, true, List, ◌∷◌, ℕ, ◌+◌, ◌-◌, ◌*◌, ◌≤◌, ◌<◌, ℤ, pos, length, get_or, take, drop}
use Rattle.std.specs.Prelude.{Option as Maybe, Some, None}
use Rattle.std.proofs.Math.Option.{none, some}
use Rattle.csl.specs.Lists.{all}
use Rattle.csl.specs.Syntax.{Join, Agreement}
use Rattle.csl.specs.Decode.{agreement_of}
use Rattle.csl.specs.Outcomes.{Sort, Residue, unit, both, units}
use Rattle.csl.specs.Table.{is_zero, waiting_unit, waiting, joining, unit_sort, residue_parties}
use Rattle.csl.specs.Check.{mains_of}
use Rattle.kinds.specs.Kinds.{join_in, wait_number}
use Rattle.kinds.specs.declared.Join as kinds
use Rattle.kinds.specs.declared.WaitKind.{WaitKind}
use Rattle.units.specs.Units.{cells_in, PartiesOf}
use Rattle.cells.specs.Sights.{sights_in}
use Rattle.cells.specs.declared.Sight.{Sight}
use Rattle.state.specs.declared.First.{First}
use Rattle.state.specs.declared.First.TheVariants.{Waits, Joins}
use Rattle.state.specs.declared.Tree.{Tree}

-- the first unit waits and is read as r
pub record WaitsFirst (ag : Agreement) (r : Residue) (cells : List ℤ) : Type 0 where
  pub room : 24 ≤ length cells
  pub sort : Sort
  pub is_sort : unit_sort (get_or cells 0 (pos 0)) ≡ some (waiting sort)
  pub reads : waiting_unit ag sort (cells_in cells 1 24) ≡ some r

-- the first unit is a join
pub record JoinsFirst (j : Join) (cells : List ℤ) : Type 0 where
  pub room : 24 ≤ length cells
  pub is_sort : unit_sort (get_or cells 0 (pos 0)) ≡ some (joining j)
  pub zeros : all is_zero (cells_in cells 1 24) ≡ true

-- the units at the front show the residue
unfoldable pub ReadsAs : Agreement → Residue → List ℤ → Type 0
ReadsAs ag (unit s p a e) cells = WaitsFirst ag (unit s p a e) cells
ReadsAs ag (both j l r) cells = JoinsFirst j cells × ReadsAs ag l (drop 24 cells)
    × ReadsAs ag r (drop (24 + 24 * units l) cells)

-- ---- what is asked for
-- the first unit waits so, and its cells are there
pub record UnitFirst (wait : WaitKind) (cells : List ℤ) : Type 0 where
  pub long : 24 ≤ length cells
  pub first : get_or cells 0 (pos 0) ≡ pos (wait_number wait)

-- the cells of n units are there
pub record TreeRoom (n : ℕ) (cells : List ℤ) : Type 0 where
  pub few : n ≤ 128
  pub long : 24 * n ≤ length cells

-- ---- what is answered
-- k of n units at the front show a residue with these parties, and so do their sights
pub record TreeAs (a : List ℕ) (now n : ℕ) (cells : List ℤ) (sights : List Sight) (k bits : ℕ) : Type 0 where
  pub residue : Residue
  pub reads : ReadsAs (agreement_of a) residue cells
  pub count : k ≡ units residue
  pub few : k ≤ n
  pub parties : PartiesOf a now residue bits
  pub sighted : take k sights ≡ sights_in residue

-- none: no residue of at most n units that is as it should be stands at the front
unfoldable pub WalkIs : List ℕ → ℕ → ℕ → List ℤ → List Sight → Maybe Tree → Type 0
WalkIs a now n cells sights None = (r : Residue) → ReadsAs (agreement_of a) r cells → units r ≤ n
    → residue_parties (agreement_of a) (mains_of a) now r ≡ none
WalkIs a now n cells sights (Some t) = TreeAs a now n cells sights t.units t.parties

-- the first unit waits so, or is a join; where it is none, no residue stands at the front
unfoldable pub FirstIs : List ℤ → Maybe First → Type 0
FirstIs cells (Some (Waits w)) = get_or cells 0 (pos 0) ≡ pos (wait_number w)
FirstIs cells (Some (Joins j)) = JoinsFirst (join_in j) cells
FirstIs cells None = (ag : Agreement) (r : Residue) → ReadsAs ag r cells → ⊥

-- what stands at the front where the first of n units waits
abbrev pub UnitIs : List ℕ → ℕ → List ℤ → Sight → Maybe Tree → Type 0
UnitIs a now cells sight r = (n : ℕ) (sights : List Sight) → 0 < n → WalkIs a now n cells (sight ∷ sights) r

-- a join's two sides were read
pub record SidesAs (a : List ℕ) (now n : ℕ) (j : Join) (cells : List ℤ) (sights : List Sight) (left right : Tree)
    : Type 0 where
  pub joins : JoinsFirst j cells
  pub some_units : 0 < n
  pub of_left : TreeAs a now (n - 1) (drop 24 cells) sights left.units left.parties
  pub of_right : TreeAs a now (n - 1 - left.units) (drop (24 + 24 * left.units) cells) (drop left.units sights)
      right.units right.parties

-- what stands at the front where they were
abbrev pub JoinedIs : kinds.Join → Tree → Tree → Sight → Maybe Tree → Type 0
JoinedIs join left right sight r = (a : List ℕ) (now n : ℕ) (cells : List ℤ) (sights : List Sight)
    → SidesAs a now n (join_in join) cells sights left right → WalkIs a now n cells (sight ∷ sights) r
