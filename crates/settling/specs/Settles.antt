-- A run's table after a reading.
use Rattle.residues.specs.Reduces.{units_of, Is}
use Rattle.std.specs.Prelude.{◌≡◌, Bool, cond, not, List, [], ◌∷◌, ◌++◌, ℕ, ◌*◌, ◌≤◌, ℤ, pos, length, get_or, take}
use Rattle.std.specs.Prelude.{drop, Option, Some, None}
use Rattle.csl.specs.Run.{same_numbers}
use Rattle.csl.specs.Table.{padded}
use Rattle.cells.specs.Reduce as cells
use Rattle.cells.specs.Tables.{alters, stepped_table}
use Rattle.residues.specs.declared.Reduced.{Reduced}
use Rattle.parties.specs.declared.breach.Breach.{Breach}

-- a residue that a table can hold stands whole in `out`
pub record Whole (r : Reduced) (out : List ℤ) : Type 0 where
  pub few : units_of r ≤ 128
  pub room : 24 * units_of r ≤ length out

-- the head of a run that ends at `time`, fulfilled or with a breach
abbrev pub ended : ℤ → Option Breach → List ℤ
ended time None = pos 2 ∷ time ∷ pos 0 ∷ pos 0 ∷ pos 0 ∷ time ∷ pos 0 ∷ pos 0 ∷ []
ended time (Some b) = pos 3 ∷ time ∷ b.time ∷ pos b.parties ∷ pos 0 ∷ time ∷ pos 0 ∷ pos 0 ∷ []

-- the residue's cells are not those of the units that were in use
unfoldable pub other_units : ℕ → List ℤ → List ℤ → Bool
other_units used residue before = not (same_numbers residue (take (24 * used) (drop 8 before)))

-- the table of a run that goes on at `time` with n units, where `used` units of `before` were in use
unfoldable pub gone_on : ℤ → ℕ → ℕ → List ℤ → List ℤ → List ℤ
gone_on time used n residue before =
    let moved = cond (other_units used residue before) time (get_or before 5 (pos 0)) in
    padded 3080 ((pos 1 ∷ time ∷ pos 0 ∷ pos 0 ∷ pos n ∷ moved ∷ pos 0 ∷ pos 0 ∷ []) ++ residue)

-- `left` is the table of what r answers for, and `altered` whether it has another unit or state
pub record Settles (now used : ℕ) (r : Reduced) (out before left : List ℤ) (altered : Bool) : Type 0 where
  pub wrote : (x : cells.Reduced) → Is x r out → left ≡ stepped_table now used before x
  pub told : (x : cells.Reduced) → Is x r out → altered ≡ alters used before x
