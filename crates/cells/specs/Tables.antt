-- The table of a run, from its outcome on cells, its last reading time, and the cell that says when it last moved.
use Rattle.std.specs.Prelude.{Bool, cond, not, true, List, [], ◌∷◌, ◌++◌, ℕ, ◌*◌, ◌/◌, ℤ, pos, drop, get_or, length}
use Rattle.std.specs.Prelude.{take}
use Rattle.csl.specs.Run.{same_numbers}
use Rattle.csl.specs.Table.{nat_cells, padded, table_length}
use Rattle.cells.specs.Reduce.{Reduced, breach, done, running}

-- the head: state, last reading time, breach time, parties by bit, units in use, when it last moved
unfoldable pub head_of : ℕ → ℕ → ℕ → ℕ → ℕ → ℤ → List ℤ
head_of state now time parties used moved =
    nat_cells (state ∷ now ∷ time ∷ parties ∷ used ∷ []) ++ (moved ∷ pos 0 ∷ pos 0 ∷ [])

unfoldable pub reduced_table : ℕ → ℤ → Reduced → List ℤ
reduced_table now moved done = padded table_length (head_of 2 now 0 0 0 moved)
reduced_table now moved (breach t b) = padded table_length (head_of 3 now t b 0 moved)
reduced_table now moved (running cs) = padded table_length (head_of 1 now 0 0 (length cs / 24) moved ++ cs)

-- whether a step from a table with n units in use alters a unit or the state: not where the run goes on with the same
-- units
unfoldable pub alters : ℕ → List ℤ → Reduced → Bool
alters n us done = true
alters n us (breach t b) = true
alters n us (running cs) = not (same_numbers cs (take (24 * n) (drop 8 us)))

-- when a run last moved, after such a step at `now`
unfoldable pub moved_cell : ℕ → ℕ → List ℤ → Reduced → ℤ
moved_cell now n us x = cond (alters n us x) (pos now) (get_or us 5 (pos 0))

-- the table that a step at `now` leaves
unfoldable pub stepped_table : ℕ → ℕ → List ℤ → Reduced → List ℤ
stepped_table now n us x = reduced_table now (moved_cell now n us x) x
