-- The table of a run, from its outcome on cells.
use mathlib.Core.List.{List, ◌++◌}
use mathlib.Core.Path.{ap, refl, ◌∙◌, ◌≡◌}
use Prim.Native.Nat.{◌*◌, ◌/◌, ℕ}
use native.Mathlib.Omega.{arith}
use lib.Dec.{ltb}
use lib.IntN.{pos}
use lib.ListN.{length}
use Rattle.csl.specs.Syntax.{Agreement}
use Rattle.csl.specs.Outcomes.{Outcome, Residue, breach, done, running, stuck, units}
use Rattle.csl.specs.Run.{too_many}
use Rattle.csl.specs.Table.{head_cells, nat_cells, padded, residue_cells, table_of}
use Rattle.csl.specs.Demand3.{needed}
use Rattle.soundness.proofs.Good.{Good, Ok}
use Rattle.soundness.proofs.Runs.{cells_len, run_at, too_many_is}
use Rattle.cells.specs.Reduce.{Reduced}
use Rattle.cells.specs.Reduce as cells
use Rattle.cells.specs.Tables.{head_of, reduced_table}
use Rattle.bridge.proofs.Shows.{Shows}

-- the units that an outcome needs
unfoldable pub units_in : Reduced → ℕ
units_in cells.done = 0
units_in (cells.breach t b) = 0
units_in (cells.running us) = length us / 24

module _ (ag : Agreement) (W : ℕ → Type 0) where
  units_are : (res : Residue) (ps : List ℕ) → Ok ag W res ps → units res ≡ length (residue_cells res) / 24
  units_are res ps ok = whole (units res) (length (residue_cells res)) (cells_len ag W res ps ok)
    where
      whole : (n l : ℕ) → l ≡ 24 * n → n ≡ l / 24
      whole n l e = omega arith

  module _ (P : List ℕ) where
    -- a good outcome's table is the table of what shows it
    pub table_shows : (now m : ℕ) (o : Outcome) (x : Reduced) → Good ag W P o → Shows o x
        → table_of (run_at now m o) ≡ reduced_table now (pos m) x
    unfolding Good Shows table_of reduced_table head_of head_cells nat_cells
    table_shows now m done x g h = rw h refl
    table_shows now m (breach t ps) x g h = rw h refl
    table_shows now m (running res) x g h = rw h
        (ap (λ n. padded 3080 (head_cells 1 now 0 0 n m ++ residue_cells res)) (units_are res g.0 g.1))
    table_shows now m stuck x g h = absurd g

    pub needed_shows : (o : Outcome) (x : Reduced) → Good ag W P o → Shows o x → needed o ≡ units_in x
    unfolding Good Shows needed units_in
    needed_shows done x g h = rw h refl
    needed_shows (breach t ps) x g h = rw h refl
    needed_shows (running res) x g h = rw h (units_are res g.0 g.1)
    needed_shows stuck x g h = absurd g

    pub too_many_shows : (o : Outcome) (x : Reduced) → Good ag W P o → Shows o x → too_many o ≡ ltb 128 (units_in x)
    too_many_shows o x g h = too_many_is o ∙ ap (ltb 128) (needed_shows o x g h)
