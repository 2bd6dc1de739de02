-- Whether a step alters a table, and when a run last moved, are on cells what csl judges by the run's tables.
-- Main theorems: `alters_shows` and `moved_shows` for a reading, `moved_first_lem` for the start.
use mathlib.Core.Bool.{Bool, cond, false, not, true, true≢false}
use mathlib.Core.List.{List, [], ◌++◌}
use mathlib.Core.Option.{some}
use mathlib.Core.Path.{ap, refl, sym, ◌∙◌, ◌≡◌}
use Prim.Native.Nat.{◌*◌, ◌-◌, ◌/◌, ◌<◌, ℕ, ◌≤◌}
use native.Mathlib.Omega.{arith}
use lib.IntN.{pos, ℤ}
use lib.ListN.{drop, get_or, length, replicate, take}
use lib.Seq.{take_at}
use Rattle.csl.specs.Syntax.{Agreement}
use Rattle.csl.specs.Outcomes.{Outcome, Residue, both, breach, done, running, stuck, unit, units}
use borrow.Author.Tests.{not-false}
use Rattle.csl.specs.Run.{altered, moved_by, same_numbers}
use Rattle.csl.specs.Table.{head_cells, nat_cells, padded, residue_cells, run_of, table_of}
use Rattle.csl.specs.Demand3.{needed}
use Rattle.laws.proofs.Sameness.{same_are, same_not}
use Rattle.soundness.proofs.Good.{Good}
use Rattle.soundness.proofs.Walks.{Fair}
use Rattle.soundness.proofs.Runs.{Inv, Since, cells_len, moved_to, run_at}
use Rattle.soundness.proofs.Moved.{altered_breach, altered_done, altered_running, residue_units, units_behind}
use Rattle.soundness.proofs.Moved.{with_zeros}
use Rattle.soundness.proofs.ReadBack.{run_of_good, table_back}
use Rattle.cells.specs.Reduce as cells
use Rattle.cells.specs.Reduce.{Reduced}
use Rattle.cells.specs.Tables.{alters, head_of, moved_cell, reduced_table}
use Rattle.bridge.proofs.Shows.{Shows}

some_unit : (res : Residue) → 0 < units res
unfolding units
some_unit (unit s p a e) = omega arith
some_unit (both j l r) = omega arith

-- behind the head of a running run's table stand the units, and zeros behind them
behind_head : (time : ℕ) (moved : ℤ) (cs : List ℤ) → drop 8 (reduced_table time moved (cells.running cs)) ≡ with_zeros
    cs
unfolding reduced_table head_of nat_cells padded
behind_head time moved cs =
    let e : 3080 - length (head_of 1 time 0 0 (length cs / 24) moved ++ cs) ≡ 3072 - length cs = omega arith in
    ap (λ n. cs ++ replicate n (pos 0)) e

-- ---- the start: no unit was in use, so it alters
pub moved_first_lem : (ag : Agreement) (W : ℕ → Type 0) (P : List ℕ) (now : ℕ) (us : List ℤ) (o : Outcome) (x : Reduced)
    → Good ag W P o → Shows o x → pos now ≡ moved_cell now 0 us x
unfolding Good Shows moved_cell alters
moved_first_lem ag W P now us done x g h = rw h refl
moved_first_lem ag W P now us (breach t ps) x g h = rw h refl
moved_first_lem ag W P now us (running res) x g h = rw h (ap (λ b. cond (not b) (pos now) (get_or us 5 (pos 0)))
    (sym (same_not (residue_cells res) [] (λ e. let z : length (residue_cells res) ≡ 0 = ap length e in
    omega (arith, cells_len ag W res g.0 g.1, some_unit res)))))
moved_first_lem ag W P now us stuck x g h = absurd g

-- ---- a reading, on a running run's table
module _ (ag : Agreement) (mains : List ℕ) (fair : Fair ag mains) (now m : ℕ) (res : Residue) (us : List ℤ)
    (l : length us ≡ 3080) (is : run_of ag mains us ≡ some (run_at now m (running res))) where
  inv : Inv ag mains now m (running res)
  inv = run_of_good ag mains us (run_at now m (running res)) fair is

  back : table_of (run_at now m (running res)) ≡ us
  back = table_back ag mains us (run_at now m (running res)) is l

  -- the cells of its units, and the cell that says when it last moved
  units_there : take (24 * units res) (drop 8 us) ≡ residue_cells res
  unfolding Good
  units_there = ap (λ cells. take (24 * units res) (drop 8 cells)) (sym back)
      ∙ ap (take (24 * units res)) (units_behind now m res)
      ∙ take_at (residue_cells res) _ (24 * units res)
      (cells_len ag (Since ag now) res inv.good.0 inv.good.1)

  cell_there : get_or us 5 (pos 0) ≡ pos m
  cell_there = ap (λ cells. get_or cells 5 (pos 0)) (sym back)
      ∙ (unfold table_of padded head_cells nat_cells in refl)

  -- a reading alters its table, whatever the cell for when it then last moved, where it alters it on cells
  pub alters_shows : (W : ℕ → Type 0) (P : List ℕ) (time k : ℕ) (o : Outcome) (x : Reduced) → Good ag W P o → Shows o x
      → needed o ≤ 128
      → altered (table_of (run_at now m (running res))) (table_of (run_at time k o)) ≡ alters (units res) us x
  unfolding Good Shows alters needed
  alters_shows W P time k done x g h few = rw h (altered_done now m res time k)
  alters_shows W P time k (breach t ps) x g h few = rw h (altered_breach now m res time k t ps)
  alters_shows W P time k (running next) x g h few = rw (h, units_there) (altered_running res next now m time k
      (residue_units ag (Since ag now) res inv.good.0 inv.good.1)
      (residue_units ag W next g.0 g.1) inv.small few)
  alters_shows W P time k stuck x g h few = absurd g

  pub moved_shows : (W : ℕ → Type 0) (P : List ℕ) (time : ℕ) (o : Outcome) (x : Reduced) → Good ag W P o → Shows o x
      → needed o ≤ 128 → pos (moved_to now m (running res) time o) ≡ moved_cell time (units res) us x
  unfolding moved_by moved_cell
  moved_shows W P time o x g h few = ap moved (alters_shows W P time m o x g h few) ∙ inside (alters (units res) us x)
    where
      moved : Bool → ℤ
      moved b = pos (elim b [ true ↦ time | false ↦ m ])

      inside : (b : Bool) → moved b ≡ cond b (pos time) (get_or us 5 (pos 0))
      inside true = refl
      inside false = sym cell_there

  -- where nothing is altered, the cells behind the head are as they were
  pub idle_units : (time : ℕ) (moved : ℤ) (x : Reduced) → alters (units res) us x ≡ false
      → drop 8 (reduced_table time moved x) ≡ drop 8 us
  unfolding alters
  idle_units time moved cells.done e = absurd (true≢false e)
  idle_units time moved (cells.breach t b) e = absurd (true≢false e)
  idle_units time moved (cells.running cs) e =
      let same = same_are cs (take (24 * units res) (drop 8 us)) (not-false (same_numbers cs _) e) in
      behind_head time moved cs ∙ ap with_zeros (same ∙ units_there)
      ∙ sym (units_behind now m res) ∙ ap (drop 8) back
