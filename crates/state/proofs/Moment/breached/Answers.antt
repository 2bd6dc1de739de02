-- A breached table shows its verdict exactly where the time lies from the start to the last reading time, the blamed
-- are of the main clause, and all else is zero.
use borrow.Author.Rules.{rules}
use borrow.Author.Tests.{tests}
use mathlib.Core.Bool.{not, ◌&&◌}
use mathlib.Core.Path.{◌≡◌, refl, sym, ◌∙◌}
use lib.Bits.{bit_or}
use lib.Dec.{leb, eqb}
use lib.IntN.{pos}
use lib.ListN.{get_or, take, drop}
use Rattle.csl.specs.Lists.{all}
use Rattle.csl.specs.Table.{is_zero}
use Rattle.std.proofs.Common.{Some}
use Rattle.arith.proofs.Ints.{seen, read! }
use Rattle.units.specs.Cells.{number_below}
use Rattle.units.proofs.Tests.{cell_below}
use Rattle.units.proofs.Cells.{below_is}
use Rattle.state.proofs.BreachedTables.{breached_late, breached_wide, breached_is}
use Rattle.state.proofs.Moment.breached.Goals as goal
use Rattle.state.proofs.Moment.breached.Goals.{In_ok-when, In_ok-number_below, After-then_some}
use Rattle.state.proofs.Moment.breached.Goals.{then-contains, else-contains}
use Rattle.state.proofs.Moment.breached.Goals.{then-not-is_empty, else-not-is_empty, then-is_subset, else-is_subset}
use Rattle.state.proofs.Moment.breached.Goals.{then-zeros, else-zeros}

-- the time, as the program reads it
when_is : (c : In_ok-when) → Some c.in_ok-when.when ≡ number_below 4_294_967_296 (get_or c.args.table.now 2 (pos 0))
when_is c =
    sym c.in_ok-when.was ∙ cell_below 4_294_967_296 _ (search rules) c.number_below.ensures

time_is : (c : In_ok-when) → seen (get_or c.args.table.now 2 (pos 0)) ≡ pos c.in_ok-when.when
time_is c = read! (search rules) ∙ (below_is 4_294_967_296 _ _ (when_is c)).0

-- and the blamed
bits_are : (c : In_ok-number_below) → Some c.in_ok-number_below.field-0
    ≡ number_below 65_536 (get_or c.args.table.now 3 (pos 0))
bits_are c = sym c.in_ok-number_below.was ∙ cell_below 65_536 _ (search rules) c.number_below-2.ensures

-- each of the tests, with those before it
inside : (c : After-then_some) → c.contains.result
    ≡ (leb c.start.result c.in_ok-when.when && leb c.in_ok-when.when c.args.self.now.time)
inside c = grind (rules, tests)

named : (c : After-then_some) → c.if-contains.value ≡ (c.contains.result && not (eqb c.in_ok-number_below.field-0 0))
named c = elim c.if-contains.branch [
  | then-contains w ↦ search (rules, tests)
  | else-contains w ↦ search (rules, tests)
]

among : (c : After-then_some) → c.if-not-is_empty.value
    ≡ (c.if-contains.value && eqb (bit_or c.in_ok-number_below.field-0 c.mains-mains.result) c.mains-mains.result)
among c = elim c.if-not-is_empty.branch [
  | then-not-is_empty w ↦ search (rules, tests)
  | else-not-is_empty w ↦ search (rules, tests)
]

unused : (c : After-then_some) → c.if-is_subset.value
    ≡ (c.if-not-is_empty.value && all is_zero (take 1 (drop 4 c.args.table.now)))
unused c = elim c.if-is_subset.branch [
  | then-is_subset w ↦ search (rules, tests)
  | else-is_subset w ↦ search (rules, tests)
]

clear : (c : After-then_some) → c.if-zeros.is_sound
    ≡ (c.if-is_subset.value && all is_zero (take 3072 (drop 8 c.args.table.now)))
clear c = elim c.if-zeros.branch [
  | then-zeros w ↦ search (rules, tests)
  | else-zeros w ↦ search (rules, tests)
]

pub returns-in_err-when : goal.returns-in_err-when
returns-in_err-when c = rw c.from_residual.ensures λ sights. breached_late c.args.table.now c.told-table
    c.args.self.now.accepted.now c.requires sights
    (sym c.in_err-when.was ∙ cell_below 4_294_967_296 _ (search rules) c.number_below.ensures)

pub returns-in_err-number_below : goal.returns-in_err-number_below
returns-in_err-number_below c = rw c.from_residual-in_err-number_below.ensures λ sights.
    breached_wide c.args.table.now c.told-table c.args.self.now.accepted.now c.requires sights
    (sym c.in_err-number_below.was ∙ cell_below 65_536 _ (search rules) c.number_below-2.ensures)

pub returns : goal.returns
returns c =
    let at = goal.at.returns c in
    λ sights. breached_is c.args.table.now c.told-table c.args.self.now.accepted.now c.requires sights
    (when_is at.In_ok-when) (rw c.agreement.ensures.0 at c.start.ensures.0) (bits_are at.In_ok-number_below)
    c.mains-mains.ensures.0 _ (clear c ∙ rw (unused c, among c, named c, inside c) refl) (time_is at.In_ok-when)
    c.of_bits-parties.ensures c.then_some.ensures
