-- The head's times are right just where the tests leave them: cell 1 a time, cell 5 from the start to it, zeros behind.
use borrow.Author.Rules.{rules}
use borrow.Author.Tests.{tests}
use mathlib.Core.Path.{◌≡◌, sym, ◌∙◌}
use lib.IntN.{pos}
use lib.ListN.{get_or}
use Rattle.std.proofs.Common.{Some}
use Rattle.units.specs.Cells.{number_below}
use Rattle.units.proofs.Tests.{cell_below}
use Rattle.state.proofs.Times.{timeless, unmoved, times_are}
use Rattle.state.proofs.last_time.Goals as goal
use Rattle.state.proofs.last_time.Goals.{In_ok-moved}

-- the two cells, as the program reads them
time_read : (c : In_ok-moved)
    → Some c.in_ok-time.time ≡ number_below 4_294_967_296 (get_or c.args.table.now 1 (pos 0))
time_read c =
    sym c.in_ok-time.was ∙ cell_below 4_294_967_296 _ (search rules) c.number_below.ensures

moved_read : (c : In_ok-moved)
    → Some c.in_ok-moved.moved ≡ number_below 4_294_967_296 (get_or c.args.table.now 5 (pos 0))
moved_read c =
    sym c.in_ok-moved.was ∙ cell_below 4_294_967_296 _ (search rules) c.number_below-2.ensures

pub returns-in_err-time : goal.returns-in_err-time
returns-in_err-time c = rw c.from_residual.ensures (timeless c.args.agreement.now c.args.table.now
    (sym c.in_err-time.was ∙ cell_below 4_294_967_296 _ (search rules) c.number_below.ensures))

pub returns-in_err-moved : goal.returns-in_err-moved
returns-in_err-moved c = rw c.from_residual-in_err-moved.ensures (unmoved c.args.agreement.now c.args.table.now
    (sym c.in_err-moved.was ∙ cell_below 4_294_967_296 _ (search rules) c.number_below-2.ensures))

pub returns : goal.returns
returns c =
    let at-moved = (goal.at.returns c).In_ok-moved in
    times_are c.args.agreement.now c.args.table.now (time_read at-moved) (moved_read at-moved)
    c.start.ensures.0 (grind (rules, tests)) c.then_some.ensures
