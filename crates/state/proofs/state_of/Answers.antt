-- The head decides: its times, and its state, which tells the function that reads the rest.
use borrow.Author.Rules.{rules}
use mathlib.Core.Path.{refl, ap, ◌∙◌}
use Rattle.std.proofs.Common.{Some}
use Rattle.state.proofs.Shows.{head_timeless, head_stateless, head_at}
use Rattle.state.specs.Shown.{TimeIs}
use Rattle.state.proofs.state_of.Goals as goal
use Rattle.state.proofs.state_of.Goals.{After-last_time}

times : (c : After-last_time) → TimeIs c.args.accepted.now c.args.table.now c.last_time.result
times c = rw c.agreement.ensures.0 at c.last_time.ensures

pub returns-in_err-time : goal.returns-in_err-time
returns-in_err-time c = rw c.from_residual.ensures
    (head_timeless c.args.table.now c.told-table c.args.accepted.now c.args.sights.now _
    (times (goal.at.returns-in_err-time c).After-last_time) c.in_err-time.was)

pub returns-in_err-ok : goal.returns-in_err-ok
returns-in_err-ok c = rw c.from_residual-in_err-ok.ensures
    (head_stateless c.args.table.now c.told-table c.args.accepted.now (search rules) _ c.ok.ensures.value
    c.try_from.ensures c.args.sights.now c.in_err-ok.was)

pub running-requires-clause-head_at : goal.running-requires-clause-head_at
running-requires-clause-head_at c =
    head_at c.args.table.now c.told-table c.args.accepted.now (search rules) _ c.ok.ensures.value c.try_from.ensures
    _ (times (goal.at.running-requires-clause-head_at c).After-last_time) c.in_ok-time.was
    (c.in_ok-ok.was ∙ ap Some c.in-Running.is) refl

pub breached-requires : goal.breached-requires
breached-requires c =
    head_at c.args.table.now c.told-table c.args.accepted.now (search rules) _ c.ok.ensures.value c.try_from.ensures
    _ (times (goal.at.breached-requires c).After-last_time) c.in_ok-time.was
    (c.in_ok-ok.was ∙ ap Some c.in-Breached.is) refl

pub returns-in-Fulfilled : goal.returns-in-Fulfilled
returns-in-Fulfilled c =
    c.fulfilled.ensures c.args.accepted.now c.in_ok-time.time c.args.sights.now
    (head_at c.args.table.now c.told-table c.args.accepted.now (search rules) _ c.ok.ensures.value c.try_from.ensures
    _ (times (goal.at.returns-in-Fulfilled c).After-last_time) c.in_ok-time.was
    (c.in_ok-ok.was ∙ ap Some c.in-Fulfilled.is) refl)
