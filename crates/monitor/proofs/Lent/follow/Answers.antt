-- A running run's units advance, and the mark is judged by the table that is left; of a fulfilled run the time moves; a
-- breached one is left.
use Rattle.std.proofs.Common.{rules, tests}
use Rattle.std.proofs.lemmas.Result.{err_from_is_err_and}
use Rattle.monitor.proofs.Opens.{opened_as}
use Rattle.monitor.proofs.Follows.{follow_due, follow_no, follow_yes, judge_due, read_done, read_breached}
use Rattle.monitor.proofs.Lent.follow.Goals as goal

pub advance-requires : goal.advance-requires
advance-requires c =
    follow_due (opened_as c.requires.opened c.in-Running.is) c.args.reading c.agreement.ensures.0
    c.requires.some_reading

pub returns-in_err-wrote-in-Running : goal.returns-in_err-wrote-in-Running
returns-in_err-wrote-in-Running c =
    let p = err_from_is_err_and c.from_residual.result c.from_residual.ensures.1 in
    let many = c.in_err-wrote-in-Running.ensures in
    rw (p.1, p.2)
    (follow_no (opened_as c.requires.opened c.in-Running.is) c.args.reading
    (rw c.agreement.ensures.0 at many.leads) many.untouched)

pub came_early-early-requires : goal.came_early-early-requires
came_early-early-requires c =
    judge_due (opened_as c.requires.opened c.in-Running.is) c.args.reading
    (rw c.agreement.ensures.0 at c.in_ok-wrote-in-Running.ensures.leads) c.requires.some_reading (search (rules, tests))

pub returns-then-not-wrote : goal.returns-then-not-wrote
returns-then-not-wrote c =
    follow_yes (opened_as c.requires.opened c.in-Running.is) c.args.reading
    (rw c.agreement.ensures.0 at c.in_ok-wrote-in-Running.ensures.leads) (search (rules, tests))

pub returns-else-not-wrote : goal.returns-else-not-wrote
returns-else-not-wrote c =
    follow_yes (opened_as c.requires.opened c.in-Running.is) c.args.reading
    (rw c.agreement.ensures.0 at c.in_ok-wrote-in-Running.ensures.leads) (search (rules, tests))

pub returns-in-Fulfilled : goal.returns-in-Fulfilled
returns-in-Fulfilled c = read_done (opened_as c.requires.opened c.in-Fulfilled.is) c.copy_before.ensures

pub returns-in-Breached : goal.returns-in-Breached
returns-in-Breached c = read_breached (opened_as c.requires.opened c.in-Breached.is) c.copy_before-in-Breached.ensures
