-- The start is a step that activates the main clause, at the start time; what it writes shows a run, whose forecast is
-- told.
use mathlib.Core.List.{[]}
use native.Mathlib.Omega.{arith}
use Rattle.monitor.proofs.Begins.{begin_due, begun_refused, begun_shows, begun_told}
use Rattle.monitor.proofs.begin.Goals as goal

pub advance-requires : goal.advance-requires
advance-requires c = begin_due c.requires _ c.agreement-agreement.ensures.0 (omega arith) c.start.ensures.1

pub foretell-requires : goal.foretell-requires
foretell-requires c =
    let same = c.agreement-agreement.ensures.0 in
    let start = rw same at c.start.ensures.0 in
    (c.requires, begun_shows c.requires [] c.told-table start (rw same at c.in-Ok.ensures.leads) c.start.ensures.1)

pub returns-in-Ok : goal.returns-in-Ok
returns-in-Ok c =
    let same = c.agreement-agreement.ensures.0 in
    let start = rw same at c.start.ensures.0 in
    begun_told c.requires [] c.told-table start (rw same at c.in-Ok.ensures.leads) c.foretell.result c.foretell.ensures

pub returns-in-Err : goal.returns-in-Err
returns-in-Err c =
    let same = c.agreement-agreement.ensures.0 in
    let start = rw same at c.start.ensures.0 in
    begun_refused c.requires [] c.told-table start (rw same at c.in-Err.ensures.leads) c.in-Err.ensures.untouched
