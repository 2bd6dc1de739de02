-- `verdict_on` is right: what the first cell says of the state is what the definition asks of it.
use Rattle.monitor.specs.Answers.{ahead_told}
use Rattle.telling.specs.Verdicts.{shown_ahead}
use Rattle.telling.proofs.Says.{first_cell, told, verdict_done, verdict_live, verdict_breach}
use Rattle.telling.proofs.Shows.{ahead_shown}
use Rattle.telling.proofs.verdict_on.Goals as goal

pub returns-in-Running-clause-shows : goal.returns-in-Running-clause-shows
returns-in-Running-clause-shows c =
    let cell = c.unwrap_or-cell in
    let ahead = c.args.ahead in
    verdict_live (ahead_told ahead) c.args.table.now
    (first_cell c.args.table.now c.first.ensures.value c.copied.ensures cell.ensures cell.type_inv)
    (shown_ahead ahead) (ahead_shown ahead)
    (told _ c.try_from.result c.try_from.ensures c.unwrap_or.ensures c.in-Running.is)

pub returns-in-Fulfilled-clause-shows : goal.returns-in-Fulfilled-clause-shows
returns-in-Fulfilled-clause-shows c =
    let cell = c.unwrap_or-cell in
    verdict_done (ahead_told c.args.ahead) c.args.table.now
    (first_cell c.args.table.now c.first.ensures.value c.copied.ensures cell.ensures cell.type_inv)
    (told _ c.try_from.result c.try_from.ensures c.unwrap_or.ensures c.in-Fulfilled.is)

pub returns-in-Breached-clause-shows : goal.returns-in-Breached-clause-shows
returns-in-Breached-clause-shows c =
    let cell = c.unwrap_or-cell in
    let ahead = c.args.ahead in
    verdict_breach (ahead_told ahead) c.args.table.now
    (first_cell c.args.table.now c.first.ensures.value c.copied.ensures cell.ensures cell.type_inv)
    (shown_ahead ahead) (ahead_shown ahead)
    (told _ c.try_from.result c.try_from.ensures c.unwrap_or.ensures c.in-Breached.is)
