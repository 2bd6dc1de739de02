-- What the state cell says of the run decides: the units come to what is ahead of them, or the head tells the breach.
use mathlib.Core.Path.{sym, ap, ap₂, ◌∙◌}
use borrow.Author.Rules.{rules}
use lib.IntN.{nat_abs, pos}
use lib.ListN.{get_or}
use Rattle.arith.proofs.Ints.{read! }
use Rattle.csl.specs.Entries.{breach_at}
use Rattle.kinds.specs.Kinds.{state_cell}
use Rattle.monitor.proofs.Foretells.{BrokeAs, RunsOn, breach_ahead, broke_there, cast_fits, ended_there, none_ahead}
use Rattle.monitor.proofs.Foretells.{runs_there, state_there, units_there}
use Rattle.monitor.proofs.foretell.Goals as goal
use Rattle.monitor.proofs.foretell.Goals.{In-Ok-Breached, In-Ok-Running}

-- ---- a running run
runs : (c : In-Ok-Running) → RunsOn c.args.agreement.now c.args.table.now
runs c =
    let us = c.args.table.now in
    runs_there c.args.agreement.now c.requires.0 us c.told-table c.requires.1
    (ap state_cell (sym c.in-Ok-Running.field-0-is) ∙ c.in-Ok-Running.ensures
    ∙ read! {z = get_or us 0 (pos 0)} (search rules))

pub ahead-requires-clause-tree : goal.ahead-requires-clause-tree
ahead-requires-clause-tree c =
    units_there c.args.agreement.now c.args.table.now c.told-table
    (runs (goal.at.ahead-requires-clause-tree c).In-Ok-Running) c.agreement.ensures.0

pub returns-in_err-breach-in-Ok-Running : goal.returns-in_err-breach-in-Ok-Running
returns-in_err-breach-in-Ok-Running c =
    let r = runs (goal.at.returns-in_err-breach-in-Ok-Running c).In-Ok-Running in
    rw c.from_residual.ensures
    (none_ahead c.args.agreement.now c.args.table.now c.told-table r c.agreement.ensures.0 c.ahead.result
    c.ahead.ensures c.in_err-breach-in-Ok-Running.was)

pub returns-in_ok-breach-in-Ok-Running : goal.returns-in_ok-breach-in-Ok-Running
returns-in_ok-breach-in-Ok-Running c =
    let r = runs (goal.at.returns-in_ok-breach-in-Ok-Running c).In-Ok-Running in
    rw c.into.ensures
    (breach_ahead c.args.agreement.now c.args.table.now c.told-table r c.agreement.ensures.0 c.ahead.result
    c.ahead.ensures c.in_ok-breach-in-Ok-Running.breach c.in_ok-breach-in-Ok-Running.was)

-- ---- a breached one
broke : (c : In-Ok-Breached) → BrokeAs c.args.agreement.now c.args.table.now
broke c =
    let us = c.args.table.now in
    broke_there c.args.agreement.now c.requires.0 us c.told-table c.requires.1
    (ap state_cell (sym c.in-Ok-Breached.field-0-is) ∙ c.in-Ok-Breached.ensures
    ∙ read! {z = get_or us 0 (pos 0)} (search rules))

pub overflow_cast-result : goal.overflow_cast-result
overflow_cast-result c =
    cast_fits {z = get_or c.args.table.now 2 (pos 0)} (search rules)
    (broke (goal.at.overflow_cast-result c).In-Ok-Breached).is_time

pub overflow_cast-result-in-Ok-Breached : goal.overflow_cast-result-in-Ok-Breached
overflow_cast-result-in-Ok-Breached c =
    cast_fits {z = get_or c.args.table.now 3 (pos 0)} (search rules)
    (broke (goal.at.overflow_cast-result-in-Ok-Breached c).In-Ok-Breached).is_bits

pub returns-in-Ok-Breached : goal.returns-in-Ok-Breached
returns-in-Ok-Breached c =
    let us = c.args.table.now in
    let b = broke (goal.at.returns-in-Ok-Breached c).In-Ok-Breached in
    ap₂ (λ x y. breach_at (nat_abs x) (nat_abs y)) (read! {z = get_or us 2 (pos 0)} (search rules) ∙ b.is_time)
    (read! {z = get_or us 3 (pos 0)} (search rules) ∙ b.is_bits) ∙ sym b.tells

-- ---- a fulfilled one, and no other
pub returns-in-Ok-Fulfilled : goal.returns-in-Ok-Fulfilled
returns-in-Ok-Fulfilled c =
    let us = c.args.table.now in
    ended_there c.args.agreement.now c.requires.0 us c.told-table c.requires.1
    (ap state_cell (sym c.in-Ok-Fulfilled.field-0-is) ∙ c.in-Ok-Fulfilled.ensures
    ∙ read! {z = get_or us 0 (pos 0)} (search rules))

pub returns-in-Err : goal.returns-in-Err
returns-in-Err c =
    let us = c.args.table.now in
    absurd (state_there c.args.agreement.now c.requires.0 us c.told-table c.requires.1
    (λ state e. c.in-Err.ensures state (e ∙ sym (read! {z = get_or us 0 (pos 0)} (search rules)))))
