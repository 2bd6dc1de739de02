-- A breach is told as it is, and what is neither a breach nor waits on is fulfilled.
use Rattle.cells.specs.Ahead.{ahead}
use Rattle.walk.proofs.Forecasts.{told_breach, told_none}
use Rattle.walk.proofs.ahead.ahead.Goals as goal

pub returns-in-Breach : goal.returns-in-Breach
returns-in-Breach c = λ res u.
    rw c.in-Breach.breach-is (told_breach (ahead c.args.agreement.now res c.args.cells.now) c.in-Breach.breach
    c.in-Breach.is (c.tree_ahead.ensures res u).outcome)

pub returns-in_default : goal.returns-in_default
returns-in_default c = λ res u.
    told_none (ahead c.args.agreement.now res c.args.cells.now) c.tree_ahead.result.outcome c.in_default.not-Breach
    (c.tree_ahead.ensures res u).outcome
