-- A cell below 20 is no natural number of 20 or more.
use Rattle.walk.proofs.Forecasts.{sort_waits, sort_and, sort_or}
use Rattle.walk.proofs.ahead.joins.Goals as goal

pub returns-then-sort-lt20 : goal.returns-then-sort-lt20
returns-then-sort-lt20 c = sort_waits c.ranges.sort c.if-sort-lt20.true

pub returns-then-sort-eq20 : goal.returns-then-sort-eq20
returns-then-sort-eq20 c = sort_and c.ranges.sort c.if-sort-lt20.false c.if-sort-eq20.true

pub returns-else-sort-eq20 : goal.returns-else-sort-eq20
returns-else-sort-eq20 c = sort_or c.ranges.sort c.if-sort-lt20.false c.if-sort-eq20.false
