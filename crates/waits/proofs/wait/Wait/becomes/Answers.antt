-- An activated wait waits, a forecast one is late, and one that a reading reaches has the fate that `follow` finds.
use Rattle.waits.proofs.Waits.{becomes_waiting, becomes_late}
use borrow.Author.Rules.{rules}
use Rattle.waits.specs.Fates.{wait_in}
use Rattle.waits.proofs.wait.Wait.becomes.Goals as goal

pub returns-in-Activate : goal.returns-in-Activate
returns-in-Activate c = λ p. let h = c.args.self.now in
    rw c.in-Activate.is (becomes_waiting h.values.cells.now h.a (wait_in h p))

pub returns-in-Forecast : goal.returns-in-Forecast
returns-in-Forecast c = λ p. let h = c.args.self.now in
    rw c.in-Forecast.is
    (becomes_late h.values.cells.now h.a (wait_in h p) (c.last.ensures.is p) c.last.ensures.near (search rules))

pub returns-in-Follow : goal.returns-in-Follow
returns-in-Follow c = λ p. rw c.in-Follow.is (c.follow.ensures p)
