-- The minutes left go behind the values in sight and the reading's, and at most 16 are seen.
use Rattle.waits.proofs.Waits.{minus_fits, minus_is}
use native.Mathlib.Omega.{arith}
use lib.ListN.{length-take}
use Rattle.cells.specs.Reduce.{then_values}
use Rattle.waits.proofs.then_values.Goals as goal

pub overflow_sub-left : goal.overflow_sub-left
overflow_sub-left c =
    let r = c.args.reading.now in minus_fits r.time (omega (arith, r.soon)) c.requires

pub returns : goal.returns
unfolding then_values
returns c =
    let r = c.args.reading.now in
    let left = minus_is r.time (omega (arith, r.soon)) c.requires c.ranges.last in (
      rw (c.truncate.ensures.items, c.push.ensures.items, c.sight-all.ensures.0, left),
      rw c.truncate.ensures.items (omega (arith, length-take 16 c.push.new.self.items)),
    )
