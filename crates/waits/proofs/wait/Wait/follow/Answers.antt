-- The window test decides: late, or waiting on where it is early; on time the reading is taken where it is wanted and
-- `where` is true.
use borrow.Author.Rules.{rules}
use Rattle.waits.proofs.Waits.{follow_late, follow_early, follow_other, follow_taken, follow_false}
use Rattle.csl.specs.Decode.{wait_at}
use Rattle.waits.specs.Fates.{condition_of, wait_in}
use mathlib.Core.Path.{refl}
use Rattle.readings.specs.Values.{values_read}
use Rattle.waits.proofs.wait.Wait.follow.Goals as goal
use Rattle.waits.proofs.wait.Wait.follow.Goals.{then-byte-reading+else-holds, else-byte-reading}

pub returns-in-Late : goal.returns-in-Late
returns-in-Late c = λ p.
    let h = c.args.self.now in
    let r = c.args.reading.now in
    follow_late h.values.cells.now (values_read r) h.a r.time r.tag
    (wait_in h p) (c.window-w.ensures p) c.timing.result
    c.timing.ensures (search rules) c.in-Late.is

pub returns-in-Early : goal.returns-in-Early
returns-in-Early c = λ p.
    let h = c.args.self.now in
    let r = c.args.reading.now in
    follow_early h.values.cells.now (values_read r) h.a r.time r.tag
    (wait_in h p) (c.window-w.ensures p) c.timing.result
    c.timing.ensures c.in-Early.is

pub returns-in-OnTime : goal.returns-in-OnTime
unfolding wait_at condition_of
returns-in-OnTime c = λ p.
    let h = c.args.self.now in
    let r = c.args.reading.now in
    follow_taken h.values.cells.now (values_read r) h.a r.time r.tag
    (wait_in h p) (c.window-w.ensures p) c.timing.result
    c.timing.ensures (search rules) c.in-OnTime.is c.byte.ensures.0 c.if-byte-reading.true c.holds.ensures
    c.args.reading refl c.if-holds.true

pub returns-in-OnTime-2 : goal.returns-in-OnTime-2
unfolding wait_at condition_of
returns-in-OnTime-2 c = λ p.
    let h = c.args.self.now in
    let r = c.args.reading.now in
    let wait = wait_in h p in
    elim c.if-byte-reading.branch [
      | then-byte-reading+else-holds w ↦ follow_false h.values.cells.now (values_read r) h.a r.time r.tag wait
          (c.window-w.ensures p) c.timing.result c.timing.ensures (search rules) c.in-OnTime-2.is
          c.byte.ensures.0 w.if-byte-reading.true w.holds.ensures w.if-holds.false
      | else-byte-reading w ↦ follow_other h.values.cells.now (values_read r) h.a r.time r.tag wait
          (c.window-w.ensures p) c.timing.result c.timing.ensures (search rules) c.in-OnTime-2.is
          c.byte.ensures.0 w.if-byte-reading.false
    ]
