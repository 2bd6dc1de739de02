-- The type is asked first, then the first minute, and `where` only of a wait that opens later.
use borrow.Author.Tests.{eqb-true}
use mathlib.Core.Path.{sym, ◌∙◌}
use Rattle.waits.proofs.Waits.{later_other, later_not, later_holds}
use native.Mathlib.Omega.{arith}
use Rattle.csl.specs.Decode.{wait_at}
use Rattle.waits.specs.Fates.{condition_of, wait_in}
use Rattle.readings.specs.Values.{values_read}
use Rattle.waits.proofs.wait.Wait.opens_later.Goals as goal
use Rattle.waits.proofs.wait.Wait.opens_later.Goals.{then-byte-reading, else-byte-reading}

pub returns-then-reading-first : goal.returns-then-reading-first
unfolding wait_at condition_of
returns-then-reading-first c = λ p.
    let h = c.args.self.now in
    let r = c.args.reading.now in
    elim c.if-byte-reading.branch [
      | then-byte-reading w ↦ later_holds h.values.cells.now (values_read r) h.a r.time r.tag
          (wait_in h p) c.byte.ensures.0 w.if-byte-reading.true
          (omega (arith, r.soon)) (w.first.ensures.is p) w.first.type_inv
          (sym w.value-is ∙ c.if-reading-first.true) c.holds.ensures
      | else-byte-reading w ↦ absurd (w.if-byte-reading.false
          (eqb-true _ _ (sym w.value-is ∙ c.if-reading-first.true)))
    ]

pub returns-else-reading-first : goal.returns-else-reading-first
unfolding wait_at
returns-else-reading-first c = λ p.
    let h = c.args.self.now in
    let r = c.args.reading.now in
    elim c.if-byte-reading.branch [
      | then-byte-reading w ↦ c.if-reading-first.false
          ∙ later_not h.values.cells.now (values_read r) h.a r.time r.tag
          (wait_in h p) c.byte.ensures.0 w.if-byte-reading.true
          (omega (arith, r.soon)) (w.first.ensures.is p) w.first.type_inv
          (sym w.value-is ∙ c.if-reading-first.false)
      | else-byte-reading w ↦ c.if-reading-first.false
          ∙ later_other h.values.cells.now (values_read r) h.a r.time r.tag
          (wait_in h p) c.byte.ensures.0 w.if-byte-reading.false
    ]
