-- The kind decides whether the clause waits, and where its wait begins.
use mathlib.Core.Path.{refl}
use native.Mathlib.Omega.{arith}
use Rattle.csl.specs.Decode.{clause_body}
use Rattle.cells.specs.Across.{clause_opens_later}
use Rattle.records.proofs.Trees.{clause_none, clause_at_lem, kind_obligation, kind_choice}
use Rattle.walk.proofs.Opening.{opening, other_kind}
use Rattle.readings.specs.Values.{values_read}
use Rattle.walk.proofs.later.clause_opens_later.Goals as goal
use Rattle.walk.proofs.later.clause_opens_later.Goals.{in-17, in-18}

pub returns-then-not-is_record : goal.returns-then-not-is_record
unfolding clause_opens_later
returns-then-not-is_record c =
    let r = c.args.reading.now in
    λ hs p. clause_none (opening r.time r.tag (values_read r) c.args.values.cells.now c.args.a) hs 23 p c.args.s.now
    (λ e. omega arith) c.is_record.ensures c.if-not-is_record.true refl

pub returns-in_default : goal.returns-in_default
returns-in_default c =
    let r = c.args.reading.now in
    λ hs p. clause_at_lem (opening r.time r.tag (values_read r) c.args.values.cells.now c.args.a) hs 23 p c.args.s.now
    (λ e. omega arith) c.is_record.ensures c.if-not-is_record.false c.kind.ensures
    (other_kind r.time r.tag (values_read r) c.args.values.cells.now c.args.a hs p c.args.s.now _
    (omega arith) (omega arith))

pub returns : goal.returns
unfolding clause_opens_later clause_body
returns c =
    let r = c.args.reading.now in
    λ hs p. clause_at_lem (opening r.time r.tag (values_read r) c.args.values.cells.now c.args.a) hs 23 p c.args.s.now
    (λ e. omega arith) c.is_record.ensures c.if-not-is_record.false c.kind.ensures (elim c.match-kind.branch [
      | in-17 w ↦ rw (kind_obligation w.in-17.is) (rw w.at-is at (c.opens_later.ensures p))
      | in-18 w ↦ rw (kind_choice w.in-18.is) (rw w.at-is at (c.opens_later.ensures p))
    ])
