-- An expression's value is that of its parts, each one record deeper; a byte that is no expression has the value 0 on
-- both sides.
use mathlib.Core.Path.{◌∙◌, refl, sym}
use native.Mathlib.Omega.{arith}
use Rattle.octets.proofs.Bytes.{whole_from}
use Rattle.evaluation.proofs.Evaluates.{number_zero, number_none, number_leaf, number_not, number_binary}
use Rattle.evaluation.proofs.Evaluates.{number_low, number_high, nought}
use Rattle.evaluation.proofs.+expression.Goals as goal
use Rattle.evaluation.proofs.+expression.Goals.{number-in_default-via-then-k-lt32}
use Rattle.evaluation.proofs.+expression.Goals.{number-in_default-via-else-k-lt32+else-k-lt36+else-k-lt44}
use Rattle.evaluation.proofs.+expression.Goals.{number-then-depth-eq0-via-then-depth-eq0}
use Rattle.evaluation.proofs.+expression.Goals.{number-then-depth-eq0-via-else-depth-eq0+then-not-is_record}

-- ---- number
pub number-returns-then-depth-eq0 : goal.number-returns-then-depth-eq0
number-returns-then-depth-eq0 t c = c.held.ensures ∙ nought ∙ elim c.then-depth-eq0.branch [
  | number-then-depth-eq0-via-then-depth-eq0 w ↦
      number_zero c.args.values.now c.args.depth c.args.s.now w.if-depth-eq0.true
  | number-then-depth-eq0-via-else-depth-eq0+then-not-is_record w ↦
      number_none c.args.values.now c.args.depth c.args.s.now w.if-depth-eq0.false w.is_record.ensures
      w.if-not-is_record.true
]

pub number-returns-in-32-to-35 : goal.number-returns-in-32-to-35
number-returns-in-32-to-35 t c =
    number_leaf c.args.values.now c.args.depth c.args.s.now c.if-depth-eq0.false c.is_record.ensures
    c.if-not-is_record.false c.kind-k.ensures (omega arith) (omega arith) c.leaf.ensures

pub number-returns-in_default : goal.number-returns-in_default
number-returns-in_default t c = c.held-in_default.ensures ∙ nought ∙ elim c.in_default.branch [
  | number-in_default-via-then-k-lt32 w ↦
      number_low c.args.values.now c.args.depth c.args.s.now c.if-depth-eq0.false c.is_record.ensures
      c.if-not-is_record.false c.kind-k.ensures (omega arith)
  | number-in_default-via-else-k-lt32+else-k-lt36+else-k-lt44 w ↦
      number_high c.args.values.now c.args.depth c.args.s.now c.if-depth-eq0.false c.is_record.ensures
      c.if-not-is_record.false c.kind-k.ensures (omega arith)
]

-- ---- compound: a whole record has its first four bytes
pub compound-slice_bounds-number-count : goal.compound-slice_bounds-number-count
compound-slice_bounds-number-count t c = (whole_from c.args.s.now c.requires.record.1).room

pub compound-slice_bounds-number-start : goal.compound-slice_bounds-number-start
compound-slice_bounds-number-start t c = omega (arith, (whole_from c.args.s.now c.requires.record.1).room)

pub compound-slice_bounds-number-count-2 : goal.compound-slice_bounds-number-count-2
compound-slice_bounds-number-count-2 t c = omega (arith, (whole_from c.args.s.now c.requires.record.1).room)

pub compound-slice_bounds-number-start-2 : goal.compound-slice_bounds-number-start-2
compound-slice_bounds-number-start-2 t c = omega (arith, (whole_from c.args.s.now c.requires.record.1).room)

pub compound-returns-then-kind-eq36 : goal.compound-returns-then-kind-eq36
compound-returns-then-kind-eq36 t c =
    number_not c.args.values.now c.args.depth c.args.s.now (λ e. omega arith) (sym c.requires.record.1) refl
    c.requires.kind.0 c.if-kind-eq36.true c.number-x.ensures c.holds.ensures c.from.ensures

pub compound-returns : goal.compound-returns
compound-returns t c =
    number_binary c.args.values.now c.args.depth c.args.s.now (λ e. omega arith) (sym c.requires.record.1) refl
    c.requires.kind.0 (omega arith) (omega arith) c.record_end-cut.ensures.0 c.number-x-2.ensures
    c.number-y.ensures c.operate.ensures
