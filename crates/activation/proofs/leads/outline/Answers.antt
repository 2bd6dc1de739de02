-- Two sides that do nothing do nothing together, and beside one of them an `and` is its other side; all else is as the
-- kind says.
use mathlib.Core.Bool.{not}
use mathlib.Core.Path.{ap, sym, ◌∙◌}
use native.Mathlib.Omega.{arith}
use Rattle.evaluation.proofs.Evaluates.{room}
use Rattle.activation.proofs.Walks.{shows_zero, shows_none, shows_idle, shows_acts}
use Rattle.activation.specs.Leads.{Told}
use Rattle.activation.proofs.leads.outline.Goals as goal
use Rattle.activation.proofs.leads.outline.Goals.{After-kind, then-depth-eq0-via-then-depth-eq0}
use Rattle.activation.proofs.leads.outline.Goals.{then-depth-eq0-via-else-depth-eq0+then-not-is_record}

-- ---- the record's kind, once it is read
told : (c : After-kind) → Told c.args.s.now c.args.depth c.kind.result
told c = record {
  deep = omega (arith, c.if-depth-eq0.false);
  is_whole = sym c.is_record.ensures ∙ c.if-not-is_record.false;
  kind = c.kind.ensures;
}

pub returns-then-depth-eq0 : goal.returns-then-depth-eq0
returns-then-depth-eq0 c = elim c.then-depth-eq0.branch [
  | then-depth-eq0-via-then-depth-eq0 w ↦ shows_zero c.args.s.now c.args.depth w.if-depth-eq0.true
  | then-depth-eq0-via-else-depth-eq0+then-not-is_record w ↦ shows_none c.args.s.now c.args.depth
      w.if-depth-eq0.false (sym w.is_record.ensures ∙ w.if-not-is_record.true)
]

pub sides-requires : goal.sides-requires
sides-requires c = room c.args.s.now c.is_record.ensures (ap not c.if-not-is_record.false)

pub sides-requires-in-21 : goal.sides-requires-in-21
sides-requires-in-21 c = room c.args.s.now c.is_record.ensures (ap not c.if-not-is_record.false)

pub returns-in-20 : goal.returns-in-20
returns-in-20 c =
    let t = told (goal.at.returns-in-20 c).After-kind in
    c.sides.ensures c.args.depth
    (record { deep = t.deep; is_whole = t.is_whole; kind = omega (arith, t.kind, c.in-20.is) })

pub returns-in-21 : goal.returns-in-21
returns-in-21 c =
    let t = told (goal.at.returns-in-21 c).After-kind in
    c.sides-in-21.ensures c.args.depth
    (record { deep = t.deep; is_whole = t.is_whole; kind = omega (arith, t.kind, c.in-21.is) })

pub returns-in_default : goal.returns-in_default
returns-in_default c = shows_idle (told (goal.at.returns-in_default c).After-kind) (λ l u. omega arith)

pub returns-in_default-2 : goal.returns-in_default-2
returns-in_default-2 c = shows_idle (told (goal.at.returns-in_default-2 c).After-kind) (λ l u. omega arith)

pub returns-in-17-to-22 : goal.returns-in-17-to-22
returns-in-17-to-22 c = shows_acts (told (goal.at.returns-in-17-to-22 c).After-kind) (omega arith) (omega arith)
    (λ l u. omega arith)

pub returns-in-17-to-22-2 : goal.returns-in-17-to-22-2
returns-in-17-to-22-2 c = shows_acts (told (goal.at.returns-in-17-to-22-2 c).After-kind) (omega arith) (omega arith)
    (λ l u. omega arith)
