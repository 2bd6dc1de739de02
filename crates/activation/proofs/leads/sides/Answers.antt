-- Two sides that do nothing do nothing together, and beside one of them an `and` is its other side.
use mathlib.Core.Path.{refl}
use native.Mathlib.Omega.{arith}
use Rattle.kinds.specs.Kinds.{join_number}
use Rattle.activation.specs.Leads.{Told}
use Rattle.activation.proofs.Walks.{Paired, shows_sides, shows_both_ended, shows_right, shows_left}
use Rattle.activation.proofs.leads.sides.Goals as goal
use Rattle.activation.proofs.leads.sides.Goals.{After-record_end-f}

paired : (c : After-record_end-f) {depth : _} → Told c.args.s.now depth (join_number c.args.join)
    → Paired c.args.s.now depth c.args.join c.record_end-f.result
paired c t = record {
  told = t;
  begins = c.record_end-f.ensures.0;
  order = omega (arith, c.record_end-f.ensures.2);
  inside = c.record_end-f.ensures.1;
}

pub returns-in-true-true-default : goal.returns-in-true-true-default
returns-in-true-true-default c = λ d t.
    shows_both_ended (paired (goal.at.returns-in-true-true-default c).After-record_end-f t)
    (c.in-true-true-default.ensures refl)
    (c.in-true-true-default.ensures' refl)

pub returns-in-true-false-And : goal.returns-in-true-false-And
returns-in-true-false-And c = λ d t.
    shows_right (paired (goal.at.returns-in-true-false-And c).After-record_end-f t)
    (c.in-true-false-And.ensures refl) c.in-true-false-And.is-2

pub returns-in-false-true-And : goal.returns-in-false-true-And
returns-in-false-true-And c = λ d t.
    shows_left (paired (goal.at.returns-in-false-true-And c).After-record_end-f t)
    (c.in-false-true-And.ensures' refl) c.in-false-true-And.is-2

pub returns-in_default : goal.returns-in_default
returns-in_default c = λ d t.
    shows_sides (paired (goal.at.returns-in_default c).After-record_end-f t)

pub returns-in_default-2 : goal.returns-in_default-2
returns-in_default-2 c = λ d t.
    shows_sides (paired (goal.at.returns-in_default-2 c).After-record_end-f t)

pub returns-in_default-3 : goal.returns-in_default-3
returns-in_default-3 c = λ d t.
    shows_sides (paired (goal.at.returns-in_default-3 c).After-record_end-f t)
