-- Each test goes as the join of that kind.
use mathlib.Core.Path.{refl}
use Rattle.csl.specs.Cost.{both_at_once}
use Rattle.residues.proofs.tallies.both_at_once.Goals as goal

pub returns-then-l : goal.returns-then-l
unfolding both_at_once
returns-then-l c = rw (c.in-And.is, c.if-l.true) refl

pub returns-else-l : goal.returns-else-l
unfolding both_at_once
returns-else-l c = rw (c.in-And.is, c.if-l.false) refl

pub returns-then-l-2 : goal.returns-then-l-2
unfolding both_at_once
returns-then-l-2 c = rw (c.in-Or.is, c.if-l-2.true) refl

pub returns-else-l-2 : goal.returns-else-l-2
unfolding both_at_once
returns-else-l-2 c = rw (c.in-Or.is, c.if-l-2.false) refl
