-- Of two times the smaller one decides, and equal ones bring both sets.
use borrow.Author.Tests.{lt-ltb, le-ltb}
use mathlib.Core.Path.{refl, ◌∙◌}
use native.Mathlib.Omega.{arith}
use Rattle.std.proofs.Common.{rules}
use Rattle.std.proofs.lemmas.Cmp.{int_ranked}
use Rattle.arith.proofs.Ints.{read}
use Rattle.cells.specs.Reduce.{earlier}
use Rattle.residues.specs.Reduces.{Is}
use Rattle.residues.proofs.Reduces.{before, at_once}
use Rattle.residues.proofs.earlier_breach.Goals as goal

pub returns-in-Less : goal.returns-in-Less
unfolding Is earlier
returns-in-Less c = record {
  is = λ x y e f o.
      let h = before e f (int_ranked _ _ _ c.in-Less.ensures) in
      let k = read {z = c.args.l.time} (search rules) in
      rw (lt-ltb x y h) (cc, refl);
}

pub returns-in-Greater : goal.returns-in-Greater
unfolding Is earlier
returns-in-Greater c = record {
  is = λ x y e f o.
      let h = before f e (int_ranked _ _ _ c.in-Greater.ensures) in
      rw (le-ltb x y (omega arith), lt-ltb y x h) (f, refl);
}

pub returns-in-Equal : goal.returns-in-Equal
unfolding Is earlier
returns-in-Equal c = record {
  is = λ x y e f o.
      let h = at_once e f (int_ranked _ _ _ c.in-Equal.ensures) in
      rw (le-ltb x y (omega arith), le-ltb y x (omega arith)) (read (search rules) ∙ e, c.bitor.ensures.0);
}
