-- Of two times the later one decides, the left one where they are equal.
use mathlib.Core.Path.{refl}
use mir.Syntax.{w64}
use mir.Val.{SFits}
use Rattle.std.proofs.Common.{rules}
use Rattle.arith.proofs.Ints.{read}
use Rattle.cells.specs.Reduce.{later}
use Rattle.residues.specs.Reduces.{Is}
use Rattle.residues.proofs.later_breach.Goals as goal

pub returns-then-l-r : goal.returns-then-l-r
unfolding Is later
returns-then-l-r c =
    let p : SFits w64 c.args.l.time = search rules in
    let q : SFits w64 c.args.r.time = search rules in
    record { is = λ x y e f o. rw (rw (read p, read q, e, f) at c.if-l-r.true) (f, refl) }

pub returns-else-l-r : goal.returns-else-l-r
unfolding Is later
returns-else-l-r c =
    let p : SFits w64 c.args.l.time = search rules in
    let q : SFits w64 c.args.r.time = search rules in
    record { is = λ x y e f o. rw (rw (read p, read q, e, f) at c.if-l-r.false) (e, refl) }
