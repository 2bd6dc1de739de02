-- After k units the front has the residue's first k units, behind them nothing has changed, and something has altered
-- if it was known or one of the k is another.
use mathlib.Core.Path.{◌≡◌, ap, refl, ◌∙◌}
use mathlib.Core.List.{◌++◌}
use Prim.Native.Nat.{◌+◌, ◌*◌}
use native.Mathlib.Omega.{arith}
use lib.ListN.{length, take, drop, length-append, length-take, length-drop}
use lib.Seq.{take_all}
use Rattle.residues.proofs.Cells.{copy_part, copied_all}
use Rattle.settling.proofs.Units.{altered_more, altered_none, altered_in}
use Rattle.settling.proofs.put_units.Goals as goal

pub loop-k-init : goal.loop-k-init
loop-k-init c = (refl, refl, altered_none c.args.known)

pub loop-k-preserved : goal.loop-k-preserved
loop-k-preserved c =
    let l = c.loop-k in
    let r = c.args.residue.now in
    let u = c.args.units.now in
    let next : 24 * l.k + 24 ≡ 24 * (l.k + 1) = omega arith in
    let is = copy_part r u (24 * l.k) (24 * l.k + 24) (omega arith) (omega arith) l.invariant.1
    c.put_unit-altered.ensures.0 ∙ ap (λ j. take j r ++ drop j u) next in
    let long : length (take (24 * (l.k + 1)) r ++ drop (24 * (l.k + 1)) u) ≡ length u = simp
    (length-append, length-take, length-drop) (omega arith) in
    let altered = altered_more (24 * l.k) (24 * l.k + 24) r u c.args.known (omega arith) (omega arith)
    (omega arith) l.invariant.1 l.invariant.2 c.put_unit-altered.ensures.1
    ∙ ap (λ j. altered_in c.args.known (take j r) (take j u)) next in
    (ap length is ∙ long, is, altered)

pub returns : goal.returns
returns c =
    let loop = c.loop-k in
    let r = c.args.residue.now in
    let all : 24 * loop.k ≡ length r = omega arith in (
      loop.invariant.1 ∙ copied_all r c.args.units.now {i = 24 * loop.k} all,
      rw (all, take_all (length r) r (omega arith)) at loop.invariant.2,
    )
