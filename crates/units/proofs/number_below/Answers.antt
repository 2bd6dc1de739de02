-- A negative cell and one that is too large are none; any other is itself.
use mathlib.Core.Path.{◌∙◌}
use Rattle.units.proofs.Cells.{not_natural, natural, below_none, below_some}
use Rattle.units.proofs.number_below.Goals as goal

pub returns-in_err-n : goal.returns-in_err-n
returns-in_err-n c = c.from_residual.ensures ∙ below_none c.args.end c.args.z
    (not_natural c.args.z c.ranges.z.sfits _ c.ok.ensures.value c.try_from.ensures c.in_err-n.was)

pub returns : goal.returns
returns c = c.then_some.ensures ∙ below_some c.args.end c.in_ok-n.n c.args.z
    (natural c.args.z c.ranges.z.sfits _ c.ok.ensures.value c.try_from.ensures c.in_ok-n.was)
