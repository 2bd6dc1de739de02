-- A truth is 0 or 1, and both are held.
use mathlib.Core.Path.{◌∙◌}
use Rattle.arith.proofs.Numbers.{truth_held}
use Rattle.arith.proofs.number.NumberFromBool.from.Goals as goal

pub returns : goal.returns
returns c = rw c.from.ensures at c.held.ensures ∙ truth_held c.args.b
