-- The lesser of the number and the upper end, and the greater of that and the lower one, is what the definition gives.
use mathlib.Core.Path.{◌∙◌}
use Rattle.arith.proofs.Ints.{read, read! }
use Rattle.arith.proofs.Numbers.{clamped}
use Rattle.arith.proofs.number.Number.held.Goals as goal

pub returns : goal.returns
returns c = read! c.clamp.type_inv ∙ rw (read c.ranges.x) at c.clamp.ensures.value ∙ clamped c.args.x
