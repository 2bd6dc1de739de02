-- The range has both of its ends, as the definition's.
use mathlib.Core.Path.{◌∙◌}
use Rattle.arith.proofs.Ints.{read}
use Rattle.arith.proofs.Ranges.{range_is}
use Rattle.arith.proofs.in_range.Goals as goal

pub returns : goal.returns
returns c =
    let n = c.new.ensures in
    rw (n.start, n.end, n.exhausted, read c.ranges.x) at c.contains.ensures.value ∙ range_is c.args.x
