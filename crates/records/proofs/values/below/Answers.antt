-- What is not below 0 is the number that it is cast to.
use Rattle.std.proofs.Common.{rules}
use Rattle.arith.proofs.Ints.{read}
use Rattle.records.proofs.TypedValues.{cast_below}
use Rattle.records.proofs.values.below.Goals as goal

pub returns : goal.returns
returns c =
    cast_below c.is_ok_and.result c.args.end c.try_from.result c.args.value c.ranges.value
    (rw (read c.ranges.value) at c.try_from.ensures) c.is_ok_and.ensures (λ n h. search rules)
