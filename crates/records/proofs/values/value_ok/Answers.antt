-- A number lies between the ends, a truth is one of two numbers, a party is below the count.
use mathlib.Core.Path.{◌∙◌}
use Rattle.arith.proofs.Ints.{read}
use Rattle.records.proofs.TypedValues.{truths}
use Rattle.records.specs.TypedValues.{value_ok}
use Rattle.records.proofs.values.value_ok.Goals as goal

pub returns-in-Number : goal.returns-in-Number
unfolding value_ok
returns-in-Number c = rw c.in-Number.is (rw (read c.ranges.value) at c.in_range.ensures)

pub returns-in-Truth : goal.returns-in-Truth
returns-in-Truth c =
    rw c.in-Truth.is ((rw (read c.ranges.value) at c.below.ensures) ∙ truths c.args.parties c.args.value)
