-- A mark has no values; any other type has as many as its record says, each of its type.
use mathlib.Core.Path.{sym, ap, ◌∙◌}
use borrow.Author.Tests.{ne_eqb}
use lib.ListN.{length}
use Rattle.readings.proofs.Fitting.{typed_mark, typed_unwanted, typed_count, typed_values}
use Rattle.readings.specs.Values.{values_read}
use Rattle.readings.proofs.is_typed.Goals as goal

pub returns-then-types-values : goal.returns-then-types-values
returns-then-types-values c =
    let v = c.values-values.ensures.value in
    typed_values c.in-Some.ensures.0 c.in-Some.ensures.1 (values_read c.args.reading.now)
    (c.if-types-values.true ∙ ap length v) c.parties.ensures.0 (rw v at c.values_ok.ensures)

pub returns-else-types-values : goal.returns-else-types-values
returns-else-types-values c =
    let v = c.values-values.ensures.value in
    rw (ne_eqb _ _ c.if-types-values.false)
    (typed_count c.in-Some.ensures.0 c.in-Some.ensures.1 (values_read c.args.reading.now)
    (λ e. c.if-types-values.false (e ∙ sym (ap length v))))

pub returns-then-reading-eq0 : goal.returns-then-reading-eq0
returns-then-reading-eq0 c =
    rw c.values-values.ensures.value
    (typed_mark c.args.agreement.now (values_read c.args.reading.now) c.if-reading-eq0.true)

pub returns-else-reading-eq0 : goal.returns-else-reading-eq0
returns-else-reading-eq0 c =
    rw (ne_eqb c.args.reading.now.tag 0 c.if-reading-eq0.false)
    (typed_unwanted c.args.agreement.now (values_read c.args.reading.now) c.in-None.ensures c.if-reading-eq0.false)
