-- A reading has 9 bytes and four more for each of at most four values, and the tests ask just that.
use mathlib.Core.Path.{sym, ◌∙◌}
use native.Mathlib.Omega.{arith}
use Rattle.readings.proofs.Raw.{raw_count}
use Rattle.readings.proofs.value_count.Goals as goal

pub returns-then-kind-eq64 : goal.returns-then-kind-eq64
returns-then-kind-eq64 c =
    raw_count c.args.bytes.now (sym c.is_record.ensures ∙ c.if-is_record.true)
    (sym c.kind.ensures ∙ c.if-kind-eq64.true) (omega arith) (omega arith) c.then_some.ensures
