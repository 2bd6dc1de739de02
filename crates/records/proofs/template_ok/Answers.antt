-- The tests are the definition's, in its order.
use Rattle.csl.specs.Decode.{template_ok, body_place, declares_units}
use Rattle.laws.proofs.Bools.{true_first, false_first}
use borrow.Author.Rules.{rules}
use Rattle.records.proofs.template_ok.Goals as goal

pub returns-then-byte-le4 : goal.returns-then-byte-le4
unfolding template_ok body_place declares_units
returns-then-byte-le4 c = search (true_first, false_first, rules)

pub returns-else-byte-le4 : goal.returns-else-byte-le4
unfolding template_ok body_place declares_units
returns-else-byte-le4 c = search (true_first, false_first, rules)
