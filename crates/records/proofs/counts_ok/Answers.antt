-- The tests are the definition's, in its order.
use Rattle.csl.specs.Decode.{counts_ok}
use Rattle.laws.proofs.Bools.{true_first, false_first}
use borrow.Author.Rules.{rules}
use Rattle.records.proofs.counts_ok.Goals as goal

pub returns-then-between-2 : goal.returns-then-between-2
unfolding counts_ok
returns-then-between-2 c = search (true_first, false_first, rules)

pub returns-else-between-2 : goal.returns-else-between-2
unfolding counts_ok
returns-else-between-2 c = search (true_first, false_first, rules)
