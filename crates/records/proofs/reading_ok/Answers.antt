-- The tests are the definition's, in its order.
use Rattle.csl.specs.Decode.{reading_type_ok}
use Rattle.laws.proofs.Bools.{true_first, false_first}
use borrow.Author.Rules.{rules}
use Rattle.records.proofs.reading_ok.Goals as goal

pub returns-then-piece-n : goal.returns-then-piece-n
unfolding reading_type_ok
returns-then-piece-n c = search (true_first, false_first, rules)

pub returns-else-piece-n : goal.returns-else-piece-n
unfolding reading_type_ok
returns-else-piece-n c = search (true_first, false_first, rules)
