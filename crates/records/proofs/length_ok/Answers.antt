-- The two tests are what refusal 1 asks.
use Rattle.csl.specs.Decode.{length_ok}
use Rattle.laws.proofs.Bools.{true_first, false_first}
use borrow.Author.Rules.{rules}
use Rattle.records.proofs.length_ok.Goals as goal

pub returns-then-between : goal.returns-then-between
unfolding length_ok
returns-then-between c = search (true_first, rules)

pub returns-else-between : goal.returns-else-between
unfolding length_ok
returns-else-between c = search (false_first, rules)
