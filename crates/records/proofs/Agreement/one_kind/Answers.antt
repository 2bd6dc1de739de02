-- Kind 3 is asked first, and where that is not theirs kind 4 decides.
use Rattle.csl.specs.Decode.{one_kind}
use Rattle.laws.proofs.Bools.{true_decides, false_leaves}
use borrow.Author.Rules.{rules}
use Rattle.records.proofs.Agreement.one_kind.Goals as goal

pub returns-then-all_of_kind : goal.returns-then-all_of_kind
unfolding one_kind
returns-then-all_of_kind c = search (true_decides, rules)

pub returns-else-all_of_kind : goal.returns-else-all_of_kind
unfolding one_kind
returns-else-all_of_kind c = search (false_leaves, rules)
