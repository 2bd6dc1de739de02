-- Each kind has its own tests before its first clause, and the arms are the definition's.
use Rattle.arith.proofs.Conds.{keys}
use Rattle.formed.proofs.Exprs.{ends_at}
use Rattle.formed.specs.Tests.{tests_whole}
use Rattle.formed.proofs.tests_formed.Goals as goal

pub returns-in-17 : goal.returns-in-17
unfolding tests_whole
returns-in-17 c = search keys

pub returns-in-18 : goal.returns-in-18
unfolding tests_whole
returns-in-18 c = search keys

pub returns-in-19 : goal.returns-in-19
unfolding tests_whole
returns-in-19 c = search (ends_at, keys)

pub returns-in_default : goal.returns-in_default
unfolding tests_whole
returns-in_default c = search keys
