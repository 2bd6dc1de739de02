-- An `and` may join any parties, an `or` those of one member.
use Rattle.state.proofs.Trees.{join_and, join_or}
use Rattle.state.proofs.join_ok.Goals as goal

pub returns-in-And : goal.returns-in-And
returns-in-And c = rw c.in-And.is join_and

pub returns-in-Or : goal.returns-in-Or
returns-in-Or c = rw c.in-Or.is (join_or c.count.ensures.1)
