-- The three expressions follow each other, and each must be whole.
use Rattle.formed.proofs.Exprs.{waits}
use Rattle.formed.proofs.wait_formed.Goals as goal

pub returns-then-s-i : goal.returns-then-s-i
returns-then-s-i c = search waits

pub returns-then-expr_formed-2 : goal.returns-then-expr_formed-2
returns-then-expr_formed-2 c = search waits

pub returns-else-expr_formed-2 : goal.returns-else-expr_formed-2
returns-else-expr_formed-2 c = search waits
