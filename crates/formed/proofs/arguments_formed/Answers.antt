-- Each argument is an expression and the blames fill what is left.
use Rattle.formed.proofs.Exprs.{rows}
use Rattle.formed.proofs.arguments_formed.Goals as goal

pub returns-then-not-expr_formed : goal.returns-then-not-expr_formed
returns-then-not-expr_formed c = search rows

pub loop-preserved : goal.loop-preserved
loop-preserved c = search rows

pub returns : goal.returns
returns c = search rows
