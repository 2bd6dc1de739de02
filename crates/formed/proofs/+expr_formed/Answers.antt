-- Each arm asks what the form of its kind asks; an operand is nested less deep.
use Rattle.formed.proofs.Exprs.{exprs}
use Rattle.formed.proofs.+expr_formed.Goals as goal

pub returns-then-depth-eq0 : goal.returns-then-depth-eq0
returns-then-depth-eq0 t c = search exprs

pub slice_bounds-expr_formed-count : goal.slice_bounds-expr_formed-count
slice_bounds-expr_formed-count t c = search exprs

pub slice_bounds-expr_formed-start : goal.slice_bounds-expr_formed-start
slice_bounds-expr_formed-start t c = search exprs

pub slice_bounds-expr_formed-count-in-37-to-43 : goal.slice_bounds-expr_formed-count-in-37-to-43
slice_bounds-expr_formed-count-in-37-to-43 t c = search exprs

pub slice_bounds-expr_formed-start-in-37-to-43 : goal.slice_bounds-expr_formed-start-in-37-to-43
slice_bounds-expr_formed-start-in-37-to-43 t c = search exprs

pub returns-in-32 : goal.returns-in-32
returns-in-32 t c = search exprs

pub returns-in-36 : goal.returns-in-36
returns-in-36 t c = search exprs

pub returns-in-33-to-35 : goal.returns-in-33-to-35
returns-in-33-to-35 t c = search exprs

pub returns-then-expr_formed : goal.returns-then-expr_formed
returns-then-expr_formed t c = search exprs

pub returns-else-expr_formed : goal.returns-else-expr_formed
returns-else-expr_formed t c = search exprs

pub returns-in_default : goal.returns-in_default
returns-in_default t c = search exprs

pub returns-in_default-2 : goal.returns-in_default-2
returns-in_default-2 t c = search exprs
