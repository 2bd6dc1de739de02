use Rattle.formed.proofs.+expr_formed.Given as goal

abbrev pub decreases-expr_formed : goal.decreases-expr_formed
decreases-expr_formed l = l.depth
