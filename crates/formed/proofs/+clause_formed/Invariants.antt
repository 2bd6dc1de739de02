use Rattle.formed.proofs.+clause_formed.Given as goal

abbrev pub decreases-clause_formed : goal.decreases-clause_formed
decreases-clause_formed l = l.depth
