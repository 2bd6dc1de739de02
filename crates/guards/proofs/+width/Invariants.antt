use Rattle.guards.proofs.+width.Given as goal

abbrev pub decreases-width : goal.decreases-width
decreases-width l = l.depth
