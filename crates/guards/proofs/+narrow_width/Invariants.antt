use Rattle.guards.proofs.+narrow_width.Given as goal

abbrev pub decreases-narrow_width : goal.decreases-narrow_width
decreases-narrow_width l = l.depth
