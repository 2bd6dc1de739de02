use Rattle.guards.proofs.+guarded_in.Given as goal

abbrev pub decreases-guarded_in : goal.decreases-guarded_in
decreases-guarded_in l = l.depth
