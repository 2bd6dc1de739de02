use Rattle.sizes.proofs.+need.Given as goal

abbrev pub decreases-need : goal.decreases-need
decreases-need l = l.depth
