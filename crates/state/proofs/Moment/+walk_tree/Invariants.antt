use lib.ListN.{length}
use Rattle.state.proofs.Moment.+walk_tree.Given as goal

abbrev pub decreases-walk_tree : goal.decreases-walk_tree
decreases-walk_tree l = length l.sights.now
