use lib.ListN.{length}
use Rattle.walk.proofs.ahead.+tree_ahead.Given as goal

abbrev pub decreases-tree_ahead : goal.decreases-tree_ahead
decreases-tree_ahead l = length l.cells.now
