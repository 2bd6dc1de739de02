use lib.ListN.{length}
use Rattle.places.proofs.Search.+descend.Given as goal

abbrev pub decreases-descend : goal.decreases-descend
decreases-descend l = length l.s.now
