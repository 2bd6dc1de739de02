use lib.ListN.{length}
use Rattle.walk.proofs.+across.Given as goal

abbrev pub decreases-across : goal.decreases-across
decreases-across l = length l.units.sights.now
