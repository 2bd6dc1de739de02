-- The table still has the units, and they are asked; a mark none of them wants.
use Rattle.walk.proofs.Trees.{tree_long}
use Rattle.monitor.proofs.Lent.came_early.Goals as goal

pub units-units-requires : goal.units-units-requires
units-units-requires c = tree_long c.requires.tree
