use Rattle.units.proofs.Cells.{Reads}
use Rattle.units.proofs.party_cells.Given as goal

abbrev pub invariant-loop-z : goal.invariant-loop-z
invariant-loop-z l = Reads l.cells l.parties l.own.items l.z-index
