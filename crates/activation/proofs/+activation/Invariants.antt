use lib.ListN.{length}
use Prim.Native.Nat.{◌+◌, ◌*◌}
use Rattle.residues.specs.Reduces.{farthest}
use Rattle.activation.specs.Leads.{weight}
use Rattle.activation.proofs.+activation.Given as goal

abbrev pub decreases-act : goal.decreases-act
decreases-act l = 3 * weight l.event l.placed.now.clause.site (length l.placed.now.clause.bytes.now) + 1

abbrev pub decreases-activate : goal.decreases-activate
decreases-activate l = 3 * weight l.event l.placed.now.clause.site (length l.placed.now.clause.bytes.now) + 2

abbrev pub decreases-both : goal.decreases-both
decreases-both l = 3 * weight l.event l.placed.now.clause.site (length l.placed.now.clause.bytes.now)

abbrev pub decreases-taken : goal.decreases-taken
decreases-taken l = 3 * (64 * (farthest + 1))

abbrev pub decreases-unfold : goal.decreases-unfold
decreases-unfold l = 3 * weight l.event l.placed.now.clause.site 0
