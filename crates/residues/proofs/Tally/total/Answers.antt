-- Two numbers that are each counted up to the most are, added up, counted up to the most.
use native.Mathlib.Omega.{arith}
use Rattle.residues.proofs.Counts.{tally_total}
use Rattle.residues.proofs.Tally.total.Goals as goal

pub returns : goal.returns
returns c x h = tally_total h (omega (arith, c.min.ensures))
