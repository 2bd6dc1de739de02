-- The answer is handed on, and what is counted of it stands beyond the wait itself.
use mathlib.Core.Path.{refl}
use native.Mathlib.Omega.{arith}
use Rattle.residues.proofs.Counts.{reckons_ended_wait}
use Rattle.residues.proofs.Reckoned.ended_wait.Goals as goal

pub returns : goal.returns
returns c = record { is = λ x out h. reckons_ended_wait h _ refl refl (omega (arith, c.min.ensures)) }
