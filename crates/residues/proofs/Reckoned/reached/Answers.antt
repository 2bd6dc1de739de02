-- The answer is handed on, with one clause more.
use mathlib.Core.Path.{refl}
use native.Mathlib.Omega.{arith}
use Rattle.residues.proofs.Counts.{reckons_reached}
use Rattle.residues.proofs.Reckoned.reached.Goals as goal

pub returns : goal.returns
returns c = record { is = λ x out h. reckons_reached h _ refl (omega (arith, c.min.ensures)) refl }
