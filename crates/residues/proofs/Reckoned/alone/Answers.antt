-- The answer is handed on, and the clause is counted once.
use mathlib.Core.Path.{refl}
use Rattle.residues.proofs.Counts.{reckons_alone}
use Rattle.residues.proofs.Reckoned.alone.Goals as goal

pub returns : goal.returns
returns c = record { is = λ x out h. reckons_alone x out _ h refl refl refl }
