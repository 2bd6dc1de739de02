-- A set's members are the ones of its bits, and these the language counts.
use mathlib.Core.Path.{refl, ap, ◌∙◌}
use lib.Count.{ones}
use Rattle.parties.proofs.Masks.{mask_count}
use Rattle.parties.proofs.set.PartySet.count.Goals as goal

pub returns : goal.returns
returns c = rw c.self.view_is (refl, λ ps v e. ap ones e ∙ mask_count ps v)
