-- What is left of the set below 2^16 is its parties, and the parameters are gone.
use mathlib.Core.Path.{refl, ap, ◌∙◌}
use Prim.Native.Nat.{◌%◌}
use native.Mathlib.Omega.{arith}
use Rattle.parties.proofs.Masks.{mask_constants}
use Rattle.parties.proofs.set.PartySet.constants.Goals as goal

pub returns : goal.returns
returns c = rw c.self.view_is (refl, omega arith, λ ps e. ap (λ x. x % 65_536) e ∙ mask_constants ps)
