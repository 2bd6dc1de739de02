-- A set below 2^k has no bit from k on, so each of its members is below k.
use mathlib.Core.Path.{refl, sym}
use native.Mathlib.Omega.{arith}
use Rattle.parties.proofs.Masks.{declared_below}
use Rattle.parties.proofs.set.PartySet.below.Goals as goal

pub returns : goal.returns
returns c =
    rw (c.self.view_is, c.bit.ensures) (refl, sym (declared_below c.args.self c.args.k (omega arith)))
