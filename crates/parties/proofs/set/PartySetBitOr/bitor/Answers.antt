-- A bit is in the union where it is in one of the sets, so the union stands for both lists of members.
use mathlib.Core.Path.{refl}
use lib.Bits.{or_lt}
use Rattle.parties.proofs.Masks.{union_is}
use Rattle.parties.proofs.set.PartySetBitOr.bitor.Goals as goal

pub returns : goal.returns
returns c = rw (c.self.view_is, c.other.view_is)
    (refl, λ a b. or_lt 20 c.args.self c.args.other a b, union_is)
