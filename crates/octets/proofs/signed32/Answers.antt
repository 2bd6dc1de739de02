-- The bits of 32 with a sign are two's complement.
use mathlib.Core.Path.{◌∙◌}
use mir.Syntax.{w32}
use mir.ValLaws.{to_z-of_z}
use Rattle.csl.specs.Bytes.{signed32}
use Rattle.arith.proofs.Ints.{read! }
use Rattle.octets.proofs.Bytes.{signed_is}
use Rattle.octets.proofs.signed32.Goals as goal

pub returns : goal.returns
unfolding signed32
returns c =
    let v = c.unsigned32-v.ensures in
    read! c.from.type_inv ∙ c.from.ensures
    ∙ to_z-of_z w32 c.cast_signed.result (record { sfits = c.cast_signed.type_inv }) ∙ c.cast_signed.ensures
    ∙ signed_is v.0 v.1
