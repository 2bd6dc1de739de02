-- The wanted type's bytes are the reading's, and join those in sight.
use native.Mathlib.Omega.{arith}
use Rattle.csl.specs.Decode.{tys_of}
use Rattle.typing.proofs.Sights.{then_unnamed, then_reading}
use Rattle.typing.proofs.names.Names.then_sight.Goals as goal

pub returns-in_err-types_wanted-clause-seen : goal.returns-in_err-types_wanted-clause-seen
returns-in_err-types_wanted-clause-seen c =
    rw c.from_residual.ensures (then_unnamed c.args.self.now.agreement.now (tys_of c.args.types.now) c.args.wanted
    c.in_err-types_wanted.ensures)

pub returns-clause-seen : goal.returns-clause-seen
returns-clause-seen c =
    then_reading c.args.self.now.agreement.now c.args.types.now
    (λ e. absurd (omega (arith, c.in_ok-types_wanted.ensures.0)))
    c.in_ok-types_wanted.ensures.1 c.join_sight.ensures
