-- `where` is typed under what `then` sees without its last value, the remaining time.
use mathlib.Core.Path.{refl}
use Rattle.typing.specs.Clauses.{seen_as}
use Rattle.typing.proofs.Sights.{named, wait_over, wait_gives}
use Rattle.typing.proofs.names.Names.wait_sight.Goals as goal

pub returns-in_err-seen : goal.returns-in_err-seen
unfolding seen_as
returns-in_err-seen c =
    rw c.from_residual.ensures (wait_over c.args.self.now.agreement.now c.args.types.now c.args.depth
    c.args.s.now c.args.i
    c.byte.ensures.0 c.in_err-seen.ensures.seen)

pub wait_typed-requires : goal.wait_typed-requires
wait_typed-requires c = (c.requires, named c.args.s.now c.args.i c.byte.ensures.0 c.in_ok-seen.ensures.some.1)

pub returns : goal.returns
returns c =
    wait_gives c.args.self.now.agreement.now c.args.types.now c.args.depth c.args.s.now c.args.i c.byte.ensures.0
    c.in_ok-seen.seen
    c.in_ok-seen.ensures.seen c.deref.ensures.0 c.len.ensures.value refl c.wait_typed.ensures
    c.then_some.ensures
