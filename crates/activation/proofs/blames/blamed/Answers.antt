-- A byte below 128 is the party itself, any other names a cell of the parameters, 0 where there is none.
use Rattle.activation.proofs.Arguments.{blamed_party, blamed_param}
use mathlib.Core.Path.{◌≡◌, ◌∙◌, ap}
use lib.IntN.{ℤ, pos}
use lib.ListN.{get_or}
use Prim.Native.Nat.{◌-◌}
use native.Mathlib.Omega.{arith}
use Rattle.std.specs.Option.{unwrap_or}
use Rattle.arith.proofs.Ints.{read! }
use Rattle.activation.proofs.blames.blamed.Goals as goal

pub returns-then-b-lt-PARAMS_FROM : goal.returns-then-b-lt-PARAMS_FROM
returns-then-b-lt-PARAMS_FROM c = blamed_party c.args.params.now c.args.b c.if-b-lt-PARAMS_FROM.true

pub returns-else-b-lt-PARAMS_FROM : goal.returns-else-b-lt-PARAMS_FROM
returns-else-b-lt-PARAMS_FROM c =
    let at : ℤ = get_or c.args.params.now (c.args.b - 128) (pos 0) in
    let e : c.unwrap_or.result ≡ at = c.unwrap_or.ensures ∙ ap (λ o. unwrap_or o (pos 0)) c.copied.ensures
    ∙ c.get.ensures.lookup.4 (omega arith) (pos 0) in
    read! c.unwrap_or.type_inv ∙ e ∙ blamed_param c.args.params.now c.args.b c.if-b-lt-PARAMS_FROM.false
