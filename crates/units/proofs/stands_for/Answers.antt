-- Below 128 a blame is a party, and from there on the parameter's, if it is there.
use mathlib.Core.Path.{ap, ◌∙◌}
use Rattle.std.specs.Option.{unwrap_or}
use Rattle.units.proofs.Blames.{stands_itself, stands_got}
use Rattle.units.proofs.stands_for.Goals as goal

pub returns-then-b-lt-PARAMS_FROM : goal.returns-then-b-lt-PARAMS_FROM
returns-then-b-lt-PARAMS_FROM c = stands_itself c.args.params.now c.args.b c.if-b-lt-PARAMS_FROM.true

pub returns-else-b-lt-PARAMS_FROM : goal.returns-else-b-lt-PARAMS_FROM
returns-else-b-lt-PARAMS_FROM c = c.unwrap_or.ensures ∙ ap (λ o. unwrap_or o 0) c.copied.ensures
    ∙ stands_got c.args.params.now c.args.b c.if-b-lt-PARAMS_FROM.false c.get.result c.get.ensures.lookup.0
    c.get.ensures.lookup.1
