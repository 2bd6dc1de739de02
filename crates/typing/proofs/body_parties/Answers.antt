-- A body stands behind the head of its template, and sees the template's values.
use Rattle.typing.proofs.Templates.{body_typed}
use Rattle.typing.proofs.body_parties.Goals as goal

pub returns : goal.returns
returns c =
    body_typed c.body.ensures.1 c.args.template.now.there c.body.ensures.0 c.value_types.ensures.0
    c.param_count.ensures.0 c.clause_parties.ensures
