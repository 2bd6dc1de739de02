-- An agreement is typed where its templates are, and its parties are then its main clause's.
use Rattle.typing.proofs.Templates.{agreement_stop, agreement_main}
use Rattle.typing.proofs.agreement_parties.Goals as goal

pub returns-then-not-templates_typed : goal.returns-then-not-templates_typed
returns-then-not-templates_typed c =
    agreement_stop c.args.agreement.now c.templates_typed.ensures c.if-not-templates_typed.true

pub returns : goal.returns
returns c =
    agreement_main c.args.agreement.now c.templates_typed.ensures c.if-not-templates_typed.false c.main-main.ensures.0
    c.clause_parties.ensures
