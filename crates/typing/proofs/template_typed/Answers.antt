-- The declared parties are below the count, the body is typed, and its constant parties are among the declared.
use mathlib.Core.Path.{◌∙◌}
use native.Mathlib.Omega.{arith}
use Rattle.std.proofs.Common.{rules}
use Rattle.typing.proofs.Templates.{template_beyond, template_by}
use Rattle.typing.proofs.template_typed.Goals as goal

pub returns-then-below : goal.returns-then-below
returns-then-below c =
    template_by c.parties.ensures.2 c.args.template.now.number c.args.template.now.there
    (c.of_bits-declared.ensures ∙ c.declared_bits.ensures.0) c.parties.ensures.0 c.below.ensures.1 c.if-below.true
    c.body_parties.result (omega (arith, c.of_bits-declared.ensures, c.declared_bits.ensures.1)) c.body_parties.ensures
    c.is_some_and.ensures (λ m p. search rules)

pub returns-else-below : goal.returns-else-below
returns-else-below c =
    c.if-below.false ∙ template_beyond c.parties.ensures.2 c.args.template.now.number c.args.template.now.there
    (c.of_bits-declared.ensures ∙ c.declared_bits.ensures.0) c.parties.ensures.0 c.below.ensures.1 c.if-below.false
