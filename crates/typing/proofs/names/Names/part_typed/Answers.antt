-- A part is of the type that its expression has.
use mathlib.Core.Path.{◌∙◌}
use Rattle.typing.specs.Clauses.{is_typed}
use Rattle.typing.proofs.Exprs.{has_eq, same_bare, in_as}
use Rattle.typing.proofs.names.Names.part_typed.Goals as goal

pub returns : goal.returns
unfolding is_typed
returns c = c.eq.ensures ∙ has_eq same_bare c.type_of.result c.args.wanted ∙ rw (c.type_of.ensures, in_as c.args.wanted)
