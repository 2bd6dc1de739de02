-- Only a truth can be negated.
use mathlib.Core.Path.{◌≡◌, refl, ◌∙◌}
use Rattle.std.specs.Bool.{then_some}
use Rattle.csl.specs.Typing.{same_ty}
use Rattle.kinds.specs.declared.«Type».{«Type»}
use Rattle.kinds.specs.declared.«Type».TheVariants.{Number, Truth, Party}
use Rattle.kinds.specs.contracts.«Type».{the_type}
use denote.Enum.Bare.{sameb}
use Rattle.typing.specs.Types.{not_type}
use Rattle.typing.proofs.operators.negated.Goals as goal

by_type : (t : «Type») → then_some (sameb the_type t Truth) t ≡ not_type t
unfolding same_ty
by_type Number = refl
by_type Truth = refl
by_type Party = refl

pub returns : goal.returns
returns c = c.then_some.ensures ∙ rw c.eq.ensures (by_type c.args.t)
