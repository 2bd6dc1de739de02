-- A value in sight has its byte's type; where none is, there is no type.
use mathlib.Core.Path.{ap, ◌∙◌}
use Rattle.csl.specs.Decode.{ty_of}
use Rattle.typing.proofs.Exprs.{sight_in, sight_out}
use Rattle.typing.proofs.names.sight_type.Goals as goal

pub returns-in_err-byte : goal.returns-in_err-byte
returns-in_err-byte c =
    c.from_residual.ensures ∙ sight_out c.args.types.now c.args.i c.in_err-byte.ensures.lookup.3

pub returns : goal.returns
returns c =
    let l = c.in_ok-byte.ensures.lookup.3 in
    sight_in c.args.types.now c.args.i l.0 (c.type_of.ensures ∙ ap ty_of (l.1 0))
