-- A number names a type as csl reads it, and what names none is read as a party.
use Rattle.std.proofs.Common.{◌∙◌, ap}
use Rattle.csl.specs.Decode.{ty_of}
use Rattle.kinds.specs.Kinds.{ty_in}
use Rattle.records.proofs.TypedValues.{type_named}
use Rattle.records.proofs.values.type_of.Goals as goal

pub returns : goal.returns
returns c =
    ap ty_in c.unwrap_or.ensures ∙ type_named c.from.result c.try_from.result c.try_from.ensures
    ∙ ap ty_of c.from.ensures
