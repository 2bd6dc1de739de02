-- A byte is a type's just where it names one.
use Rattle.std.proofs.Common.{◌∙◌, ap}
use Rattle.csl.specs.Decode.{is_type}
use Rattle.records.proofs.TypedValues.{type_found}
use Rattle.records.proofs.values.is_type.Goals as goal

pub returns : goal.returns
returns c =
    c.is_ok.ensures.value ∙ type_found c.from.result c.try_from.result c.try_from.ensures ∙ ap is_type c.from.ensures
