-- The chain asks of each type and its value what the definition asks.
use mathlib.Core.Path.{◌∙◌}
use Rattle.std.proofs.Common.{rules, tests}
use Rattle.csl.specs.Decode.{ty_of}
use Rattle.std.proofs.lemmas.Iterator.{YieldsList-from_slice, YieldsList-from_zip}
use Rattle.std.proofs.lemmas.Iterator.Search.{all_from_yields_List}
use Rattle.records.specs.TypedValues.{value_ok}
use Rattle.records.proofs.TypedValues.{values_zipped}
use Rattle.records.proofs.values.values_ok.Goals as goal

pub returns : goal.returns
returns c =
    all_from_yields_List (λ p. value_ok c.args.parties (ty_of p.0) p.1) c.all.new.self _ c.all.result c.all.ensures.ran
    (YieldsList-from_zip (YieldsList-from_slice c.args.types.now cc) (YieldsList-from_slice c.args.values.now cc))
    (λ x b q k. search (rules, tests))
    ∙ values_zipped c.args.parties c.args.types.now c.args.values.now c.requires
