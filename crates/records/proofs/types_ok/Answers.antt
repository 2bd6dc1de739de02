-- The chain asks of each byte what the definition asks.
use mathlib.Core.Path.{◌∙◌}
use Rattle.std.proofs.Common.{rules, tests}
use Rattle.std.proofs.lemmas.Iterator.{YieldsList-from_slice}
use Rattle.std.proofs.lemmas.Iterator.Search.{all_from_yields_List}
use Rattle.csl.specs.Decode.{is_type}
use Rattle.records.proofs.Listed.{all_is}
use Rattle.records.proofs.types_ok.Goals as goal

pub returns : goal.returns
returns c =
    all_from_yields_List is_type c.all.new.self _ c.all.result c.all.ensures.ran
    (YieldsList-from_slice c.args.types.now cc) (λ x b q k. search (rules, tests))
    ∙ all_is is_type c.args.types.now
