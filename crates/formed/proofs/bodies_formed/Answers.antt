-- The chain asks of each body what the definition asks.
use mathlib.Core.Path.{refl, ◌∙◌}
use native.Mathlib.Omega.{arith}
use Rattle.std.proofs.Common.{rules, tests}
use Rattle.std.proofs.lemmas.Iterator.{YieldsList-from_range}
use Rattle.std.proofs.lemmas.Iterator.Search.{all_from_yields_List}
use Rattle.csl.specs.Decode.{body_of, whole, heads_of}
use Rattle.records.specs.Index.{template_piece}
use Rattle.formed.proofs.Bodies.{bodies_ranged}
use Rattle.formed.proofs.bodies_formed.Goals as goal

pub returns : goal.returns
returns c =
    let s = c.args.agreement.now in
    let n = c.template_count.result in
    all_from_yields_List (λ k. whole (body_of (heads_of s) (template_piece s k))) c.all.new.self _ c.all.result
    c.all.ensures.ran (YieldsList-from_range 0 n n refl (omega arith)) (λ x b q k. search (rules, tests))
    ∙ bodies_ranged s c.template_count.ensures.0
