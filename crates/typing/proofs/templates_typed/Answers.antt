-- The chain asks of each template what the definition asks.
use mathlib.Core.Path.{refl, ◌∙◌}
use Prim.Native.Nat.{◌-◌}
use native.Mathlib.Omega.{arith}
use Rattle.std.proofs.Common.{rules, tests}
use Rattle.std.proofs.lemmas.Iterator.{YieldsList-from_range}
use Rattle.std.proofs.lemmas.Iterator.Search.{all_from_yields_List}
use Rattle.typing.specs.Clauses.{holds, template_typed}
use Rattle.typing.proofs.Templates.{templates_ranged}
use Rattle.typing.proofs.templates_typed.Goals as goal

pub returns : goal.returns
returns c =
    let g = c.args.agreement.now in
    let n = c.template_count.result in
    all_from_yields_List (λ k. holds (template_typed g k)) c.all.new.self _ c.all.result c.all.ensures.ran
    (YieldsList-from_range 0 n (n - 0) refl refl) (λ x b q k. search (rules, tests))
    ∙ templates_ranged g (n - 0) 0 (omega arith)
