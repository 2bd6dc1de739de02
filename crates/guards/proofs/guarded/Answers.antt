-- The chain asks of each body what the definition asks.
use mathlib.Core.Path.{refl, sym, ap, ◌∙◌}
use Prim.Native.Nat.{◌-◌}
use native.Mathlib.Omega.{arith}
use Rattle.std.proofs.Common.{rules, tests}
use Rattle.std.proofs.lemmas.Iterator.{YieldsList-from_range}
use Rattle.std.proofs.lemmas.Iterator.Search.{all_from_yields_List}
use Rattle.csl.specs.Guards.{guarded_in, guarded_from}
use Rattle.guards.specs.Walk.{body_at}
use Rattle.guards.proofs.Bodies.{from_first, each_ranged, guarded_next, guarded_last, templates_from}
use Rattle.guards.proofs.guarded.Goals as goal

pub returns : goal.returns
returns c =
    let s = c.args.agreement.now in
    let n = c.template_count.result in
    all_from_yields_List (λ k. guarded_in k (body_at s k)) c.all.new.self _ c.all.result c.all.ensures.ran
    (YieldsList-from_range 0 n (n - 0) refl refl) (λ x b q k. search (rules, tests))
    ∙ each_ranged (λ k. guarded_from k (templates_from s k)) (λ k. guarded_in k (body_at s k)) n
    (λ k l. guarded_next s k (omega arith)) (λ k l. guarded_last s k (omega arith)) (n - 0) 0 (omega arith)
    ∙ sym (ap (guarded_from 0) (from_first s))
