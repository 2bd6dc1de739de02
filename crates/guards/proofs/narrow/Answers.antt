-- With all widths known, the main clause and the bodies decide.
use mathlib.Core.Path.{refl, sym, ap, ◌∙◌}
use Prim.Native.Nat.{◌-◌}
use native.Mathlib.Omega.{arith}
use Rattle.std.proofs.Common.{rules, tests}
use Rattle.std.proofs.lemmas.Iterator.{YieldsList-from_range}
use Rattle.std.proofs.lemmas.Iterator.Search.{all_from_yields_List}
use Rattle.csl.specs.Lists.{all}
use Rattle.csl.specs.Widths.{all_narrow}
use Rattle.guards.specs.Walk.{body_at}
use Rattle.guards.proofs.Bodies.{main_formed, main_answers, from_first, each_ranged, all_next, all_last, templates_from}
use Rattle.guards.proofs.Filling.{narrow_on, narrow_off}
use Rattle.guards.proofs.narrow.Goals as goal

pub all_narrow-requires : goal.all_narrow-requires
all_narrow-requires c = main_formed c.args.agreement.now c.requires c.main.ensures.0

pub returns-then-all_narrow : goal.returns-then-all_narrow
returns-then-all_narrow c =
    let s = c.args.agreement.now in
    let n = c.template_count.result in
    let f = all_narrow c.as_slice-widths.result.now in
    narrow_on s _ (rw c.as_slice-widths.ensures.value c.template_widths-widths.ensures)
    (main_answers s c.requires c.main.ensures.0 f c.all_narrow.ensures)
    c.if-all_narrow.true
    (all_from_yields_List (λ k. f (body_at s k)) c.all.new.self _ c.all.result c.all.ensures.ran
    (YieldsList-from_range 0 n (n - 0) refl refl) (λ x b q k. search (rules, tests))
    ∙ each_ranged (λ k. all (λ t. f t.body) (templates_from s k)) (λ k. f (body_at s k)) n
    (λ k l. all_next s k (omega arith) f) (λ k l. all_last s k (omega arith) f) (n - 0) 0 (omega arith)
    ∙ sym (ap (all (λ t. f t.body)) (from_first s)))

pub returns-else-all_narrow : goal.returns-else-all_narrow
returns-else-all_narrow c =
    let s = c.args.agreement.now in
    narrow_off s _ (rw c.as_slice-widths.ensures.value c.template_widths-widths.ensures)
    (main_answers s c.requires c.main.ensures.0 (all_narrow c.as_slice-widths.result.now) c.all_narrow.ensures)
    c.if-all_narrow.false
