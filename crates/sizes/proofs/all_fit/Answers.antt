-- The main clause's test comes first, and the chain asks of each body what the definition asks.
use mathlib.Core.Path.{refl, sym, ap, ◌∙◌}
use mathlib.Core.Bool.{Bool}
use Prim.Native.Nat.{ℕ, ◌-◌}
use native.Mathlib.Omega.{arith}
use Rattle.std.proofs.Common.{rules, tests}
use Rattle.std.proofs.lemmas.Iterator.{YieldsList-from_range}
use Rattle.std.proofs.lemmas.Iterator.Search.{all_from_yields_List}
use borrow.Author.Tests.{le-leb, lt-leb}
use lib.Dec.{leb}
use lib.ListN.{get_or}
use Rattle.csl.specs.Lists.{all}
use Rattle.csl.specs.Decode.{main_of}
use Rattle.csl.specs.Sizes.{body_fits, clause_need}
use Rattle.guards.specs.Walk.{body_at}
use Rattle.guards.proofs.Bodies.{main_formed, main_answers, from_first, each_ranged, templates_from}
use Rattle.sizes.specs.Walk.{counted}
use Rattle.sizes.proofs.Filling.{fits_last, fits_next, leb_counted, main_off, main_on}
use Rattle.sizes.proofs.all_fit.Goals as goal

pub need-requires : goal.need-requires
need-requires c = main_formed c.args.agreement.now c.requires.formed c.main.ensures.0

pub returns-then-need-le-MOST_UNITS : goal.returns-then-need-le-MOST_UNITS
unfolding counted
returns-then-need-le-MOST_UNITS c =
    let s = c.args.agreement.now in
    let us = c.args.units.now in
    let n = c.template_count.result in
    let x = c.requires.declared in
    let one : ℕ → Bool = λ k. leb (clause_need us (body_at s k)) (get_or us k 0) in
    let rest : ℕ → Bool = λ k. all (body_fits us) (templates_from s k) in
    let main = main_answers s c.requires.formed c.main.ensures.0 (counted us) c.need.ensures.0 in
    main_on x (leb_counted (clause_need us (main_of s)) 128 (omega arith))
    (rw (← main) (le-leb c.need.result 128 c.if-need-le-MOST_UNITS.true))
    (all_from_yields_List one c.all.new.self _ c.all.result c.all.ensures.ran
    (YieldsList-from_range 0 n (n - 0) refl refl) (λ x b q k. search (rules, tests))
    ∙ each_ranged rest one n (λ k l. fits_next x k (omega arith)) (λ k l. fits_last x k (omega arith)) (n - 0) 0
    (omega arith)
    ∙ sym (ap (all (body_fits us)) (from_first s)))

pub returns-else-need-le-MOST_UNITS : goal.returns-else-need-le-MOST_UNITS
unfolding counted
returns-else-need-le-MOST_UNITS c =
    let s = c.args.agreement.now in
    let us = c.args.units.now in
    let main = main_answers s c.requires.formed c.main.ensures.0 (counted us) c.need.ensures.0 in
    main_off c.requires.declared
    (rw main (leb_counted (clause_need us (main_of s)) 128 (omega arith)))
    (lt-leb c.need.result 128 c.if-need-le-MOST_UNITS.false)
