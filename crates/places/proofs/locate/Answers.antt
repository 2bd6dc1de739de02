-- Records follow each other, so the first one that ends behind the place holds it, or none does.
use mathlib.Core.Path.{refl}
use native.Mathlib.Omega.{arith}
use Rattle.places.proofs.Descents.{main_stands, main_found, finds_none, finds_some}
use Rattle.std.proofs.Common.{rules, tests}
use Rattle.std.proofs.lemmas.Iterator.{YieldsList-from_range, first_from_find}
use Prim.Native.Nat.{◌≤◌, ◌<◌}
use Rattle.csl.specs.Bytes.{record_end}
use Rattle.records.specs.Index.{template_place}
use Rattle.places.proofs.Descents.{FirstBehind, none_behind, one_behind}
use Rattle.places.proofs.locate.Goals as goal
use Rattle.places.proofs.locate.Goals.{After-find}

pub descend-requires : goal.descend-requires
descend-requires c =
    main_stands c.main.ensures.1 c.args.place c.requires c.main_place-m.ensures.0 c.main.ensures.0 c.new-sight.ensures

pub returns-in_err-wait : goal.returns-in_err-wait
returns-in_err-wait c =
    rw c.from_residual.ensures (finds_none _ _ _ (main_found c.main.ensures.1 c.args.place c.requires
    c.main_place-m.ensures.0 c.main.ensures.0 c.new-sight.ensures c.if-m-place.true c.descend.ensures)
    c.in_err-wait.was)

pub returns-then-m-place : goal.returns-then-m-place
returns-then-m-place c =
    finds_some _ (record { wait = c.in_ok-wait.wait; params = 0; sight = c.descend.new.sight })
    (main_found c.main.ensures.1 c.args.place c.requires c.main_place-m.ensures.0 c.main.ensures.0
    c.new-sight.ensures c.if-m-place.true c.descend.ensures) refl c.in_ok-wait.was

-- the first template that ends behind the place
first_is : (c : After-find) → FirstBehind c.args.agreement.now c.args.place c.template_count-n.result c.find.result
first_is c =
    let n = c.template_count-n.result in
    let A = c.args.agreement.now in
    rw c.bytes-bytes.ensures.0 at (first_from_find _ _ c.find.result
    (λ k. c.args.place < record_end c.bytes-bytes.result.now (template_place A k))
    (λ k. record_end c.bytes-bytes.result.now (template_place A k) ≤ c.args.place) c.find.ensures.ran
    (YieldsList-from_range 0 n n refl (omega arith)) (λ x q k. search (rules, tests)) (λ x q k. search (rules, tests)))

pub returns-in_err-number : goal.returns-in_err-number
returns-in_err-number c =
    rw c.from_residual-in_err-number.ensures (none_behind c.template_count-n.ensures.2 c.args.place
    c.main_place-m.ensures.0 c.if-m-place.false c.template_count-n.ensures.0 _
    (first_is (goal.at.returns-in_err-number c).After-find) c.in_err-number.was)

-- that there is one says its number
pub invariant_of-in_template : goal.invariant_of-in_template
invariant_of-in_template c =
    record {
      there = (one_behind c.template_count-n.ensures.2 c.args.place c.main_place-m.ensures.0 c.if-m-place.false
          c.template_count-n.ensures.0 _ (first_is (goal.at.invariant_of-in_template c).After-find)
          c.in_ok-number.was).0;
    }

pub returns : goal.returns
returns c =
    (one_behind c.template_count-n.ensures.2 c.args.place c.main_place-m.ensures.0 c.if-m-place.false
    c.template_count-n.ensures.0 _ (first_is (goal.at.returns c).After-find) c.in_ok-number.was).1 _
    c.in_template.ensures
