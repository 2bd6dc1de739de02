-- The body of an accepted template is typed under its values, so the descent finds what the definition finds.
use mathlib.Core.Path.{◌≡◌, ap, ◌∙◌}
use native.Mathlib.Omega.{arith}
use Rattle.csl.specs.Decode.{tys_of}
use Rattle.records.specs.Index.{head_at}
use Rattle.places.proofs.Descents.{body_stands, body_found, finds_none, finds_some}
use Rattle.places.specs.Sight.{types_in}
use Rattle.places.proofs.in_template.Goals as goal
use Rattle.places.proofs.in_template.Goals.{After-body_span-base}

-- the sight at the template's body has its values
sight_is : (c : After-body_span-base) → tys_of (types_in c.extend.new.self)
    ≡ (head_at c.args.template.now.agreement.now c.args.template.now.number).values
sight_is c = ap tys_of (rw c.new-sight.ensures at c.extend.ensures) ∙ c.value_types.ensures.0.typed

pub extend-requires : goal.extend-requires
extend-requires c = rw c.new-sight.ensures (omega (arith, c.value_types.ensures.0.few))

pub descend-requires : goal.descend-requires
descend-requires c =
    body_stands c.requires c.args.template.now.there c.body_span-base.ensures.0 c.body.ensures.0
    (sight_is (goal.at.descend-requires c).After-body_span-base)

pub returns-in_err-wait : goal.returns-in_err-wait
returns-in_err-wait c =
    rw c.from_residual.ensures (finds_none _ _ _
    (body_found c.requires c.args.template.now.there c.body_span-base.ensures.0 c.body.ensures.0
    (sight_is (goal.at.returns-in_err-wait c).After-body_span-base) c.descend.ensures) c.in_err-wait.was)

pub returns : goal.returns
returns c =
    let n = c.param_count.result in
    finds_some _ (record { wait = c.in_ok-wait.wait; params = n; sight = c.descend.new.sight })
    (body_found c.requires c.args.template.now.there c.body_span-base.ensures.0 c.body.ensures.0
    (sight_is (goal.at.returns c).After-body_span-base) c.descend.ensures) c.param_count.ensures.0 c.in_ok-wait.was
