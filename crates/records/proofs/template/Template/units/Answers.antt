-- The template's place is known, and behind the declared parties of one of kind 4 stand its units.
use Rattle.records.proofs.Index.{units_read}
use Rattle.records.proofs.Units.{units_none}
use Rattle.records.proofs.template.Template.units.Goals as goal

pub returns-then-template_kind-eq4 : goal.returns-then-template_kind-eq4
returns-then-template_kind-eq4 c =
    let x = c.place.ensures in
    let read = rw c.bytes-bytes.ensures.0 at c.byte.ensures.0 in
    let four = c.if-template_kind-eq4.true in
    (units_read (x.2, c.args.self.now.there) x.0 c.value_count-n.ensures.is read c.template_kind.ensures.0 four, x.2)

pub returns-else-template_kind-eq4 : goal.returns-else-template_kind-eq4
returns-else-template_kind-eq4 c =
    let kind = c.template_kind.ensures in
    (units_none _ kind.0 c.if-template_kind-eq4.false, kind.1)
