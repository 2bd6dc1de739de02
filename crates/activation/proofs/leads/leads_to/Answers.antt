-- The kind decides which rule it is, and a record that acts has one of four.
use mathlib.Core.Path.{refl, sym}
use Rattle.waits.specs.Fates.{mode_at}
use Rattle.activation.proofs.Walks.{leads_body, acting_last}
use Rattle.evaluation.proofs.Evaluates.{room}
use native.Mathlib.Omega.{arith}
use Rattle.records.proofs.Trees.{kind_obligation, kind_choice, kind_if, kind_instance}
use Rattle.activation.proofs.leads.leads_to.Goals as goal

pub obligation-requires : goal.obligation-requires
obligation-requires c = (room c.args.clause.now.bytes.now (sym c.requires.is_whole) refl, c.requires.deep)

pub choice-requires : goal.choice-requires
choice-requires c = (room c.args.clause.now.bytes.now (sym c.requires.is_whole) refl, c.requires.deep)

pub chosen-requires : goal.chosen-requires
chosen-requires c = (room c.args.clause.now.bytes.now (sym c.requires.is_whole) refl, c.requires.deep)

pub instance-requires : goal.instance-requires
instance-requires c = c.args.clause.now.few

pub returns-in-17 : goal.returns-in-17
returns-in-17 c =
    let h = c.args.clause.now in
    let m = mode_at c.args.event in
    leads_body m h.agreement.now h.site.below h.bytes.now h.site.place h.params.now h.values.cells.now
    h.site.a h.site.depth c.requires c.kind.ensures (kind_obligation c.in-17.is) c.obligation.result
    c.obligation.ensures

pub returns-in-18 : goal.returns-in-18
returns-in-18 c =
    let h = c.args.clause.now in
    let m = mode_at c.args.event in
    leads_body m h.agreement.now h.site.below h.bytes.now h.site.place h.params.now h.values.cells.now
    h.site.a h.site.depth c.requires c.kind.ensures (kind_choice c.in-18.is) c.choice.result c.choice.ensures

pub returns-in-19 : goal.returns-in-19
returns-in-19 c =
    let h = c.args.clause.now in
    let m = mode_at c.args.event in
    leads_body m h.agreement.now h.site.below h.bytes.now h.site.place h.params.now h.values.cells.now
    h.site.a h.site.depth c.requires c.kind.ensures (kind_if c.in-19.is) c.chosen.result (c.chosen.ensures m)

pub returns-in_default : goal.returns-in_default
returns-in_default c =
    let h = c.args.clause.now in
    let m = mode_at c.args.event in
    leads_body m h.agreement.now h.site.below h.bytes.now h.site.place h.params.now h.values.cells.now
    h.site.a h.site.depth c.requires c.kind.ensures
    (kind_instance (acting_last c.requires c.kind.ensures (omega arith) (omega arith) (omega arith)))
    c.instance.result
    (c.instance.ensures m h.site.place h.params.now h.values.cells.now h.site.a h.site.depth)
