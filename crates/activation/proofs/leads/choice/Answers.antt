-- A choice waits, is late and goes on with its else, or is taken and goes on with its `then`: its fate decides.
use Rattle.activation.proofs.Walks.{is_waits, is_late, is_taken, choice_waits, choice_late, choice_taken}
use native.Mathlib.Omega.{arith}
use mathlib.Core.Path.{refl, ◌∙◌}
use Prim.Native.Nat.{◌-◌}
use Rattle.arith.proofs.Ints.{read! }
use Rattle.arith.proofs.Numbers.{sizes}
use Rattle.csl.specs.Decode.{wait_at, expr}
use Rattle.waits.specs.Fates.{mode_at}
use Rattle.waits.proofs.Waits.{natural_asked, natural_is}
use borrow.Author.Rules.{rules}
use Rattle.activation.proofs.leads.choice.Goals as goal

-- (`grind`, and not `omega`, here and below: it also sees through a time that a branch on the event gives.)
pub moved-requires : goal.moved-requires
moved-requires c =
    let h = c.args.clause.now in
    let f = is_late (mode_at c.args.event) h.values.cells.now h.site.a
    (wait_at (expr (h.site.depth - 1)) h.site.place h.bytes.now 4) (c.becomes.ensures h.site.place)
    c.in-Late.is in
    let w = f.2 in
    (grind (arith, h.soon), grind sizes)

pub returns-in-Waits : goal.returns-in-Waits
returns-in-Waits c =
    let h = c.args.clause.now in
    let f = is_waits (mode_at c.args.event) h.values.cells.now h.site.a
    (wait_at (expr (h.site.depth - 1)) h.site.place h.bytes.now 4) (c.becomes.ensures h.site.place)
    c.in-Waits.is in
    choice_waits (mode_at c.args.event) h.agreement.now h.site.below h.bytes.now h.site.place h.params.now
    h.values.cells.now h.site.a h.site.depth c.requires.1 f

pub overflow_cast-result : goal.overflow_cast-result
overflow_cast-result c =
    let h = c.args.clause.now in natural_asked _ _ (grind (arith, h.soon)) c.moved.type_inv c.moved.ensures

pub returns-in-Late : goal.returns-in-Late
returns-in-Late c =
    let h = c.args.clause.now in
    let f = is_late (mode_at c.args.event) h.values.cells.now h.site.a
    (wait_at (expr (h.site.depth - 1)) h.site.place h.bytes.now 4) (c.becomes.ensures h.site.place)
    c.in-Late.is in
    let m = read! {z = c.in-Late.last} (search rules) in
    let n = natural_is _ _ (grind (arith, h.soon)) c.moved.type_inv (rw m at c.moved.ensures) in
    choice_late (mode_at c.args.event) h.agreement.now h.site.below h.bytes.now h.site.place h.params.now
    h.values.cells.now h.site.a h.site.depth c.requires.1 c.wait_end-c.ensures.0
    c.record_end-f.ensures.0 refl (omega arith, c.record_end-f.ensures.1) f.0 f.1
    (grind (arith, n.0), grind (arith, n.1))

pub returns-in-Taken : goal.returns-in-Taken
returns-in-Taken c =
    let h = c.args.clause.now in
    let f = is_taken (mode_at c.args.event) h.values.cells.now h.site.a
    (wait_at (expr (h.site.depth - 1)) h.site.place h.bytes.now 4) (c.becomes.ensures h.site.place)
    c.in-Taken.is in
    let m = read! {z = c.in-Taken.last} (search rules) in
    choice_taken (mode_at c.args.event) h.agreement.now h.site.below h.bytes.now h.site.place h.params.now
    h.values.cells.now h.site.a h.site.depth c.requires.1 (omega arith, c.record_end-f.ensures.1) (rw m f.2) _ f.3
    c.wait_end-c.ensures.0 c.record_end-f.ensures.0 f.0 (m ∙ f.1)
