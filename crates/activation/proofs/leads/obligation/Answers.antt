-- An obligation waits, is late and breached at the later of A and last, or is taken and goes on with its `then`: its
-- fate decides.
use borrow.Author.Rules.{rules}
use Rattle.activation.proofs.Walks.{is_waits, is_late, is_taken, obligation_waits, obligation_late}
use Rattle.activation.proofs.Walks.{obligation_taken}
use Rattle.arith.proofs.Numbers.{sizes}
use native.Mathlib.Omega.{arith}
use mathlib.Core.Path.{refl, ◌∙◌}
use Prim.Native.Nat.{◌-◌}
use Rattle.arith.proofs.Ints.{read! }
use Rattle.csl.specs.Decode.{wait_at, expr}
use Rattle.waits.specs.Fates.{mode_at}
use Rattle.activation.proofs.leads.obligation.Goals as goal

pub returns-in-Waits : goal.returns-in-Waits
returns-in-Waits c =
    let h = c.args.clause.now in
    let f = is_waits (mode_at c.args.event) h.values.cells.now h.site.a
    (wait_at (expr (h.site.depth - 1)) h.site.place h.bytes.now 5) (c.becomes.ensures h.site.place)
    c.in-Waits.is in
    obligation_waits (mode_at c.args.event) h.agreement.now h.site.below h.bytes.now h.site.place h.params.now
    h.values.cells.now h.site.a h.site.depth c.requires.1 f

pub breach-requires : goal.breach-requires
breach-requires c =
    let h = c.args.clause.now in
    let f = is_late (mode_at c.args.event) h.values.cells.now h.site.a
    (wait_at (expr (h.site.depth - 1)) h.site.place h.bytes.now 5) (c.becomes.ensures h.site.place)
    c.in-Late.is in
    let w = f.2 in
    (omega (arith, h.soon), omega sizes)

pub returns-in-Late : goal.returns-in-Late
returns-in-Late c =
    let h = c.args.clause.now in
    let f = is_late (mode_at c.args.event) h.values.cells.now h.site.a
    (wait_at (expr (h.site.depth - 1)) h.site.place h.bytes.now 5) (c.becomes.ensures h.site.place)
    c.in-Late.is in
    let m = read! {z = c.in-Late.last} (search rules) in
    obligation_late (mode_at c.args.event) h.agreement.now h.site.below h.bytes.now h.site.place h.params.now
    h.values.cells.now h.site.a h.site.depth c.requires.1 f.0 f.1 c.breach.result (rw m at c.breach.ensures.0)
    c.breach.ensures.1

pub returns-in-Taken : goal.returns-in-Taken
returns-in-Taken c =
    let h = c.args.clause.now in
    let f = is_taken (mode_at c.args.event) h.values.cells.now h.site.a
    (wait_at (expr (h.site.depth - 1)) h.site.place h.bytes.now 5) (c.becomes.ensures h.site.place)
    c.in-Taken.is in
    let m = read! {z = c.in-Taken.last} (search rules) in
    let we = c.wait_end.ensures in
    obligation_taken (mode_at c.args.event) h.agreement.now h.site.below h.bytes.now h.site.place h.params.now
    h.values.cells.now h.site.a h.site.depth c.requires.1 (we.1, omega arith) (rw m f.2) _ f.3 we.0 refl f.0 (m ∙ f.1)
