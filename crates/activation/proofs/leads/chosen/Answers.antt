-- The condition's value decides which of the two clauses goes on.
use Rattle.activation.proofs.Walks.{chosen_then, chosen_else}
use native.Mathlib.Omega.{arith}
use mathlib.Core.Path.{sym, ◌∙◌}
use Rattle.activation.proofs.leads.chosen.Goals as goal

pub returns-then-is_true : goal.returns-then-is_true
returns-then-is_true c =
    let h = c.args.clause.now in
    λ m. chosen_then m h.agreement.now h.site.below h.bytes.now h.site.place h.params.now h.values.cells.now h.site.a
    h.site.depth c.requires.1 c.record_end-c.ensures.0 c.record_end-f.ensures.0 c.eval.ensures
    (sym c.is_true.ensures ∙ c.if-is_true.true) (omega arith, omega arith, omega arith)

pub returns : goal.returns
returns c =
    let h = c.args.clause.now in
    λ m. chosen_else m h.agreement.now h.site.below h.bytes.now h.site.place h.params.now h.values.cells.now h.site.a
    h.site.depth c.requires.1 c.record_end-c.ensures.0 c.record_end-f.ensures.0 c.eval.ensures
    (sym c.is_true.ensures ∙ c.if-is_true.false) (omega arith, omega arith)
