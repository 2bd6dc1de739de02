-- A forecast wait is late, so an obligation is breached at the later of its time and its last minute.
use mathlib.Core.Path.{sym, ◌∙◌}
use borrow.Author.Rules.{rules}
use Rattle.arith.proofs.Ints.{read! }
use Rattle.activation.specs.Leads.{BreaksAhead}
use Rattle.activation.proofs.Walks.{breaks_ahead}
use Rattle.activation.proofs.leads.breach_ahead.Goals as goal

pub returns-then-not-is_record : goal.returns-then-not-is_record
unfolding BreaksAhead
returns-then-not-is_record c = tt

pub returns : goal.returns
returns c =
    let m = read! {z = c.last.result} (search rules) in
    breaks_ahead c.args.s.now c.args.params.now c.args.values.cells.now c.args.a
    (sym c.is_record.ensures ∙ c.if-not-is_record.false) c.kind.ensures c.if-kind-ne17.false c.last.ensures.is
    c.breach.result (rw m at c.breach.ensures)
