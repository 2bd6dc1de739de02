-- A record of any other kind decodes to a clause that does nothing, at every depth.
use mathlib.Core.Bool.{false≢true, not}
use mathlib.Core.Path.{ap, sym, ◌∙◌}
use native.Mathlib.Omega.{arith}
use Rattle.activation.proofs.Walks.{ended}
use Rattle.activation.proofs.leads.ends.Goals as goal
use Rattle.activation.proofs.leads.ends.Goals.{in-17-to-22, in_default, in_default-2}

pub returns : goal.returns
returns c = elim c.if-matches.branch [
  | in-17-to-22 w ↦ λ h. absurd (false≢true (sym (ap not w.matches-is) ∙ h))
  | in_default w ↦ λ h. ended c.args.s.now c.kind.ensures (λ l u. omega arith)
  | in_default-2 w ↦ λ h. ended c.args.s.now c.kind.ensures (λ l u. omega arith)
]
