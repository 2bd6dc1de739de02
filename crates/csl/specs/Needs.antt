-- Paper 02, No. 7: what a residue needs. "Show that no residue reached from a sized agreement's start passes the main
-- clause's need": a unit needs what its clause does, a join 1 and both together, so that no residue has more units than
-- it needs.
use Rattle.std.specs.Prelude.{ℕ, ◌+◌}
use Rattle.std.proofs.Math.Option.{none, some}
use Rattle.csl.specs.Syntax.{Agreement}
use Rattle.csl.specs.Outcomes.{Residue, unit, both, Outcome, done, breach, running, stuck}
use Rattle.csl.specs.Places.{clause_at}
use Rattle.csl.specs.Sizes.{clause_need, units_of}

unfoldable pub residue_need : Agreement → Residue → ℕ
residue_need a (unit s p t e) = elim (clause_at a p) [
  | none ↦ 0
  | some f ↦ clause_need (units_of a.templates) f.clause
]
residue_need a (both j l r) = 1 + residue_need a l + residue_need a r

unfoldable pub outcome_need : Agreement → Outcome → ℕ
outcome_need a done = 0
outcome_need a (breach t ps) = 0
outcome_need a (running r) = residue_need a r
outcome_need a stuck = 0

-- what a proof by computation unfolds
unfoldable pub computes : Unit {0}
unfolding residue_need outcome_need
computes = tt
