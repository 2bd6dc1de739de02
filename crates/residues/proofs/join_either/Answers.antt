-- The pairs of outcomes, one by one: fulfilled decides, a breach leaves the other side, two residues are joined.
use Rattle.residues.proofs.Reduces.{either_done, either_beside_done, either_breaches, either_breach_running}
use Rattle.residues.proofs.Reduces.{either_running_breach}
use Rattle.residues.proofs.join_either.Goals as goal
use Rattle.residues.proofs.join_either.Goals.{in_default-Done-via-in-Breach+in-Done}
use Rattle.residues.proofs.join_either.Goals.{in_default-Done-via-in-Running+in-Done}

pub returns-in-Done-default : goal.returns-in-Done-default
returns-in-Done-default c = either_done c.args.out.now c.in-Done-default.is-0

pub returns-in_default-Done : goal.returns-in_default-Done
returns-in_default-Done c = elim c.in_default-Done.branch [
  | in_default-Done-via-in-Breach+in-Done w ↦ either_beside_done c.args.out.now w.in_default-Done.is-1
  | in_default-Done-via-in-Running+in-Done w ↦ either_beside_done c.args.out.now w.in_default-Done.is-1
]

pub returns-in-Breach-Breach : goal.returns-in-Breach-Breach
returns-in-Breach-Breach c =
    either_breaches c.args.out.now c.in-Breach-Breach.is-0 c.in-Breach-Breach.is-1
    c.later_breach.ensures

pub returns-in-Breach-Running : goal.returns-in-Breach-Running
returns-in-Breach-Running c =
    either_breach_running c.args.out.now c.in-Breach-Running.is-0 c.in-Breach-Running.is-1

pub returns-in-Running-Breach : goal.returns-in-Running-Breach
returns-in-Running-Breach c =
    either_running_breach c.args.out.now c.in-Running-Breach.is-0 c.in-Running-Breach.is-1
