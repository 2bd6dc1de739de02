-- The pairs of outcomes, one by one: fulfilled vanishes, a breach decides, two residues are joined.
use Rattle.residues.proofs.Reduces.{both_done, both_beside_done, both_breaches, both_breach_running}
use Rattle.residues.proofs.Reduces.{both_running_breach}
use Rattle.residues.proofs.join_both.Goals as goal

pub returns-in-Done-default : goal.returns-in-Done-default
returns-in-Done-default c = both_done c.args.out.now c.in-Done-default.is-0

pub returns-in_default-Done : goal.returns-in_default-Done
returns-in_default-Done c = both_beside_done c.args.out.now c.in_default-Done.is-1

pub returns-in_default-Done-2 : goal.returns-in_default-Done-2
returns-in_default-Done-2 c = both_beside_done c.args.out.now c.in_default-Done.is-1

pub returns-in-Breach-Breach : goal.returns-in-Breach-Breach
returns-in-Breach-Breach c =
    both_breaches c.args.out.now c.in-Breach-Breach.is-0 c.in-Breach-Breach.is-1
    c.earlier_breach.ensures

pub returns-in-Breach-Running : goal.returns-in-Breach-Running
returns-in-Breach-Running c =
    both_breach_running c.args.out.now c.in-Breach-Running.is-0 c.in-Breach-Running.is-1

pub returns-in-Running-Breach : goal.returns-in-Running-Breach
returns-in-Running-Breach c =
    both_running_breach c.args.out.now c.in-Running-Breach.is-0 c.in-Running-Breach.is-1
