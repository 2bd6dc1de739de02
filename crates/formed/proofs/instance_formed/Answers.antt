-- The template that is named says how many arguments and blames there must be.
use Rattle.formed.proofs.Clauses.{instances}
use Rattle.formed.proofs.instance_formed.Goals as goal
use Rattle.formed.proofs.instance_formed.Goals.{then-s-lt5-via-then-s-lt5}
use Rattle.formed.proofs.instance_formed.Goals.{then-s-lt5-via-else-s-lt5+then-number-template_count}

pub returns-then-s-lt5 : goal.returns-then-s-lt5
returns-then-s-lt5 c = elim c.then-s-lt5.branch [
  | then-s-lt5-via-then-s-lt5 w ↦ search instances
  | then-s-lt5-via-else-s-lt5+then-number-template_count w ↦ search instances
]

pub returns : goal.returns
returns c = search instances
