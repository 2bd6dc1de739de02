-- The main clause may nest 23 deep and a body 22, and both must be whole.
use Rattle.formed.proofs.Bodies.{mains}
use Rattle.formed.proofs.clauses_formed.Goals as goal

pub returns-then-clause_formed : goal.returns-then-clause_formed
returns-then-clause_formed c = search mains

pub returns-else-clause_formed : goal.returns-else-clause_formed
returns-else-clause_formed c = search mains
