-- A body stands behind the head of its template, and may nest 22 deep.
use Rattle.formed.proofs.Bodies.{body_whole}
use Rattle.formed.proofs.body_formed.Goals as goal

pub returns : goal.returns
returns c = body_whole (c.body.ensures.1, c.requires) c.body.ensures.0 c.clause_formed.ensures
