-- The later of a natural time and any other is a natural time.
use Rattle.waits.proofs.Waits.{moved_is}
use Rattle.activation.proofs.leads.moved.Goals as goal

pub returns : goal.returns
returns c = moved_is c.args.a c.requires.0 c.ranges.last c.max.type_inv c.max.ensures.value c.requires.1
