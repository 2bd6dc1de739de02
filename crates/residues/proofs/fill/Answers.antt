-- All is cleared, and the source is copied to the front.
use Rattle.residues.proofs.Cells.{padded_is}
use Rattle.residues.proofs.fill.Goals as goal

pub returns : goal.returns
returns c = padded_is c.args.dst.now c.args.src.now (c.fill.ensures.after (λ y e. e)) c.copy.ensures
