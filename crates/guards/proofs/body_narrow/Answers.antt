-- The body's bytes are whole, so the walk gives the definition's answer for it.
use Rattle.csl.specs.Widths.{all_narrow}
use Rattle.guards.proofs.Bodies.{body_formed, body_answers}
use Rattle.guards.proofs.body_narrow.Goals as goal

pub all_narrow-requires : goal.all_narrow-requires
all_narrow-requires c = body_formed c.args.agreement.now c.requires.formed c.requires.there c.body.ensures

pub returns : goal.returns
returns c =
    body_answers c.args.agreement.now c.requires.formed c.requires.there c.body.ensures (all_narrow c.args.widths.now)
    c.all_narrow.ensures
