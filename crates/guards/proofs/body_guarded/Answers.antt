-- The body's bytes are whole, so the walk gives the definition's answer for it.
use Rattle.csl.specs.Guards.{guarded_in}
use Rattle.guards.proofs.Bodies.{body_formed, body_answers}
use Rattle.guards.proofs.body_guarded.Goals as goal

pub guarded_in-requires : goal.guarded_in-requires
guarded_in-requires c = body_formed c.args.agreement.now c.requires.formed c.requires.there c.body.ensures

pub returns : goal.returns
returns c =
    body_answers c.args.agreement.now c.requires.formed c.requires.there c.body.ensures (guarded_in c.args.number)
    c.guarded_in.ensures
