-- The body's bytes are whole, so the walk gives the definition's need for it, counted up to 129, and no template
-- declares so much.
use Rattle.csl.specs.Sizes.{clause_need}
use lib.ListN.{get_or}
use Rattle.guards.specs.Walk.{body_at}
use Rattle.guards.proofs.Bodies.{body_formed, body_answers}
use Rattle.sizes.specs.Walk.{counted}
use Rattle.sizes.proofs.Filling.{leb_counted}
use Rattle.sizes.proofs.body_fits.Goals as goal

pub need-requires : goal.need-requires
need-requires c = body_formed c.args.agreement.now c.requires.formed c.requires.there c.body.ensures

pub returns : goal.returns
unfolding counted
returns c =
    let s = c.args.agreement.now in
    let us = c.args.units.now in
    let k = c.args.number in
    let n = body_answers s c.requires.formed c.requires.there c.body.ensures (counted us) c.need.ensures.0 in
    rw (n, c.declared.ensures) (leb_counted (clause_need us (body_at s k)) (get_or us k 0) (c.requires.declared.few k))
