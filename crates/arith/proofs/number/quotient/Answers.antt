-- A divisor above 0 leaves no remainder below 0, which rounds down; one below 0 is turned with the dividend.
use Rattle.arith.proofs.Quotients.{straight, turned_quotient, nought}
use Rattle.arith.proofs.number.quotient.Goals as goal

pub returns-then-b-gt0 : goal.returns-then-b-gt0
returns-then-b-gt0 c = straight c.requires c.div_euclid.type_inv c.if-b-gt0.true c.div_euclid.ensures

pub returns-then-b-lt0 : goal.returns-then-b-lt0
returns-then-b-lt0 c =
    let d = c.div_euclid-then-b-lt0 in turned_quotient c.requires d.type_inv c.if-b-lt0.true d.ensures

pub returns-else-b-lt0 : goal.returns-else-b-lt0
returns-else-b-lt0 c = nought c.args.a c.requires.1 c.if-b-gt0.false c.if-b-lt0.false
