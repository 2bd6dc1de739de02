-- No quotient is larger than its dividend, so it is held as the dividend is.
use Rattle.arith.proofs.Quotients.{quotient_answer}
use Rattle.arith.proofs.number.NumberDiv.div.Goals as goal

pub invariant_of-result : goal.invariant_of-result
invariant_of-result c =
    let q = c.quotient in (quotient_answer (c.self.invariant, c.other.invariant) q.type_inv q.ensures).1

pub returns : goal.returns
returns c =
    let q = c.quotient in
    rw (← c.self.view_is, ← c.other.view_is)
    (quotient_answer (c.self.invariant, c.other.invariant) q.type_inv q.ensures).0
