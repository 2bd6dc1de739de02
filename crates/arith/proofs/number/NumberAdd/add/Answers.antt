-- Two held numbers add to at most 2,000,000,000, so nothing overflows, and `held` gives the definition's answer.
use Rattle.csl.specs.Numbers.{plus}
use Rattle.arith.proofs.Numbers.{held_answer}
use Rattle.arith.proofs.number.NumberAdd.add.Goals as goal

pub returns : goal.returns
returns c =
    rw (← c.self.view_is, ← c.other.view_is) (held_answer plus (c.self.invariant, c.other.invariant) c.held.ensures).0
