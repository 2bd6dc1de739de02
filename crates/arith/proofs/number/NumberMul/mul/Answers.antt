-- Two held numbers multiply to at most 10^18, which fits 64 bits, and `held` gives the definition's answer.
use Rattle.csl.specs.Numbers.{times}
use Rattle.arith.proofs.Numbers.{held_answer}
use Rattle.arith.proofs.number.NumberMul.mul.Goals as goal

pub returns : goal.returns
returns c =
    rw (← c.self.view_is, ← c.other.view_is) (held_answer times (c.self.invariant, c.other.invariant) c.held.ensures).0
