-- Two held numbers differ by at most 2,000,000,000, so nothing overflows, and `held` gives the definition's answer.
use Rattle.csl.specs.Numbers.{minus}
use Rattle.arith.proofs.Numbers.{held_answer}
use Rattle.arith.proofs.number.NumberSub.sub.Goals as goal

pub returns : goal.returns
returns c =
    rw (← c.self.view_is, ← c.other.view_is) (held_answer minus (c.self.invariant, c.other.invariant) c.held.ensures).0
