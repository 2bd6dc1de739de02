-- Two pairs of bytes, the second with the weight 65,536; a byte that is not there reads as 0.
use borrow.Author.Rules.{rules}
use native.Mathlib.Omega.{arith}
use Rattle.csl.specs.Bytes.{le32}
use Rattle.octets.proofs.Bytes.{le32_past}
use Rattle.octets.proofs.unsigned32.Goals as goal

pub returns-then-i-s : goal.returns-then-i-s
unfolding le32
returns-then-i-s c = search rules

pub returns-else-i-s : goal.returns-else-i-s
returns-else-i-s c =
    omega (arith, le32_past c.args.s.now c.args.i c.if-i-s.false)
