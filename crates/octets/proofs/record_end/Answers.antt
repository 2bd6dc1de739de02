-- The end is where the length says, or the end of the bytes where that comes first; it never lies before the record.
use native.Mathlib.Omega.{arith}
use Rattle.csl.specs.Bytes.{record_end}
use Rattle.octets.proofs.record_end.Goals as goal

pub returns : goal.returns
unfolding record_end
returns c = (omega arith, omega arith, omega arith)

pub returns-then-a-s : goal.returns-then-a-s
unfolding record_end
returns-then-a-s c = (omega arith, omega arith, omega arith)
