-- `record_size` is right: the larger of what the field says and 2.
use Rattle.std.proofs.Common.{arith}
use Rattle.stream.specs.Records.{size_of}
use Rattle.stream.proofs.record_size.Goals as goal

pub returns-clause-size : goal.returns-clause-size
unfolding size_of
returns-clause-size c = omega (arith, c.unsigned16.ensures.0)
