-- The range has both its ends, as the definition has.
use Rattle.std.proofs.Common.{rules, tests}
use Rattle.csl.specs.Decode.{between}
use Rattle.records.proofs.between.Goals as goal

pub returns : goal.returns
unfolding between
returns c = let e = c.new.ensures in rw (c.contains.ensures.value, e.start, e.end, e.exhausted) (search (rules, tests))
