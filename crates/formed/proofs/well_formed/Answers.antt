-- What is listed and whole is well formed, and the agreement is that of the bytes.
use Rattle.std.proofs.Common.{rules}
use Rattle.formed.proofs.Bodies.{kept_where_whole}
use Rattle.formed.proofs.well_formed.Goals as goal

pub returns : goal.returns
returns c =
    kept_where_whole c.args.bytes.now c.read.result c.filter.result c.read.ensures c.filter.ensures
    (λ x b h. search rules)
