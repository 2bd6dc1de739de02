-- A join of two sides that were read is a tree of one unit more, unless the rule for `or` forbids it.
use Rattle.state.proofs.Trees.{joined_is}
use Rattle.state.proofs.read_join.Goals as goal

pub returns : goal.returns
returns c =
    λ a last n cells sights t. joined_is a last n c.args.join cells t c.bitor-parties.ensures.0
    c.join_ok.ensures c.then_some.ensures
