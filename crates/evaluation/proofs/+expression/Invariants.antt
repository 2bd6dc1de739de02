use Prim.Native.Nat.{◌+◌, ◌*◌}
use Rattle.evaluation.proofs.+expression.Given as goal

abbrev pub decreases-compound : goal.decreases-compound
decreases-compound l = 2 * l.depth

abbrev pub decreases-number : goal.decreases-number
decreases-number l = 2 * l.depth + 1
