use Rattle.activation.proofs.Arguments.{Argued}
use mathlib.Core.Path.{◌≡◌}
use lib.ListN.{length}
use Rattle.activation.proofs.instances.arguments.Given as goal

abbrev pub invariant-loop : goal.invariant-loop
invariant-loop l = (length l.given.items ≡ l.counter)
    × Argued l.values l.depth l.s l.end l.given.items l.counter l.at
