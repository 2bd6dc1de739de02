use Rattle.csl.specs.Bytes.{byte}
use mathlib.Core.Path.{◌≡◌}
use Prim.Native.Nat.{◌≤◌}
use lib.ListN.{drop, length}
use Rattle.typing.specs.Clauses.{arguments_in}
use Rattle.typing.proofs.names.Names.arguments_end.Given as goal

abbrev pub invariant-loop-value : goal.invariant-loop-value
invariant-loop-value l = (arguments_in (byte l.self.agreement.now 8) l.types l.values l.depth l.s l.i
    ≡ arguments_in (byte l.self.agreement.now 8) l.types (drop l.value-index l.values) l.depth l.s l.end)
    × (l.end ≤ length l.s)
