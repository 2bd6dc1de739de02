use mathlib.Core.Path.{◌≡◌}
use Prim.Native.Nat.{◌-◌, ◌≤◌}
use lib.ListN.{length}
use Rattle.formed.specs.Tests.{arguments_whole}
use Rattle.formed.proofs.arguments_formed.Given as goal

-- the arguments before a are whole, so that those from a on decide
abbrev pub invariant-loop : goal.invariant-loop
invariant-loop l = (l.a ≤ length l.s)
    × (arguments_whole l.depth l.s 5 l.n l.blames ≡ arguments_whole l.depth l.s l.a (l.n - l.counter) l.blames)
