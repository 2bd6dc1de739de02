use mathlib.Core.Path.{◌≡◌}
use mathlib.Core.List.{◌++◌}
use lib.ListN.{take}
use Rattle.places.specs.Sight.{types_in}
use Rattle.places.proofs.sight.SightTypes.extend.Given as goal

abbrev pub invariant-loop-i : goal.invariant-loop-i
invariant-loop-i l = types_in l.self ≡ types_in l.initial.self ++ take l.i l.types
