-- Each kind of clause has its own step, and the kinds without clause parts have none.
use Rattle.places.proofs.Steps.{typed_room, absent_low, absent_high}
use Rattle.places.specs.Locate.{StepAt}
use native.Mathlib.Omega.{arith}
use Rattle.places.specs.Sight.{types_in}
use Rattle.places.proofs.Search.step_down.Goals as goal

pub from_sides-requires : goal.from_sides-requires
from_sides-requires c =
    (typed_room c.requires.typed, c.kind-k.ensures, omega arith, omega arith, c.requires.fits)

pub returns-in_default : goal.returns-in_default
unfolding StepAt
returns-in_default c =
    record {
      each = λ d t. absent_low c.args.self.now.place (types_in c.args.sight.now) t c.kind-k.ensures (omega arith);
    }

pub returns-in_default-2 : goal.returns-in_default-2
unfolding StepAt
returns-in_default-2 c =
    record {
      each = λ d t. absent_high c.args.self.now.place (types_in c.args.sight.now) t c.kind-k.ensures (omega arith);
    }
