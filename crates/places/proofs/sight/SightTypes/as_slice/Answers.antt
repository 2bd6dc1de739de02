-- They are the first bytes.
use mathlib.Core.Path.{refl}
use Rattle.places.specs.Sight.{types_in}
use Rattle.places.proofs.sight.SightTypes.as_slice.Goals as goal

pub returns-clause-value : goal.returns-clause-value
unfolding types_in
returns-clause-value c = refl
