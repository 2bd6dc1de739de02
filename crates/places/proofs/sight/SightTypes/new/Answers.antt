-- None is none of the bytes.
use mathlib.Core.Path.{refl}
use Rattle.places.specs.Sight.{types_in}
use Rattle.places.proofs.sight.SightTypes.new.Goals as goal

pub returns : goal.returns
unfolding types_in
returns c = refl
