-- They are the first cells.
use mathlib.Core.Path.{refl}
use Rattle.readings.specs.Values.{values_read}
use Rattle.readings.proofs.reading.Reading.values.Goals as goal

pub returns-clause-value : goal.returns-clause-value
unfolding values_read
returns-clause-value c = refl
