-- The values of a reading that was read.
use Rattle.std.specs.Prelude.{List, ℤ, take}
use Rattle.readings.specs.declared.reading.Reading.{Reading}

unfoldable pub values_read : Reading → List ℤ
values_read r = take r.count r.cells
