-- The types in sight, as bytes.
use Rattle.std.specs.Prelude.{List, ℕ, take}
use Rattle.places.specs.declared.sight.SightTypes.{SightTypes}

unfoldable pub types_in : SightTypes → List ℕ
types_in s = take s.count s.bytes
