-- In a typed clause the wanted type is there and what `then` sees is at most 16.
use mathlib.Core.Path.{ap}
use native.Mathlib.Omega.{arith}
use lib.ListN.{length, length-append}
use Rattle.places.proofs.Sights.{named, sight_room, sight_is}
use Rattle.places.specs.Sight.{types_in}
use Rattle.places.proofs.Search.then_sight.Goals as goal

pub overflow_sub-wanted : goal.overflow_sub-wanted
overflow_sub-wanted c = omega (arith, named (types_in c.args.sight.now) c.requires)

pub reading_types-types-requires : goal.reading_types-types-requires
reading_types-types-requires c = (named (types_in c.args.sight.now) c.requires).1

pub extend-requires : goal.extend-requires
extend-requires c = omega (arith, sight_room (types_in c.args.sight.now) c.requires c.reading_types-types.ensures.0)

pub push-requires : goal.push-requires
push-requires c = omega (
  arith,
  sight_room (types_in c.args.sight.now) c.requires c.reading_types-types.ensures.0,
  ap length c.extend.ensures,
  length-append (types_in c.args.sight.now) c.reading_types-types.result.now,
)

pub returns : goal.returns
returns c =
    sight_is (types_in c.args.sight.now) c.requires c.reading_types-types.ensures.0
    c.extend.ensures (rw c.from.ensures at c.push.ensures)
