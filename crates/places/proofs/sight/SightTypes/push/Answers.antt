-- The type stands behind those that were there.
use native.Mathlib.Numerals.{add-one}
use native.Mathlib.Omega.{arith}
use lib.ListN.{length-set}
use lib.Seq.{take-suc-set}
use Rattle.places.specs.Sight.{types_in}
use Rattle.places.proofs.Sights.{types_count}
use Rattle.places.proofs.sight.SightTypes.push.Goals as goal

pub bounds-self-self : goal.bounds-self-self
bounds-self-self c = omega (arith, types_count c.args.self.now, c.requires)

pub invariant_of-self : goal.invariant_of-self
invariant_of-self c =
    let s = c.args.self.now in
    record {
      few = omega (arith, types_count s, c.requires);
      room = omega (arith, length-set s.bytes s.count c.args.ty, s.room);
    }

pub returns : goal.returns
unfolding types_in
returns c =
    let s = c.args.self.now in
    rw (add-one s.count) (take-suc-set s.bytes s.count c.args.ty (omega (arith, types_count s, c.requires, s.room)))
