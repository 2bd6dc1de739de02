-- In a whole instance the blames are its last bytes, and its template's head says how many.
use Rattle.units.proofs.Blames.{named_known, named_room, named_parties}
use native.Mathlib.Omega.{arith}
use Rattle.units.proofs.instance_parties.Goals as goal

pub invariant_of-template : goal.invariant_of-template
invariant_of-template c = record { there = named_known c.requires.0 c.requires.1 c.byte-number.ensures.0 }

pub overflow_sub-n : goal.overflow_sub-n
overflow_sub-n c =
    omega (arith, named_room c.requires.0 c.requires.1 c.byte-number.ensures.0 c.param_count.ensures.0)

pub returns : goal.returns
returns c =
    named_parties c.requires.0 c.requires.1 c.byte-number.ensures.0 c.param_count.ensures.0
    (c.declared_bits.ensures.0, c.declared_bits.ensures.1) c.blame_bytes.ensures.0
    (rw c.of_bits-declared.ensures at c.bitor.ensures.0)
