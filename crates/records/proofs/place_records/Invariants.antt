use Rattle.std.specs.Fn.{FnReturnsAt}
use Rattle.records.proofs.Listed.{Tested}
use Rattle.records.proofs.place_records.Given as goal

abbrev pub invariant-loop-place : goal.invariant-loop-place
invariant-loop-place g l = Tested (FnReturnsAt g.F.Fn l.test) l.bytes l.from l.place-index l.places l.a
