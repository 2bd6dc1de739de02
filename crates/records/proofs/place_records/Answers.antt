-- After each record it is told of those before it whether they pass, and where they begin.
use Prim.Native.Nat.{◌<◌}
use lib.ListN.{length}
use native.Mathlib.Omega.{arith}
use Rattle.std.proofs.lemmas.Fn.{says_at}
use Rattle.records.proofs.Listed.{none_tested, one_tested, one_fails, all_tested}
use Rattle.records.proofs.place_records.Goals as goal

pub loop-place-init : goal.loop-place-init
loop-place-init g c = none_tested c.args.places.now c.requires.begins

pub returns-then-not-test-clause-answer : goal.returns-then-not-test-clause-answer
returns-then-not-test-clause-answer g c =
    one_fails c.loop-place.invariant c.record_end-e.ensures.0 (length c.args.places.now)
    (says_at g.F.Fn c.test.ensures c.if-not-test.true) c.loop-place-test.true

pub loop-place-preserved : goal.loop-place-preserved
loop-place-preserved g c =
    let here : c.loop-place.place-index < length c.loop-place.places = omega arith in
    one_tested c.loop-place.invariant c.record_end-e.ensures.0 (says_at g.F.Fn c.test.ensures c.if-not-test.false) here

pub returns-clause-answer : goal.returns-clause-answer
returns-clause-answer g c = all_tested c.loop-place.invariant (omega arith)
