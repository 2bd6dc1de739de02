-- At each turn the bits are those of the parties that the first blames stand for.
use Rattle.units.proofs.Blames.{blamed_first, blamed_more, blamed_last}
use Rattle.units.proofs.blame_bytes.Goals as goal

pub loop-b-init : goal.loop-b-init
loop-b-init c = rw c.empty-found.ensures (blamed_first c.args.s.now c.args.params.now)

pub loop-b-preserved : goal.loop-b-preserved
loop-b-preserved c =
    blamed_more c.args.s.now c.args.params.now c.loop-b-test.true
    c.from.ensures c.stands_for.ensures c.of.ensures.0 c.bitor_assign.ensures.after.0 c.loop-b.invariant

pub returns : goal.returns
returns c = blamed_last c.args.s.now c.args.params.now c.loop-b-test.false c.loop-b.invariant
