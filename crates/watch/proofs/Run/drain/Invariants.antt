-- `drain`: turn after turn, what is put and what is left to write, together, stay the same.
use Rattle.std.proofs.Common.{length}
use Rattle.watch.specs.declared.Stage.TheVariants.{Ready}
use Rattle.watch.specs.Steps.{Turns}
use Rattle.watch.proofs.Run.drain.Given as goal

abbrev pub invariant-loop-self : goal.invariant-loop-self
invariant-loop-self l = Turns l.fn.self l.self Ready

abbrev pub decreases-loop-self : goal.decreases-loop-self
decreases-loop-self l = length l.self.hand.bytes
