-- `read_all` is right: what is written and what is left to write, together, are all that was to be written.
use Rattle.std.proofs.Common.{arith}
use Rattle.watch.proofs.Serving.{serves_then, serves_on}
use Rattle.watch.proofs.Run.read_all.Goals as goal

pub turns-preserved : goal.turns-preserved
turns-preserved g c = record {
  fresh = c.in_ok-serve.ensures.fresh;
  numbered = omega (arith, c.in_ok-serve.ensures.numbered, c.turns.invariant.numbered);
  serves = serves_then (g.W.Write.contents c.args.output.now) (g.W.Write.contents c.turns.output)
      (g.W.Write.contents c.serve.new.output) c.turns.invariant.serves
      (serves_on c.if-not-branch.false c.in_ok-serve.ensures.serves);
}
