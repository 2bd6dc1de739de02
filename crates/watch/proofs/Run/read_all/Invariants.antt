-- `read_all`: what is written and what is left to write, together, are all that was to be written; each turn numbers at
-- most as many lines as the buffer has bytes.
use Rattle.std.proofs.Common.{◌≤◌, ◌+◌, ◌*◌, true}
use Rattle.watch.specs.Runs.{Fresh, Serves}
use Rattle.watch.proofs.Run.read_all.Given as goal

abbrev pub invariant-turns : goal.invariant-turns
invariant-turns g l = record {
  fresh : Fresh l.self;
  numbered : l.self.line ≤ 1 + 65_536 * l.counter;
  serves : Serves l.fn.self l.self (g.R.Read.remaining l.fn.input) (g.R.Read.remaining l.input)
      (g.W.Write.contents l.fn.output) (g.W.Write.contents l.output) true;
}
