-- `first_record`: all bytes that were to come are at hand or still to come, and each turn brings one or the end.
use Rattle.std.proofs.Common.{◌≡◌, ◌≤◌, ◌-◌, [], false, cond, length}
use Rattle.watch.specs.Runs.{Carries}
use Rattle.watch.proofs.first_record.Given as goal

abbrev pub invariant-reads : goal.invariant-reads
invariant-reads g l = record {
  within : length l.hand.bytes ≤ 65_536;
  capacity : l.hand.capacity ≡ 65_536;
  carried : Carries (g.R.Read.remaining l.fn.input) false [] (g.R.Read.remaining l.input) l.hand.ended l.hand.bytes;
}

abbrev pub decreases-reads : goal.decreases-reads
decreases-reads g l = cond l.hand.ended 0 (65_537 - length l.hand.bytes)
