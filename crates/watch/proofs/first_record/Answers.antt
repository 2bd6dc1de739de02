-- `first_record` is right: all bytes that were to come are at hand or still to come, and each turn brings one or the
-- end.
use Rattle.std.proofs.Common.{rules}
use Rattle.stream.specs.Hands.{Brings}
use Rattle.watch.proofs.Opened.{found_within, waits_open, opens_record, opens_end, fewer}
use Rattle.watch.proofs.first_record.Goals as goal

pub returns-in-Record-clause-within : goal.returns-in-Record-clause-within
returns-in-Record-clause-within g c =
    let at = c.reads in
    (found_within at.hand c.next.ensures.next c.in-Record.is, at.invariant.within, at.invariant.capacity)

pub returns-in-Record-clause-opens : goal.returns-in-Record-clause-opens
returns-in-Record-clause-opens g c =
    opens_record c.reads.hand c.next.ensures.next c.reads.invariant.carried c.in-Record.is

pub returns-in-End-clause-opens : goal.returns-in-End-clause-opens
returns-in-End-clause-opens g c = opens_end c.reads.hand c.next.ensures.next c.reads.invariant.carried c.in-End.is

pub reads-smaller : goal.reads-smaller
reads-smaller g c =
    let at = c.reads.hand in
    let remaining = g.R.Read.remaining in
    let came : Brings at.bytes c.wait.new.self (remaining c.reads.input) (remaining c.wait.new.input) = search rules in
    fewer at c.wait.new.self (waits_open at c.next.ensures.next c.in-Wait.is) (c.next.ensures.waits c.in-Wait.is) came
