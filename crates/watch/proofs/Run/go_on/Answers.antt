-- `go_on` is right: the agreement's line is written, and if the start was accepted the readings' lines behind it.
use Rattle.std.proofs.Common.{rules, ◌≡◌, true, false, ◌++◌}
use Rattle.stream.specs.Records.{records_of}
use Rattle.watch.proofs.Begun.{refused_writes, begun_writes, read_on}
use Rattle.watch.proofs.Run.go_on.Goals as goal

pub returns-then-not-goes : goal.returns-then-not-goes
returns-then-not-goes g c =
    let contents = g.W.Write.contents in
    let after = c.write.new.output in
    let stops : c.start-goes.result ≡ false = search rules in
    refused_writes c.start-goes.ensures c.requires.0.empty (g.R.Read.remaining c.args.input.now)
    c.args.self.now.hand.ended (contents c.args.output.now) (contents after) (contents after)
    c.in_ok-write.ensures.writes stops (λ bytes. records_of (c.args.self.now.hand.bytes ++ bytes))

pub returns : goal.returns
returns g c =
    let contents = g.W.Write.contents in
    let after = c.write.new.output in
    let continues : c.start-goes.result ≡ true = search rules in
    let coming = g.R.Read.remaining c.args.input.now in
    begun_writes c.start-goes.ensures c.requires.0.empty coming c.args.self.now.hand.ended
    (contents c.args.output.now) (contents after) (contents c.read_all.new.output) c.in_ok-write.ensures.writes
    continues (λ bytes. records_of (c.args.self.now.hand.bytes ++ bytes)) c.read_all.result
    (read_on c.start-goes.ensures c.in_ok-write.ensures.clears coming (contents after)
    (contents c.read_all.new.output) c.read_all.result c.read_all.ensures)
