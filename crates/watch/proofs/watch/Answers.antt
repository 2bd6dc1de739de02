-- `watch` is right: the first record is the agreement's, and the table begins as zeros.
use Rattle.std.proofs.Common.{refl, ap, ◌∙◌, ◌≡◌, take, length, arith}
use Rattle.std.proofs.lemmas.List.{take_at, length-take}
use Rattle.watch.specs.Watched.{zeros}
use Rattle.watch.proofs.Opened.{opened_writes}
use Rattle.watch.proofs.watch.Goals as goal

pub returns : goal.returns
unfolding zeros
returns g c =
    let takes = c.in_ok-takes.takes in
    let found = c.in_ok-takes.ensures in
    let copied = c.copy_from_slice in
    let bytes = c.bytes in
    let long : length copied.new.self ≡ takes = omega (
      arith,
      ap length copied.ensures.after,
      ap length bytes.ensures.bytes,
      length-take takes bytes.result.now,
      found.within.0,
    ) in
    opened_writes (g.W.Write.contents c.args.output.now) (g.W.Write.contents c.go_on.new.output) found.opens
    c.take.new.self (take_at copied.new.self _ takes long ∙ copied.ensures.after ∙ ap (take takes) bytes.ensures.bytes)
    refl c.take.ensures.bytes c.take.ensures.ended c.go_on.result c.go_on.ensures
