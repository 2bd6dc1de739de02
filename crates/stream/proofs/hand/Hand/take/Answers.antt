-- `take` is right: what is left begins n bytes further on.
use Rattle.std.proofs.Common.{ap, ◌∙◌}
use Rattle.std.proofs.Common.{drop}
use Rattle.stream.proofs.Hands.{left_of}
use Rattle.stream.proofs.hand.Hand.take.Goals as goal

pub returns-clause-bytes : goal.returns-clause-bytes
returns-clause-bytes c =
    let is = ap (λ hand. hand.bytes) c.self.view_is in
    left_of c.self.inside.buffer.now c.self.inside.from c.self.inside.to c.args.n (rw is c.requires)
    ∙ ap (drop c.args.n) is
