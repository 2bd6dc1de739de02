-- `wait` is right: the bytes at hand are kept in front, and what is read stands behind them.
use Rattle.std.proofs.Common.{◌≡◌, ap, ◌∙◌, length, arith}
use Rattle.laws.proofs.Lists.{length_part}
use Rattle.stream.proofs.Hands.{comes}
use Rattle.stream.proofs.hand.Hand.wait.Goals as goal

pub returns-clause-brings : goal.returns-clause-brings
returns-clause-brings g c =
    let at = c.self.inside in
    let is = ap (λ hand. hand.bytes) c.self.view_is in
    let kept = c.keep-self-inside in
    let came = c.in_ok-came in
    let there : kept.result ≡ length c.args.self.now.bytes =
    let part_long = length_part at.buffer.now at.from at.to (omega (arith, c.self.told)) in
    omega (arith, kept.ensures.size, ap length is, part_long) in
    comes c.args.self.now.bytes kept.new.buf c.read.new.buf _ kept.result came.came _ (kept.ensures.bytes ∙ is) there
    came.ensures.bound.0 (g.R.Read.remaining c.args.input.now) (g.R.Read.remaining c.read.new.self) came.ensures.bytes.0
    (λ none. came.ensures.bytes.1 none
    (omega (arith, c.requires, ap (λ hand. hand.capacity) c.self.view_is, kept.auto.buf, c.read.auto.buf)))
