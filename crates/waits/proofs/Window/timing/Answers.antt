-- Late is tested first, then early.
use borrow.Author.Rules.{rules}
use Rattle.waits.proofs.Waits.{tested_late, tested_early, tested_on_time}
use Rattle.waits.proofs.Window.timing.Goals as goal

pub returns-then-self-t : goal.returns-then-self-t
returns-then-self-t c =
    tested_late c.args.self c.args.time c.requires (search rules) c.if-self-t.true

pub returns-then-t-self : goal.returns-then-t-self
returns-then-t-self c =
    tested_early c.args.self c.args.time c.requires (search rules)
    c.if-self-t.false (search rules) c.if-t-self.true

pub returns-else-t-self : goal.returns-else-t-self
returns-else-t-self c =
    tested_on_time c.args.self c.args.time c.requires (search rules)
    c.if-self-t.false (search rules) c.if-t-self.false
