-- `put_ahead` is right: time and parties are put one behind the other.
use Rattle.std.proofs.Common.{◌∷◌}
use Rattle.lines.specs.Text.{decimal, space}
use Rattle.lines.proofs.Puts.{then}
use Rattle.telling.proofs.put_ahead.Goals as goal

pub returns-in-Some : goal.returns-in-Some
returns-in-Some c =
    let breach = c.in-Some.breach in
    rw c.in-Some.is (then c.args.page.now (space ∷ decimal breach.time) (space ∷ decimal breach.parties)
    c.put_next.ensures.puts c.put_next-in-Some.ensures.puts)
