-- `put_refusal` is right: the word and the number are put one after another.
use Rattle.std.proofs.Common.{◌∷◌, arith}
use Rattle.lines.specs.Text.{decimal, space, refused}
use Rattle.lines.proofs.Puts.{then, put_length}
use Rattle.lines.proofs.page.Page.put_refusal.Goals as goal

pub returns : goal.returns
returns c =
    let next = rw c.from.ensures at c.put_next.ensures in
    record {
      puts = then c.args.self.now refused (space ∷ decimal c.args.number) c.put_bytes.ensures next.puts;
      room = omega (arith, put_length c.args.self.now refused c.put_bytes.ensures, next.room);
    }
