-- `put_next` is right: the space and the number are put one after another.
use Rattle.std.proofs.Common.{[], ◌∷◌, arith}
use Rattle.lines.specs.Text.{decimal, space}
use Rattle.lines.proofs.Puts.{then, put_length}
use Rattle.lines.proofs.page.Page.put_next.Goals as goal

pub returns : goal.returns
returns c = record {
  puts = then c.args.self.now (space ∷ []) (decimal c.args.n) c.put_bytes.ensures c.put_decimal.ensures.puts;
  room = omega (arith, put_length c.args.self.now (space ∷ []) c.put_bytes.ensures, c.put_decimal.ensures.room);
}
