-- `put_decimal` is right: what is printed is `decimal n`, and has few digits.
use Rattle.std.proofs.Common.{ap, ◌∙◌, arith}
use Rattle.lines.specs.Text.{decimal}
use Rattle.lines.specs.Put.{put}
use Rattle.lines.proofs.Puts.{put_length}
use Rattle.lines.proofs.Decimal.{printed, few}
use Rattle.lines.proofs.page.Page.put_decimal.Goals as goal

pub returns : goal.returns
returns c =
    let n = c.args.n in
    let small = c.ranges.n.fits in
    let puts = c.put_bytes.ensures
    ∙ ap (put c.args.self.now) (c.as_bytes.ensures.value ∙ c.format.ensures.text ∙ printed n small) in
    record {
      puts = puts;
      room = omega (arith, put_length c.args.self.now (decimal n) puts, few n small);
    }
