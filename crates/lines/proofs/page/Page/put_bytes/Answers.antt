-- `put_bytes` is right: what has room is written behind what is there.
use Rattle.lines.proofs.Puts.{written}
use Rattle.lines.proofs.page.Page.put_bytes.Goals as goal

pub returns : goal.returns
returns c =
    let page = c.self.inside in
    let copied = c.copy_from_slice in
    written c.args.self.now page.used c.min-n.result c.room.result page.buffer.now c.args.text.now copied.new.self
    c.self.view_is c.self.invariant c.room.ensures c.min-n.ensures copied.ensures.after copied.ensures.len
