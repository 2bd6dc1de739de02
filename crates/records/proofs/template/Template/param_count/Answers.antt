-- The template's place is known, and the byte behind its value types is its parameter count.
use Rattle.records.proofs.Index.{params_read}
use Rattle.records.proofs.template.Template.param_count.Goals as goal

pub returns : goal.returns
returns c =
    let x = c.place.ensures in
    let read = rw c.bytes-bytes.ensures.0 at c.byte.ensures.0 in
    let g = params_read (x.2, c.args.self.now.there) x.0 c.value_count-n.ensures.is read in
    (g.0, g.1, x.2)
