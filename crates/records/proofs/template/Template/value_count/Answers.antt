-- The template's place is known, and its fifth byte is its value count.
use Rattle.records.proofs.Index.{count_read}
use Rattle.records.proofs.template.Template.value_count.Goals as goal

pub returns : goal.returns
returns c =
    let x = c.place.ensures in
    let g = count_read (x.2, c.args.self.now.there) x.0 (rw c.bytes-bytes.ensures.0 at c.byte.ensures.0) in
    record { is = g.0; many = g.1; few = (g.2, x.2) }
