-- The template's place is known, and the two bytes behind its parameter count are its declared parties.
use Rattle.records.proofs.Index.{declared_read}
use Rattle.records.proofs.template.Template.declared_bits.Goals as goal

pub returns : goal.returns
returns c =
    let x = c.place.ensures in
    let read = rw c.bytes-bytes.ensures.0 at c.unsigned16.ensures.0 in
    (declared_read (x.2, c.args.self.now.there) x.0 c.value_count-n.ensures.is read, c.unsigned16.ensures.1, x.2)
