-- A body stands behind its template's head and ends with the template.
use Rattle.records.proofs.Index.{spans}
use Rattle.records.proofs.template.Template.body_span.Goals as goal

pub returns : goal.returns
returns c =
    let x = c.place-a.ensures in
    let ends = rw c.bytes-bytes.ensures.0 at c.record_end-e.ensures.0 in
    let size = rw (c.kind.ensures, c.bytes-bytes.ensures.0) at c.head_size.ensures in
    (spans (x.2, c.args.self.now.there) x.0 c.value_count-n.ensures.is size ends, x.2)
