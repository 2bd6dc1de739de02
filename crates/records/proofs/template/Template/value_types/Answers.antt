-- The value types stand behind the value count.
use native.Mathlib.Omega.{arith}
use Rattle.records.proofs.Index.{value_types_within, value_types_lem}
use Rattle.records.proofs.template.Template.value_types.Goals as goal

pub slice_bounds-result-end : goal.slice_bounds-result-end
slice_bounds-result-end c =
    let x = c.place-a.ensures in
    let within = value_types_within (x.2, c.args.self.now.there) x.0 c.value_count-n.ensures.is in
    let same = rw (← c.bytes-bytes.ensures.0) at within in
    omega arith

pub returns : goal.returns
returns c =
    let x = c.place-a.ensures in
    rw c.bytes-bytes.ensures.0 (value_types_lem (x.2, c.args.self.now.there) x.0 c.value_count-n.ensures.is, x.2)
