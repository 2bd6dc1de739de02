-- The types stand behind the value count, up to the record's end.
use native.Mathlib.Omega.{arith}
use Rattle.records.proofs.Index.{reading_end, reading_types_lem}
use Rattle.records.proofs.Agreement.reading_types.Goals as goal

pub slice_bounds-result-count : goal.slice_bounds-result-count
slice_bounds-result-count c =
    let x = c.reading_place-a.ensures in
    let e = rw c.self.view_is at c.record_end-e.ensures.0 in
    omega (arith, reading_end x.2 c.requires x.0 e)

pub slice_bounds-result-start : goal.slice_bounds-result-start
slice_bounds-result-start c =
    let x = c.reading_place-a.ensures in
    let e = rw c.self.view_is at c.record_end-e.ensures.0 in
    omega (arith, reading_end x.2 c.requires x.0 e)

pub returns : goal.returns
returns c =
    let x = c.reading_place-a.ensures in
    let e = rw c.self.view_is at c.record_end-e.ensures.0 in
    rw c.self.view_is (reading_types_lem x.2 c.requires x.0 e, x.2)
