-- Place k of those of reading types is reading type k + 1's.
use native.Mathlib.Omega.{arith}
use Rattle.records.proofs.Index.{reading_within}
use Rattle.records.proofs.Agreement.reading_place.Goals as goal

pub returns : goal.returns
returns c =
    let k = c.args.k in
    let x = c.self.invariant in
    let e = x.readings_at k (rw (← c.self.view_is) at c.requires) in
    rw (← c.self.view_is) (e, omega (arith, e, reading_within x.lists k), x.lists)
