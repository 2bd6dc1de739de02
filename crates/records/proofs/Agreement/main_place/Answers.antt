-- The place that is kept is the main clause's.
use native.Mathlib.Omega.{arith}
use Rattle.records.proofs.Index.{main_within}
use Rattle.records.proofs.Agreement.main_place.Goals as goal

pub returns : goal.returns
returns c =
    let x = c.self.invariant in
    rw (← c.self.view_is) (x.main_at, omega (arith, x.main_at, main_within x.lists), x.lists)
