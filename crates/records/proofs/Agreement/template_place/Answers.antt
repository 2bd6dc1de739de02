-- Place k of those of templates is template k's.
use native.Mathlib.Omega.{arith}
use Rattle.records.proofs.Index.{template_within}
use Rattle.records.proofs.Agreement.template_place.Goals as goal

pub returns : goal.returns
returns c =
    let k = c.args.k in
    let x = c.self.invariant in
    let e = x.templates_at k (rw (← c.self.view_is) at c.requires) in
    rw (← c.self.view_is) (e, omega (arith, e, template_within x.lists k), x.lists)
