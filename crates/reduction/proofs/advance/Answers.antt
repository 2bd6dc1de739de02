-- What has room in 16 units is written, over 128 are 11, and what lies between is tried anew with more room.
use mathlib.Core.Path.{◌≡◌, ap, ◌∙◌}
use native.Mathlib.Omega.{arith}
use Rattle.std.proofs.lemmas.Result.{err_from_is_err_and}
use Rattle.reduction.proofs.Advances.{tried_over}
use Rattle.reduction.proofs.advance.Goals as goal
use Rattle.reduction.proofs.advance.Goals.{Joined-used-le-FEW_UNITS, else-used-le-FEW_UNITS}
use Rattle.reduction.proofs.advance.Goals.{then-used-le-FEW_UNITS+in-Err+else-short-gt-MOST_UNITS}

-- a try in too little room leaves the table as it was
kept : (c : Joined-used-le-FEW_UNITS) → c.if-used-le-FEW_UNITS.table ≡ c.args.table.now
kept c = elim c.if-used-le-FEW_UNITS.branch [
  | then-used-le-FEW_UNITS+in-Err+else-short-gt-MOST_UNITS w ↦ w.table-is ∙ w.in-Err.ensures.kept
  | else-used-le-FEW_UNITS w ↦ w.table-is
]

pub returns-in-Err : goal.returns-in-Err
returns-in-Err c = record {
  leads = tried_over c.in-Err.ensures _ (omega (arith, c.if-short-gt-MOST_UNITS.true))
      (ap (λ many. many.cost) c.into.ensures);
  untouched = c.in-Err.ensures.kept;
}

pub returns-in_err-advance_in : goal.returns-in_err-advance_in
returns-in_err-advance_in c =
    let short = c.in_err-advance_in.ensures in
    let lent = kept (goal.at.returns-in_err-advance_in c).Joined-used-le-FEW_UNITS in
    let p = err_from_is_err_and c.from_residual.result c.from_residual.ensures.1 in
    let over = tried_over short c.args.time (omega (arith, short.less)) (ap (λ many. many.cost) p.2) in
    rw p.1 (record { leads = rw lent at over; untouched = short.kept ∙ lent })
