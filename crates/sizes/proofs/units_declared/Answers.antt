-- At each turn the units of the templates below k are known, and the first that declares none decides.
use native.Mathlib.Omega.{arith}
use Rattle.sizes.proofs.Filling.{none_filled, more_filled, unfilled, all_filled}
use Rattle.sizes.proofs.units_declared.Goals as goal

pub loop-number-init : goal.loop-number-init
loop-number-init c = (omega arith, none_filled c.args.agreement.now _ c.new-units.ensures)

pub returns-in_err-units : goal.returns-in_err-units
returns-in_err-units c =
    rw c.from_residual.ensures (unfilled (omega arith) c.loop-number.invariant.1 c.in_err-units.ensures.0)

pub loop-number-preserved : goal.loop-number-preserved
loop-number-preserved c = (
  omega arith,
  rw c.push.ensures.items (more_filled (omega arith) c.loop-number.invariant.1
      c.in_ok-units.ensures.0),
)

pub push-requires : goal.push-requires
push-requires c = omega (arith, c.in_ok-units.ensures.1.few_templates, c.loop-number.invariant.1.many)

pub returns : goal.returns
returns c = all_filled (omega arith) c.loop-number.invariant.1
