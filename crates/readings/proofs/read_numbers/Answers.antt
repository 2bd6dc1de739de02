-- After i turns the first i numbers are there, and the next stands behind them.
use mathlib.Core.Path.{refl, ◌∙◌}
use native.Mathlib.Omega.{arith}
use lib.ListN.{length-set}
use Rattle.arith.proofs.Ints.{seen, read! }
use Rattle.readings.proofs.Raw.{numbers_none, numbers_more}
use Rattle.readings.proofs.read_numbers.Goals as goal

pub loop-i-init : goal.loop-i-init
loop-i-init c = (numbers_none c.args.bytes.now, refl)

pub loop-i-preserved : goal.loop-i-preserved
loop-i-preserved c =
    let l = c.loop-i in
    let z = c.signed32.result in (
      numbers_more c.args.bytes.now l.cells l.i l.invariant.0 refl
          (read! {z = z} c.signed32.type_inv ∙ c.signed32.ensures) (omega arith),
      length-set l.cells l.i (seen z) ∙ l.invariant.1,
    )
