-- The first blame bytes are allowed and their parties found, so those behind them decide.
use mathlib.Core.Path.{◌∙◌}
use native.Mathlib.Omega.{arith}
use Rattle.csl.specs.Bytes.{byte}
use Rattle.typing.proofs.Instances.{blamed_none, blamed_off, blamed_more, blamed_all}
use Rattle.typing.proofs.names.Names.blamed_parties.Goals as goal

pub loop-blame-init : goal.loop-blame-init
loop-blame-init c =
    rw c.empty-found.ensures (blamed_none (byte c.args.self.now.agreement.now 8) c.args.self.now.params
    c.args.blames.now)

pub returns-in_err-blamed : goal.returns-in_err-blamed
returns-in_err-blamed c =
    c.from_residual.ensures ∙ blamed_off (byte c.args.self.now.agreement.now 8) c.args.self.now.params
    c.args.blames.now c.loop-blame-test.true c.from.ensures c.in_err-blamed.ensures

pub loop-blame-preserved : goal.loop-blame-preserved
loop-blame-preserved c =
    blamed_more (byte c.args.self.now.agreement.now 8) c.args.self.now.params c.args.blames.now
    c.loop-blame-test.true c.from.ensures c.in_ok-blamed.ensures c.loop-blame.invariant c.bitor_assign.ensures.after.2

pub returns : goal.returns
returns c =
    blamed_all (byte c.args.self.now.agreement.now 8) c.args.self.now.params c.args.blames.now (omega arith)
    c.loop-blame.invariant
