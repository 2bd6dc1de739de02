-- A verdict is put as its word and its forecast, one behind the other.
use Rattle.lines.specs.Text.{live, breach}
use Rattle.lines.proofs.Puts.{then}
use Rattle.telling.specs.Verdicts.{shown_ahead}
use Rattle.telling.proofs.VerdictPut.put_on.Goals as goal

pub returns-in-Live : goal.returns-in-Live
returns-in-Live c =
    let arm = c.in-Live in
    rw arm.is (then c.args.page.now live (shown_ahead arm.ahead) c.put_bytes.ensures c.put_ahead.ensures)

pub returns-in-Breach : goal.returns-in-Breach
returns-in-Breach c =
    let arm = c.in-Breach in
    rw arm.is (then c.args.page.now breach (shown_ahead arm.ahead) c.put_bytes-in-Breach.ensures
    c.put_ahead-in-Breach.ensures)
