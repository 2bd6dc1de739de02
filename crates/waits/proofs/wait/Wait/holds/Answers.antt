-- `where` sees the values in sight and then the reading's.
use Rattle.waits.proofs.Waits.{condition_is}
use mathlib.Core.Path.{◌∙◌}
use Rattle.waits.proofs.wait.Wait.holds.Goals as goal

pub returns : goal.returns
returns c = let h = c.args.self.now in
    condition_is h.bytes.now h.at h.depth c.min-a.ensures c.record_end-b.ensures.0
    (c.deref.ensures.0 ∙ c.sight-all.ensures.0) c.eval-x.ensures c.is_true.ensures
