-- Three records follow each other, and each ends where its length says.
use mathlib.Core.Path.{ap, ◌∙◌}
use native.Mathlib.Omega.{arith}
use Rattle.csl.specs.Bytes.{record_end}
use Rattle.csl.specs.Decode.{wait_end}
use Rattle.records.proofs.wait_end.Goals as goal

pub returns : goal.returns
unfolding wait_end
returns c =
    let s = c.args.s.now in
    let e = ap (record_end s) (c.record_end-b.ensures.0 ∙ ap (record_end s) c.record_end-a.ensures.0) in
    (c.record_end.ensures.0 ∙ e, omega arith, omega arith)
