-- Cell by cell they are equal, or the first two that differ tell. The first 24 cells are all of them, also where a body
-- compares parts.
use lib.Seq.{take_all}
use Rattle.std.proofs.Common.{arith, rules, tests}
use Rattle.std.proofs.lemmas.Bool.Decides.{same_from_decides}
use Rattle.std.proofs.lemmas.Iterator.{YieldsList-from_slice, YieldsList-from_zip, same_from_all}
use Rattle.settling.proofs.Units.{sameness}
use Rattle.settling.proofs.same.Goals as goal

pub returns : goal.returns
returns c =
    let cells = c.args.cells.now in
    let unit = c.args.unit.now in
    let all-cells = take_all 24 cells (omega (arith, c.requires.0)) in
    let all-unit = take_all 24 unit (omega (arith, c.requires.1)) in
    same_from_decides _ _
    (same_from_all c.all.new.self _ _ cells unit c.all.ensures.ran
    (YieldsList-from_zip (YieldsList-from_slice cells (search rules)) (YieldsList-from_slice unit (search rules)))
    (search rules) (λ x q k. search (rules, tests)) (λ x q k. search (rules, tests)))
    (sameness cells unit)
