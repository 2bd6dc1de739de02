-- The first minute is an exact sum: a held number and a time that is near keep it within the word.
use Rattle.waits.proofs.Waits.{time_size, first_is}
use Rattle.arith.proofs.Numbers.{sizes, within_goal}
use native.Mathlib.Omega.{arith}
use Prim.Native.Nat.{◌≤◌}
use Rattle.residues.specs.Reduces.{farthest}
use Rattle.waits.proofs.wait.Wait.first.Goals as goal

pub minutes_after-requires : goal.minutes_after-requires
minutes_after-requires c =
    let h = c.args.self.now in within_goal _ _ (omega (arith, time_size h.a (omega (arith, h.soon))))

pub returns-clause-is : goal.returns-clause-is
returns-clause-is c =
    let h = c.args.self.now in
    first_is h.values.cells.now h.bytes.now h.at h.a h.depth (omega (arith, h.soon)) c.requires.begins
    c.requires.ends c.minutes_after.type_inv c.minutes_after.ensures.0

pub returns-clause-near : goal.returns-clause-near
returns-clause-near c =
    let h = c.args.self.now in
    let s : h.a ≤ farthest = omega (arith, h.soon) in
    omega (sizes, s, time_size h.a s)
