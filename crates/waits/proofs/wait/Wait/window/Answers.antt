-- The last minute is an exact sum: a held number and a first minute that is near keep it within the word.
use Rattle.waits.proofs.Waits.{window_is}
use Rattle.arith.proofs.Numbers.{sizes}
use native.Mathlib.Omega.{arith}
use Prim.Native.Nat.{◌≤◌}
use Rattle.residues.specs.Reduces.{farthest}
use Rattle.waits.proofs.wait.Wait.window.Goals as goal

pub minutes_after-last-requires : goal.minutes_after-last-requires
minutes_after-last-requires c =
    let s : c.args.self.now.a ≤ farthest = omega (arith, c.args.self.now.soon) in
    omega (sizes, s, c.first-first.ensures.near)

pub returns : goal.returns
returns c = λ p.
    let h = c.args.self.now in
    let f = c.first-first in
    window_is h.values.cells.now h.bytes.now h.at h.a h.depth (omega (arith, h.soon)) c.after-after.ensures.begins
    c.after-after.ensures.ends c.record_end-e.ensures.0 p f.type_inv (f.ensures.is p) f.ensures.near
    c.minutes_after-last.type_inv c.minutes_after-last.ensures
