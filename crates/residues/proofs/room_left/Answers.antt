-- A residue takes 24 cells for each of its units from the end, or all there is.
use native.Mathlib.Omega.{arith}
use Rattle.residues.proofs.Reduces.{room_left_lem, room_whole}
use Rattle.residues.proofs.room_left.Goals as goal

pub returns-in-Running : goal.returns-in-Running
returns-in-Running c =
    let few = c.ranges.len in (
      room_left_lem c.args.len c.in-Running.is
          (omega (arith, few.fits, c.saturating_mul.ensures, c.saturating_sub.ensures)),
      omega (arith, c.saturating_sub.ensures),
    )

pub returns-in_default : goal.returns-in_default
returns-in_default c = (room_whole c.args.r c.args.len c.in_default.not-Running, omega arith)
