-- The units are written, zeros behind them, then the head with when the run last moved, which was judged while they
-- were written.
use mathlib.Core.Bool.{not}
use mathlib.Core.Path.{◌≡◌, ap, ◌∙◌}
use Prim.Native.Nat.{ℕ, ◌*◌, ◌/◌, ◌≤◌}
use native.Mathlib.Omega.{arith}
use lib.Dec.{eqb}
use lib.ListN.{length, take, drop}
use Rattle.arith.proofs.Ints.{read, read! }
use Rattle.residues.proofs.Cells.{cell_of_lem}
use Rattle.settling.proofs.Units.{altered_in, gone_altered, headed_lem}
use Rattle.settling.proofs.go_on.Goals as goal

pub returns : goal.returns
returns c =
    let t = c.args.table.now in
    let r = c.args.residue.now in
    let n : ℕ = length r / 24 in
    let long = c.told-table in
    let size : length r ≡ 24 * n = omega arith in
    let few : n ≤ 128 = omega arith in
    let put = c.put_units-altered.ensures in
    let told = put.1 ∙ ap (λ k. altered_in (not (eqb n c.args.used)) r (take k (take 3072 (drop 8 t)))) size in (
      headed_lem c.args.used n r t long size few c.requires.2 _ _ put.0 (c.fill.ensures.after (λ y e. e)) told
          (read c.ranges.time) c.last_moved-moved.ensures (cell_of_lem n (omega arith))
          (rw (c.from.ensures, read c.ranges.time, read! {z = c.last_moved-moved.result} c.last_moved-moved.type_inv) at
          c.copy_from_slice.ensures.after),
      gone_altered c.args.used n r t long size few c.requires.2 _ _ put.0 (c.fill.ensures.after (λ y e. e)) told,
    )
