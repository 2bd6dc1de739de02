-- The head's times, as they are read: the last reading time, when the run last moved, and zeros behind them.
use mathlib.Core.Path.{◌≡◌, sym, ◌∙◌}
use mathlib.Core.Bool.{Bool, ◌&&◌}
use mathlib.Core.List.{List}
use Prim.Native.Nat.{ℕ}
use native.Mathlib.Omega.{arith}
use lib.Dec.{leb, leb→le, le→leb}
use lib.IntN.{ℤ, pos}
use lib.ListN.{get_or, take, drop}
use Rattle.csl.specs.Lists.{all}
use Rattle.csl.specs.Bytes.{le32}
use Rattle.csl.specs.Table.{is_zero}
use Rattle.laws.proofs.Bools.{T-both, both_true, T→true, true→T, true_not_false}
use Rattle.units.specs.Cells.{number_below}
use Rattle.units.proofs.Cells.{below_is, below_not}
use Rattle.laws.proofs.Integers.{pos_inj}
use Rattle.std.specs.Prelude.{Option as Maybe, Some, None}
use Rattle.std.specs.Bool.{then_some}
use Rattle.units.proofs.Tests.{by_then}
use Rattle.state.specs.Shown.{TimeIs, TimesAt}

module _ (a : List ℕ) (cells : List ℤ) where
  none : ((time : ℕ) → TimesAt a cells time → ⊥) → TimeIs a cells None
  unfolding TimeIs
  none f = f

  pub timeless : None ≡ number_below 4_294_967_296 (get_or cells 1 (pos 0)) → TimeIs a cells None
  timeless e = none λ u x. omega
      (arith, below_not 4_294_967_296 u (get_or cells 1 (pos 0)) e x.is_now, x.to)

  pub unmoved : None ≡ number_below 4_294_967_296 (get_or cells 5 (pos 0)) → TimeIs a cells None
  unmoved e = none λ u x. omega
      (arith, below_not 4_294_967_296 x.moved (get_or cells 5 (pos 0)) e x.is_moved, x.until, x.to)

  module _ {time moved : ℕ} (t : Some time ≡ number_below 4_294_967_296 (get_or cells 1 (pos 0)))
      (m : Some moved ≡ number_below 4_294_967_296 (get_or cells 5 (pos 0))) where
    is_time : get_or cells 1 (pos 0) ≡ pos time
    is_time = (below_is 4_294_967_296 time (get_or cells 1 (pos 0)) t).0

    is_moved : get_or cells 5 (pos 0) ≡ pos moved
    is_moved = (below_is 4_294_967_296 moved (get_or cells 5 (pos 0)) m).0

    time_same : {u : ℕ} → TimesAt a cells u → time ≡ u
    time_same x = pos_inj (sym is_time ∙ x.is_now)

    moved_same : {u : ℕ} (x : TimesAt a cells u) → moved ≡ x.moved
    moved_same x = pos_inj (sym is_moved ∙ x.is_moved)

    module _ {start : ℕ} (s : start ≡ le32 a 4) where
      -- the code's tests, one after the other
      abbrev tested : Bool
      tested = (leb start moved && leb moved time) && all is_zero (take 2 (drop 6 cells))

      pub times_are : {b : Bool} {r : Maybe ℕ} → b ≡ tested → r ≡ then_some b time → TimeIs a cells r
      unfolding TimeIs
      times_are e g = by_then (TimeIs a cells) g
          (λ yes. both_true (leb start moved && leb moved time) _ (true→T (sym e ∙ yes)) λ between z.
          both_true (leb start moved) _ between λ from until.
          record {
            is_now = is_time;
            moved = moved;
            is_moved = is_moved;
            from = omega (arith, leb→le start moved from);
            until = leb→le moved time until;
            to = (below_is 4_294_967_296 time (get_or cells 1 (pos 0)) t).1;
            zeros = z;
          })
          (λ f. none λ u x. true_not_false (T→true tested (T-both (leb start moved && leb moved time) _
          (T-both (leb start moved) _ (le→leb start moved (omega (arith, moved_same x, x.from)))
          (le→leb moved time (omega (arith, time_same x, moved_same x, x.until)))) x.zeros)) (sym e ∙ f))
