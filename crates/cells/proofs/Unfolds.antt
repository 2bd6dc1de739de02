-- A template's instance, on cells: it is the walk of its body, in which the templates below it are unfolded.
use mathlib.Core.Path.{◌≡◌, refl, sym, ap}
use mathlib.Core.Bool.{Bool, true, false}
use mathlib.Core.List.{List}
use mathlib.Core.Option.{some}
use Prim.Native.Nat.{ℕ, zero, suc, ◌≤◌, ◌<◌}
use native.Mathlib.Nat.{not-suc-le-zero}
use native.Mathlib.Omega.{arith}
use borrow.Author.Tests.{eqb-true, eqb-false, ne_eqb}
use lib.Dec.{eqb}
use lib.IntN.{ℤ}
use Rattle.csl.specs.Lists.{at}
use Rattle.csl.specs.Syntax.{Clause, Template}
use Rattle.cells.specs.Reduce as cells
use Rattle.cells.specs.Reduce.{Mode}

module _ (m : Mode) (th : Clause → List ℤ → List ℤ → ℕ → cells.Reckoned) (ts : List Template) (ps vs : List ℤ)
    (a : ℕ) where
  pub unfold_at : (n k : ℕ) {t : Template} → k < n → at ts k ≡ some t
      → cells.unfold_below m th ts n k ps vs a ≡ cells.walk m th (cells.unfold_below m th ts k) t.body ps vs a
  unfolding cells.unfold_below
  unfold_at zero k h e = absurd (not-suc-le-zero h)
  unfold_at (suc n) k {t} h e = by_number (eqb k n) refl (λ l. unfold_at n k l e)
    where
      by_number : (b : Bool) → eqb k n ≡ b → (k < n
          → cells.unfold_below m th ts n k ps vs a ≡ cells.walk m th (cells.unfold_below m th ts k) t.body ps vs a)
          → cells.unfold_below m th ts (suc n) k ps vs a ≡ cells.walk m th (cells.unfold_below m th ts k) t.body ps
          vs a
      by_number true q ih = let r = eqb-true k n q in let f = rw r at e in
          rw (q, cells.unfold_below, f) (ap (λ j. cells.walk m th (cells.unfold_below m th ts j) t.body ps vs a)
          (sym r))
      by_number false q ih = let r = eqb-false k n q in rw (q, cells.unfold_below) (ih (omega arith))

  pub unfold_past : (n k : ℕ) → n ≤ k → cells.unfold_below m th ts n k ps vs a ≡ cells.ended
  unfolding cells.unfold_below
  unfold_past zero k h = refl
  unfold_past (suc n) k h = rw (ne_eqb k n (λ e. omega arith), cells.unfold_below) (unfold_past n k (omega arith))
