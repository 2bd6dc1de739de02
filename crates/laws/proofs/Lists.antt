-- Lists: `take (e - a) (drop a l)`, which is what `&l[a..e]` denotes, and a number at a place, or 0.
use mathlib.Core.List.{List, [], ◌∷◌}
use mathlib.Core.Path.{◌≡◌, refl}
use Prim.Native.Nat.{ℕ, zero, suc, ◌-◌, ◌≤◌}
use native.Mathlib.Omega.{arith}
use lib.ListN.{length, get_or, take, drop, length-take, length-drop}
use lib.Seq.{take_all}
use Rattle.csl.specs.Lists.{at}
use Rattle.csl.specs.Widths.{or_zero}

module _ {A : Type 0} where
  -- ---- a part
  pub length_part : (l : List A) (a e : ℕ) → e ≤ length l → length (take (e - a) (drop a l)) ≡ e - a
  length_part l a e h = simp (length-take, length-drop) (omega arith)

  -- what `&l[a..]` is
  pub part_from : (a : ℕ) (l : List A) → take (length l - a) (drop a l) ≡ drop a l
  part_from a l = take_all (length l - a) (drop a l) (rw (length-drop a l) (omega arith))

-- ---- the number at a place of a list, or 0 where there is none
pub number_at : (ns : List ℕ) (k : ℕ) → or_zero (at ns k) ≡ get_or ns k 0
unfolding at or_zero
number_at [] k = refl
number_at (n ∷ ns) zero = refl
number_at (n ∷ ns) (suc k) = number_at ns k
