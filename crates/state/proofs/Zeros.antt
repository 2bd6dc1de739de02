-- Of a table's cells, which ones are zero where a test says so, and what the test says where they are.
use mathlib.Core.Path.{◌≡◌, refl, ap}
use mathlib.Core.Bool.{Bool, true, false, ◌&&◌}
use mathlib.Core.List.{List}
use native.Mathlib.Omega.{arith}
use lib.Dec.{T, eqb→eq}
use lib.IntN.{ℤ, pos, negsuc}
use lib.ListN.{length, get_or, take, drop, length-drop}
use lib.Seq.{take_all}
use Rattle.csl.specs.Lists.{all}
use Rattle.csl.specs.Table.{is_zero}
use Rattle.laws.proofs.Bools.{T-both, both_true}
use Rattle.state.proofs.Heads.{eight}

zero_is : (z : ℤ) → T (is_zero z) → z ≡ pos 0
unfolding is_zero
zero_is (pos n) t = ap pos (eqb→eq n 0 t)
zero_is (negsuc n) t = absurd t

is_zero_lem : (z : ℤ) → z ≡ pos 0 → T (is_zero z)
unfolding is_zero
is_zero_lem z e = rw e tt

module _ (cells : List ℤ) (l : length cells ≡ 3080) where
  -- cells 2 and 3, and 4
  pub two_zeros : T (all is_zero (take 2 (drop 2 cells)))
      → (get_or cells 2 (pos 0) ≡ pos 0) × (get_or cells 3 (pos 0) ≡ pos 0)
  unfolding all
  two_zeros = eight (λ zs. T (all is_zero (take 2 (drop 2 zs))) → (get_or zs 2 (pos 0) ≡ pos 0)
      × (get_or zs 3 (pos 0) ≡ pos 0))
      (λ a b c d e f g h zs t. both_true (is_zero c) _ t λ p u. both_true (is_zero d) _ u
      λ q _. (zero_is c p, zero_is d q)) cells (omega arith)

  pub zeros_two : get_or cells 2 (pos 0) ≡ pos 0 → get_or cells 3 (pos 0) ≡ pos 0
      → T (all is_zero (take 2 (drop 2 cells)))
  unfolding all
  zeros_two = eight (λ zs. get_or zs 2 (pos 0) ≡ pos 0 → get_or zs 3 (pos 0) ≡ pos 0
      → T (all is_zero (take 2 (drop 2 zs))))
      (λ a b c d e f g h zs p q. T-both (is_zero c) _ (is_zero_lem c p) (T-both (is_zero d) _ (is_zero_lem d q) tt))
      cells
      (omega arith)

  pub one_zero : T (all is_zero (take 1 (drop 4 cells))) → get_or cells 4 (pos 0) ≡ pos 0
  unfolding all
  one_zero = eight (λ zs. T (all is_zero (take 1 (drop 4 zs))) → get_or zs 4 (pos 0) ≡ pos 0)
      (λ a b c d e f g h zs t. both_true (is_zero e) _ t λ p u. zero_is e p) cells (omega arith)

  pub zeros_one : get_or cells 4 (pos 0) ≡ pos 0 → T (all is_zero (take 1 (drop 4 cells)))
  unfolding all
  zeros_one = eight (λ zs. get_or zs 4 (pos 0) ≡ pos 0 → T (all is_zero (take 1 (drop 4 zs))))
      (λ a b c d e f g h zs p. T-both (is_zero e) _ (is_zero_lem e p) tt) cells (omega arith)

  -- cells 2 to 4
  pub three_cells : all is_zero (take 3 (drop 2 cells))
      ≡ (all is_zero (take 2 (drop 2 cells)) && all is_zero (take 1 (drop 4 cells)))
  unfolding all
  three_cells = eight (λ zs. all is_zero (take 3 (drop 2 zs))
      ≡ (all is_zero (take 2 (drop 2 zs)) && all is_zero (take 1 (drop 4 zs))))
      (λ a b c d e f g h zs. three (is_zero c) (is_zero d) (is_zero e)) cells (omega arith)
    where
      three : (x y z : Bool) → (x && (y && (z && true))) ≡ ((x && (y && true)) && (z && true))
      three true true z = refl
      three true false z = refl
      three false y z = refl

  pub unit_cells : take 3072 (drop 8 cells) ≡ drop 8 cells
  unit_cells = take_all 3072 (drop 8 cells) (omega (arith, length-drop 8 cells))
  -- ---- no run is read
