-- Cells of the table: one that is read as a value is the cell of what was read, and how many there are.
use mathlib.Core.List.{List}
use mathlib.Core.Option.{some}
use mathlib.Core.Path.{◌≡◌, refl, ap, ◌∙◌}
use Prim.Native.Nat.{ℕ, zero, suc, ◌-◌, ◌≤◌}
use native.Mathlib.Omega.{arith}
use lib.Dec.{ltb}
use lib.IntN.{ℤ, pos, negsuc}
use lib.ListN.{length, length-append, length-replicate, replicate}
use Rattle.csl.specs.Numbers.{in_range}
use Rattle.csl.specs.Syntax.{Join, Ty, number, truth, party}
use Rattle.csl.specs.Table.{cell_of, join_cells, padded}
use Rattle.csl.specs.Values.{Val, as_nat, as_truth, value_of}
use Rattle.laws.proofs.Options.{from_bind, from_need, none_some, some_inj}

pub nat_is : (z : ℤ) (n : ℕ) → as_nat z ≡ some n → z ≡ pos n
unfolding as_nat
nat_is (pos m) n e = ap pos (some_inj e)
nat_is (negsuc m) n e = none_some e

pub truth_is : (n : ℕ) (v : Val) → as_truth n ≡ some v → pos n ≡ cell_of v
unfolding as_truth cell_of
truth_is zero v e = ap cell_of (some_inj e)
truth_is (suc zero) v e = ap cell_of (some_inj e)
truth_is (suc (suc n)) v e = none_some e

pub value_is : (ps : ℕ) (t : Ty) (z : ℤ) (v : Val) → value_of ps t z ≡ some v → z ≡ cell_of v
unfolding value_of cell_of
value_is ps number z v e = from_need (in_range z) _ v e λ t b. ap cell_of (some_inj b)
value_is ps truth z v e = from_bind (as_nat z) _ v e λ n a b. nat_is z n a ∙ truth_is n v b
value_is ps party z v e = from_bind (as_nat z) _ v e λ n a b. from_need (ltb n ps) _ v b λ t c. nat_is z n a
    ∙ ap cell_of (some_inj c)

pub length_padded : (n : ℕ) (xs : List ℤ) → length xs ≤ n → length (padded n xs) ≡ n
unfolding padded
length_padded n xs h = length-append xs (replicate (n - length xs) (pos 0))
    ∙ omega (arith, length-replicate (n - length xs) (pos 0))

pub length_join : (j : Join) → length (join_cells j) ≡ 24
unfolding join_cells padded
length_join j = refl
