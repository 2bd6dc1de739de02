-- A forecast is the same where zeros stand behind the party parameters and the values in sight.
-- Main theorems: `walk_wide` and `reduce_wide`.
use mathlib.Core.Bool.{cond, false, true}
use mathlib.Core.List.{List, [], ◌∷◌, ◌++◌}
use mathlib.Core.Path.{ap, ap₂, refl, ◌∙◌, ◌≡◌}
use Prim.Native.Nat.{◌-◌, suc, zero, ℕ}
use lib.Dec.{ltb}
use lib.IntN.{pos, ℤ, ◌+ℤ◌}
use lib.ListN.{get_or, length, replicate}
use Rattle.csl.specs.Numbers.{held, later_of}
use Rattle.csl.specs.Parties.{bits_of}
use Rattle.csl.specs.Syntax.{Clause, Expr, Template, Wait, bad_clause, bad_expr, binary, choice, fulfilled, if}
use Rattle.csl.specs.Syntax.{instance, join, negation, number_lit, obligation, party_lit, truth_lit, variable}
use Rattle.cells.specs.Evaluate.{apply_cells, eval_cells, evals_cells, is_true_cell}
use Rattle.cells.specs.Reduce.{Reckoned, activate, becomes, blame_bits, blamed_cell, blamed_cells, broken, fate}
use Rattle.cells.specs.Reduce.{first_of, forecasting, joins, last_of, party_cell, reaches, reduce, unfold_below, walk}

-- cells that read the same, a cell that is missing being zero
abbrev ReadSame : List ℤ → List ℤ → Type 0
ReadSame xs ys = (i : ℕ) → get_or xs i (pos 0) ≡ get_or ys i (pos 0)

zeros : (n i : ℕ) → get_or (replicate n (pos 0)) i (pos 0) ≡ pos 0
zeros zero i = refl
zeros (suc n) zero = refl
zeros (suc n) (suc i) = zeros n i

zeros_behind : (xs : List ℤ) (n : ℕ) → ReadSame (xs ++ replicate n (pos 0)) xs
zeros_behind [] n i = zeros n i
zeros_behind (x ∷ xs) n zero = refl
zeros_behind (x ∷ xs) n (suc i) = zeros_behind xs n i

-- ---- expressions, by the values vs or us
module _ (vs us : List ℤ) (values : ReadSame vs us) where
  eval_same : (e : Expr) → eval_cells vs e ≡ eval_cells us e
  unfolding eval_cells
  eval_same (number_lit z) = refl
  eval_same (truth_lit n) = refl
  eval_same (party_lit p) = refl
  eval_same (variable i) = ap held (values i)
  eval_same (negation e) = ap (λ z. cond (is_true_cell z) (pos 0) (pos 1)) (eval_same e)
  eval_same (binary o x y) = ap₂ (apply_cells o) (eval_same x) (eval_same y)
  eval_same bad_expr = refl

  evals_same : (es : List Expr) → evals_cells vs es ≡ evals_cells us es
  unfolding evals_cells
  evals_same [] = refl
  evals_same (e ∷ es) = ap₂ ◌∷◌ (eval_same e) (evals_same es)

  last_same : (a : ℕ) (w : Wait) → last_of vs a w ≡ last_of us a w
  unfolding last_of first_of
  last_same a w = ap₂ (λ x y. (pos a +ℤ x) +ℤ y) (eval_same w.after) (eval_same w.within)

-- ---- blames, by the parameters ps or qs
module _ (ps qs : List ℤ) (params : ReadSame ps qs) where
  blamed_same : (b : ℕ) → blamed_cell ps b ≡ blamed_cell qs b
  unfolding blamed_cell
  blamed_same b = ap (cond (ltb b 128) (pos b)) (params (b - 128))

  all_blamed_same : (bs : List ℕ) → blamed_cells ps bs ≡ blamed_cells qs bs
  unfolding blamed_cells
  all_blamed_same [] = refl
  all_blamed_same (b ∷ bs) = ap₂ ◌∷◌ (blamed_same b) (all_blamed_same bs)

  bits_same : (b : ℕ) → blame_bits ps b ≡ blame_bits qs b
  unfolding blame_bits
  bits_same b = ap (λ z. bits_of (party_cell z ∷ [])) (blamed_same b)

-- ---- the walk: no clause waits, so no cells are kept
module _ (th : Clause → List ℤ → List ℤ → ℕ → Reckoned) (un : ℕ → List ℤ → List ℤ → ℕ → Reckoned) where
  module _ (ps qs vs us : List ℤ) (params : ReadSame ps qs) (values : ReadSame vs us) where
    walk_same : (c : Clause) (a : ℕ) → walk forecasting th un c ps vs a ≡ walk forecasting th un c qs us a
    unfolding walk fate
    walk_same fulfilled a = refl
    walk_same (obligation b w t) a = ap₂ (λ z bits. reaches (broken (later_of a z) bits))
        (last_same vs us values a w) (bits_same ps qs params b)
    walk_same (choice w t f) a = ap (λ z. reaches (becomes (walk forecasting th un f ps vs (later_of a z))))
        (last_same vs us values a w)
        ∙ ap (λ x. reaches (becomes x)) (walk_same f (later_of a (last_of us a w)))
    walk_same (if c t f) a = rw (eval_same vs us values c)
        (ap₂ (λ x y. reaches (elim (is_true_cell (eval_cells us c)) [ true ↦ x | false ↦ y ])) (walk_same t a)
        (walk_same f a))
    walk_same (join j t f) a = ap₂ (λ x y. reaches (joins j x y)) (walk_same t a) (walk_same f a)
    walk_same (instance k es bs) a = ap₂ (λ x y. reaches (un k x y a)) (all_blamed_same ps qs params bs)
        (evals_same vs us values es)
    walk_same bad_clause a = refl

  pub walk_wide : (c : Clause) (ps vs : List ℤ) (j k a : ℕ)
      → walk forecasting th un c (ps ++ replicate j (pos 0)) (vs ++ replicate k (pos 0)) a
      ≡ walk forecasting th un c ps vs a
  walk_wide c ps vs j k = walk_same _ ps _ vs (zeros_behind ps j) (zeros_behind vs k) c

pub reduce_wide : (ts : List Template) (c : Clause) (ps vs : List ℤ) (j k a : ℕ)
    → reduce forecasting ts c (ps ++ replicate j (pos 0)) (vs ++ replicate k (pos 0)) a
    ≡ reduce forecasting ts c ps vs a
unfolding reduce
reduce_wide ts = walk_wide (activate ts) (unfold_below forecasting (activate ts) ts (length ts))
