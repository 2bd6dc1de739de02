-- On typed expressions, evaluation on cells gives the cell of the value that csl's evaluation gives.
use mathlib.Core.Bool.{Bool, cond, false, not, true, ◌&&◌}
use mathlib.Core.List.{List, [], ◌∷◌}
use mathlib.Core.Option.{some}
use mathlib.Core.Path.{ap, ap₂, refl, subst, sym, ◌∙◌, ◌≡◌}
use Prim.Native.Nat.{◌-◌, suc, zero, ℕ, ◌≤◌}
use native.Mathlib.Omega.{arith}
use lib.Dec.{T, eqb, leb→le, le→leb, ltb, ltb→lt}
use lib.IntN.{negsuc, pos, ℤ}
use lib.ListN.{get_or}
use lib.Signed.{lt_z}
use Rattle.csl.specs.Lists.{at}
use Rattle.csl.specs.Numbers.{bottom, calculate, eq_z, held, in_range, limit, top}
use Rattle.csl.specs.Syntax.{Expr, Op, Ty, arithmetic, bad_expr, binary, conj, equal, less, negation, number}
use Rattle.csl.specs.Syntax.{number_lit, party, party_lit, truth, truth_lit, variable}
use Rattle.csl.specs.Typing.{has_type, have_types, type_expr}
use Rattle.csl.specs.Values.{Val, apply, as_bool, as_num, bool, eval, eval_bool, eval_num, evals, num, on_bools}
use Rattle.csl.specs.Values.{on_nums}
use Rattle.csl.specs.Values.{same_bool, same_val, who}
use Rattle.csl.specs.Table.{cell_of, cells_of}
use Rattle.laws.proofs.Options.{from_bind, from_need, some_inj, none_some}
use Rattle.laws.proofs.Cells.{truth_is}
use Rattle.soundness.proofs.Evaluation.{HasTy, HaveTy, at_typed}
use Rattle.soundness.proofs.Walks.{bool_typed}
use Rattle.cells.specs.Evaluate.{apply_cells, eval_cells, evals_cells, is_true_cell, truth_cell}

-- ---- a cell in range is left as it is
held_same : (z : ℤ) → T (in_range z) → held z ≡ z
unfolding held in_range
held_same (pos n) h = go (ltb limit n) refl
  where
    go : (b : Bool) → ltb limit n ≡ b → ◌≡◌ {A = ℤ} (cond b top (cond (lt_z (pos n) bottom) bottom (pos n))) (pos n)
    go true e = absurd (omega (arith, ltb→lt limit n (subst T (sym e) tt), leb→le n limit h))
    go false e = refl
held_same (negsuc n) h = go (ltb (limit - 1) n) refl
  where
    go : (b : Bool) → ltb (limit - 1) n ≡ b → ◌≡◌ {A = ℤ} (cond b bottom (negsuc n)) (negsuc n)
    go true e = absurd (omega (arith, ltb→lt (limit - 1) n (subst T (sym e) tt), leb→le (suc n) limit h))
    go false e = refl

held_cell : (ps : ℕ) (t : Ty) (v : Val) → ps ≤ 16 → HasTy ps t v → held (cell_of v) ≡ cell_of v
unfolding HasTy cell_of in_range
held_cell ps number (num z) few h = held_same z h
held_cell ps number (bool b) few h = absurd h
held_cell ps number (who p) few h = absurd h
held_cell ps truth (num z) few h = absurd h
held_cell ps truth (bool true) few h = held_same (pos 1) tt
held_cell ps truth (bool false) few h = held_same (pos 0) tt
held_cell ps truth (who p) few h = absurd h
held_cell ps party (num z) few h = absurd h
held_cell ps party (bool b) few h = absurd h
held_cell ps party (who p) few h = held_same (pos p) (le→leb p limit (omega (arith, ltb→lt p ps h)))

at_cell : (vs : List Val) (i : ℕ) (v : Val) → at vs i ≡ some v → get_or (cells_of vs) i (pos 0) ≡ cell_of v
unfolding at cells_of
at_cell [] i v e = none_some e
at_cell (u ∷ vs) zero v e = ap cell_of (some_inj e)
at_cell (u ∷ vs) (suc i) v e = at_cell vs i v e

-- ---- truths and numbers
as_num_lem : (v : Val) (z : ℤ) → as_num v ≡ some z → cell_of v ≡ z
unfolding as_num cell_of
as_num_lem (num x) z e = some_inj e
as_num_lem (bool b) z e = none_some e
as_num_lem (who p) z e = none_some e

as_bool_lem : (v : Val) (b : Bool) → as_bool v ≡ some b → cell_of v ≡ truth_cell b
unfolding as_bool cell_of truth_cell
as_bool_lem (num x) b e = none_some e
as_bool_lem (bool true) b e = ap truth_cell (some_inj e)
as_bool_lem (bool false) b e = ap truth_cell (some_inj e)
as_bool_lem (who p) b e = none_some e

is_true : (b : Bool) → is_true_cell (truth_cell b) ≡ b
unfolding truth_cell is_true_cell eq_z
is_true true = refl
is_true false = refl

truth_cell_lem : (b : Bool) → truth_cell b ≡ cell_of (bool b)
unfolding cell_of truth_cell
truth_cell_lem true = refl
truth_cell_lem false = refl

not_cell : (b : Bool) → cond (is_true_cell (truth_cell b)) (pos 0) (pos 1) ≡ cell_of (bool (not b))
unfolding truth_cell is_true_cell eq_z cell_of
not_cell true = refl
not_cell false = refl

-- ---- operators
and_cell : (x y : Bool) → apply_cells conj (truth_cell x) (truth_cell y) ≡ cell_of (bool (x && y))
unfolding apply_cells truth_cell is_true_cell eq_z cell_of
and_cell true true = refl
and_cell true false = refl
and_cell false y = refl

same_cell : (u v w : Val) → same_val u v ≡ some w → truth_cell (eq_z (cell_of u) (cell_of v)) ≡ cell_of w
unfolding same_val same_bool eq_z cell_of
same_cell (num x) (num y) w e = truth_cell_lem (eq_z x y) ∙ ap cell_of (some_inj e)
same_cell (num x) (bool y) w e = none_some e
same_cell (num x) (who y) w e = none_some e
same_cell (bool x) (num y) w e = none_some e
same_cell (bool true) (bool true) w e = truth_cell_lem true ∙ ap cell_of (some_inj e)
same_cell (bool true) (bool false) w e = truth_cell_lem false ∙ ap cell_of (some_inj e)
same_cell (bool false) (bool true) w e = truth_cell_lem false ∙ ap cell_of (some_inj e)
same_cell (bool false) (bool false) w e = truth_cell_lem true ∙ ap cell_of (some_inj e)
same_cell (bool x) (who y) w e = none_some e
same_cell (who x) (num y) w e = none_some e
same_cell (who x) (bool y) w e = none_some e
same_cell (who x) (who y) w e = truth_cell_lem (eqb x y) ∙ ap cell_of (some_inj e)

apply_cell : (o : Op) (u v w : Val) → apply o u v ≡ some w → apply_cells o (cell_of u) (cell_of v) ≡ cell_of w
unfolding apply on_nums on_bools apply_cells cell_of
apply_cell (arithmetic o) u v w e =
    from_bind (as_num u) _ w e λ x p q.
    from_bind (as_num v) _ w q λ y p' r.
    ap₂ (calculate o) (as_num_lem u x p) (as_num_lem v y p') ∙ ap cell_of (some_inj r)
apply_cell conj u v w e =
    from_bind (as_bool u) _ w e λ x p q.
    from_bind (as_bool v) _ w q λ y p' r.
    ap₂ (apply_cells conj) (as_bool_lem u x p) (as_bool_lem v y p') ∙ and_cell x y ∙ ap cell_of (some_inj r)
apply_cell less u v w e =
    from_bind (as_num u) _ w e λ x p q.
    from_bind (as_num v) _ w q λ y p' r.
    ap₂ (λ a b. truth_cell (lt_z a b)) (as_num_lem u x p) (as_num_lem v y p') ∙ truth_cell_lem (lt_z x y)
    ∙ ap cell_of (some_inj r)
apply_cell equal u v w e = same_cell u v w e

-- ---- expressions
module _ (ps : ℕ) (few : ps ≤ 16) (env : List Ty) (vs : List Val) (h : HaveTy ps env vs) where
  -- a typed expression's cell is the cell of its value
  pub eval_cells_lem : (x : Expr) (t : Ty) (v : Val) → type_expr ps env x ≡ some t → eval vs x ≡ some v
      → eval_cells (cells_of vs) x ≡ cell_of v
  unfolding type_expr eval eval_cells cell_of
  eval_cells_lem (number_lit z) t v ty e = from_need (in_range z) _ t ty λ b p. held_same z b ∙ ap cell_of (some_inj e)
  eval_cells_lem (truth_lit n) t v ty e = truth_is n v e
  eval_cells_lem (party_lit q) t v ty e = ap cell_of (some_inj e)
  eval_cells_lem (variable i) t v ty e =
      let a = at_typed ps env vs i t h ty in
      ap held (at_cell vs i v e) ∙ held_cell ps t v few (subst (λ u. HasTy ps t u) (some_inj (sym a.1 ∙ e)) a.2)
  eval_cells_lem (negation x) t v ty e =
      from_bind (type_expr ps env x) _ t ty λ s p q.
      from_bind (eval vs x) _ v e λ u p' q'.
      from_bind (as_bool u) _ v q' λ b p₂ r.
      ap (λ z. cond (is_true_cell z) (pos 0) (pos 1)) (eval_cells_lem x s u p p' ∙ as_bool_lem u b p₂) ∙ not_cell b
      ∙ ap cell_of (some_inj r)
  eval_cells_lem (binary o x y) t v ty e =
      from_bind (type_expr ps env x) _ t ty λ s p q.
      from_bind (type_expr ps env y) _ t q λ s' p' q'.
      from_bind (eval vs x) _ v e λ u pu r.
      from_bind (eval vs y) _ v r λ u' pu' r'.
      ap₂ (apply_cells o) (eval_cells_lem x s u p pu) (eval_cells_lem y s' u' p' pu') ∙ apply_cell o u u' v r'
  eval_cells_lem bad_expr t v ty e = none_some e

  -- a number's cell is the number
  pub num_cells : (x : Expr) (u : Unit {0}) (z : ℤ) → has_type ps env x number ≡ some u → eval_num vs x ≡ some z
      → eval_cells (cells_of vs) x ≡ z
  unfolding has_type eval_num
  num_cells x u z ty e =
      from_bind (type_expr ps env x) _ u ty λ t p q.
      from_bind (eval vs x) _ z e λ v pv r.
      eval_cells_lem x t v p pv ∙ as_num_lem v z r

  -- a truth's cell tells it
  pub bool_cells : (x : Expr) (u : Unit {0}) (b : Bool) → has_type ps env x truth ≡ some u → eval_bool vs x ≡ some b
      → is_true_cell (eval_cells (cells_of vs) x) ≡ b
  unfolding has_type eval_bool
  bool_cells x u b ty e =
      from_bind (type_expr ps env x) _ u ty λ t p q.
      from_bind (eval vs x) _ b e λ v pv r.
      ap is_true_cell (eval_cells_lem x t v p pv ∙ as_bool_lem v b r) ∙ is_true b

  -- so it has the truth that its cell tells
  pub truth_cells : (x : Expr) (u : Unit {0}) → has_type ps env x truth ≡ some u
      → eval_bool vs x ≡ some (is_true_cell (eval_cells (cells_of vs) x))
  truth_cells x u ty = bool_typed ps env vs h x u ty λ b e. e ∙ ap some (sym (bool_cells x u b ty e))

  -- the cells of an instance's values
  pub evals_cells_lem : (xs : List Expr) (ts : List Ty) (u : Unit {0}) (ws : List Val)
      → have_types ps env xs ts ≡ some u
      → evals vs xs ≡ some ws → evals_cells (cells_of vs) xs ≡ cells_of ws
  unfolding have_types has_type evals evals_cells cells_of
  evals_cells_lem [] [] u ws ty e = ap cells_of (some_inj e)
  evals_cells_lem [] (t ∷ ts) u ws ty e = none_some ty
  evals_cells_lem (x ∷ xs) [] u ws ty e = none_some ty
  evals_cells_lem (x ∷ xs) (t ∷ ts) u ws ty e =
      from_bind (has_type ps env x t) _ u ty λ u' p q.
      from_bind (type_expr ps env x) _ u' p λ s p₂ q₂.
      from_bind (eval vs x) _ ws e λ v pv r.
      from_bind (evals vs xs) _ ws r λ us pus r'.
      ap₂ ◌∷◌ (eval_cells_lem x s v p₂ pv) (evals_cells_lem xs ts u us q pus) ∙ ap cells_of (some_inj r')
