-- Laws of evaluation on cells, as the code of `eval` and its parts knows things.
use mathlib.Core.Path.{◌≡◌, refl, sym, ap, ◌∙◌}
use mathlib.Core.Bool.{Bool, true, false, cond, not}
use mathlib.Core.List.{List}
use Prim.Native.Nat.{ℕ, ◌-◌, ◌≤◌, ◌<◌}
use native.Mathlib.Omega.{arith}
use lib.IntN.{ℤ, pos}
use lib.Dec.{eqb, lit≤}
use lib.ListN.{length, get_or}
use borrow.Author.Tests.{eq-eqb, ne_eqb, eqb-false, not-false}
use mir.Syntax.{w64}
use mir.Val.{to_z}
use mir.ValLaws.{to_z_pos}
use Rattle.arith.proofs.Numbers.{held_same}
use Rattle.octets.proofs.Bytes.{whole_from}
use Rattle.csl.specs.Numbers.{Held, held, quot}
use Rattle.csl.specs.Bytes.{byte, signed32, part, is_record, kind_number, record_end}
use Rattle.csl.specs.Syntax.{Expr, bad_expr, arithmetic}
use Rattle.csl.specs.Decode.{ExprKind, number_kind, truth_kind, party_kind, variable_kind, expr_kind, expr_body, expr}
use Rattle.csl.specs.Decode.{of_length}
use Rattle.cells.specs.Evaluate.{apply_cells, eval_cells, is_true_cell, truth_cell}
use Rattle.records.proofs.Trees.{expr_zero, expr_none, expr_at, kind_leaf, kind_not, kind_binary, kind_no_expr_low}
use Rattle.records.proofs.Trees.{kind_no_expr_high}
use Rattle.records.specs.Kinds.{leaf_kind, op_of, arithmetic_of}
use Rattle.evaluation.specs.Parts.{leaf_of}

pub nought_held : Held (pos 0)
nought_held = record { bounded = lit≤ tt }

-- any cell but 0 is true
pub true_is : {t b : Bool} → b ≡ t → not b ≡ cond t false true
true_is {t = true} e = rw e
true_is {t = false} e = rw e

pub truth_is : (b : Bool) → cond b (pos 1) (pos 0) ≡ truth_cell b
unfolding truth_cell
truth_is true = refl
truth_is false = refl

-- the kinds of operators that are no others
pub other_op : (k : ℕ) → (k ≡ 37 → ⊥) → (k ≡ 38 → ⊥) → (k ≡ 39 → ⊥) → (k ≡ 41 → ⊥) → (k ≡ 42 → ⊥) → (k ≡ 43 → ⊥)
    → op_of k ≡ arithmetic quot
unfolding op_of arithmetic_of
other_op k a b c d e f = rw (ne_eqb k 41 d, ne_eqb k 42 e, ne_eqb k 43 f, ne_eqb k 37 a, ne_eqb k 38 b, ne_eqb k 39 c)

turned : (t : Bool) → cond (not t) (pos 1) (pos 0) ≡ cond t (pos 0) (pos 1)
turned true = refl
turned false = refl

-- ---- leaves
module _ (vs : List ℤ) (s : List ℕ) {k : ℕ} where
  pub leaf_number : k ≡ 32 → length s ≡ 8 → held (signed32 s 4) ≡ eval_cells vs (leaf_of s k)
  unfolding leaf_of leaf_kind expr_body of_length eval_cells
  leaf_number e l = rw (e, l)

  pub leaf_number_bad : k ≡ 32 → (length s ≡ 8 → ⊥) → pos 0 ≡ eval_cells vs (leaf_of s k)
  unfolding leaf_of leaf_kind expr_body of_length eval_cells
  leaf_number_bad e l = rw (e, ne_eqb (length s) 8 l)

module _ (vs : List ℤ) (s : List ℕ) (k : ℕ) where
  pub leaf_literal : 32 ≤ k → (k ≡ 32 → ⊥) → k < 35 → length s ≡ 5 → pos (byte s 4) ≡ eval_cells vs (leaf_of s k)
  unfolding leaf_of leaf_kind expr_body of_length eval_cells
  leaf_literal l n u e = by_party (eqb k 33) refl
    where
      by_party : (b : Bool) → eqb k 33 ≡ b → pos (byte s 4) ≡ eval_cells vs
          (expr_body (λ t. bad_expr) s (cond (eqb k 32) number_kind
          (cond b truth_kind (cond (eqb k 34) party_kind variable_kind))))
      by_party true q = rw (ne_eqb k 32 n, e)
      by_party false q = rw (ne_eqb k 32 n, eq-eqb k 34 (omega (arith, eqb-false k 33 q)), e)

  pub leaf_variable : 35 ≤ k → length s ≡ 5 → held (get_or vs (byte s 4) (pos 0)) ≡ eval_cells vs (leaf_of s k)
  unfolding leaf_of leaf_kind expr_body of_length eval_cells
  leaf_variable l e = rw (
    ne_eqb k 32 (λ h. omega arith),
    ne_eqb k 33 (λ h. omega arith),
    ne_eqb k 34 (λ h. omega arith),
    e,
  )

  pub leaf_bad : (k ≡ 32 → ⊥) → (length s ≡ 5 → ⊥) → pos 0 ≡ eval_cells vs (leaf_of s k)
  unfolding leaf_of leaf_kind expr_body of_length eval_cells
  leaf_bad n l = by_kind (eqb k 33) (eqb k 34)
    where
      by_kind : (b c : Bool) → pos 0 ≡ eval_cells vs
          (expr_body (λ t. bad_expr) s
          (cond (eqb k 32) number_kind (cond b truth_kind (cond c party_kind variable_kind))))
      by_kind true c = rw (ne_eqb k 32 n, ne_eqb (length s) 5 l)
      by_kind false true = rw (ne_eqb k 32 n, ne_eqb (length s) 5 l)
      by_kind false false = rw (ne_eqb k 32 n, ne_eqb (length s) 5 l)

-- a byte as a cell
pub byte_held : {b n : ℕ} → b ≡ n → b < 256 → held (to_z w64 b) ≡ pos n
byte_held {b} {n} e l =
    rw (to_z_pos w64 b (omega arith), e) (sym (held_same (record { bounded = omega arith })))

pub nought : held (pos 0) ≡ pos 0
nought = sym (held_same nought_held)

-- within a leaf there is nothing
leaf_inner : (inner : List ℕ → Expr) (s : List ℕ) (k : ℕ) → leaf_of s k ≡ expr_body inner s (leaf_kind k)
unfolding leaf_of leaf_kind expr_body
leaf_inner inner s k = by_kind (eqb k 32) (eqb k 33) (eqb k 34)
  where
    by_kind : (a b c : Bool) → expr_body (λ t. bad_expr) s
        (cond a number_kind (cond b truth_kind (cond c party_kind variable_kind))) ≡ expr_body inner s
        (cond a number_kind (cond b truth_kind (cond c party_kind variable_kind)))
    by_kind true b c = refl
    by_kind false true c = refl
    by_kind false false true = refl
    by_kind false false false = refl

-- ---- `number`
-- the code tests that the bytes are no record
pub room : (s : List ℕ) {b : Bool} → b ≡ is_record s → not b ≡ false → 4 ≤ length s
room s g h = (whole_from s (sym g ∙ not-false _ h)).room

module _ (vs : List ℤ) (d : ℕ) (s : List ℕ) where
  pub number_zero : d ≡ 0 → pos 0 ≡ eval_cells vs (expr d s)
  unfolding eval_cells
  number_zero e = expr_zero (eval_cells vs) d s e refl

  pub number_none : {b : Bool} → (d ≡ 0 → ⊥) → b ≡ is_record s → b ≡ false → pos 0 ≡ eval_cells vs (expr d s)
  unfolding eval_cells
  number_none n g h = expr_none (eval_cells vs) d s n g h refl

module _ (vs : List ℤ) (d : ℕ) (s : List ℕ) {b : Bool} {m : ℕ} (n : d ≡ 0 → ⊥) (g : b ≡ is_record s)
    (h : b ≡ true) (k : m ≡ kind_number s) where
  to : {e : ExprKind} → expr_kind m ≡ e → {z : ℤ} → z ≡ eval_cells vs (expr_body (expr (d - 1)) s e)
      → z ≡ eval_cells vs (expr d s)
  to e p = expr_at (eval_cells vs) d s n g h k (rw e p)

  pub number_leaf : {z : ℤ} → 32 ≤ m → m < 36 → z ≡ eval_cells vs (leaf_of s m) → z ≡ eval_cells vs (expr d s)
  number_leaf l u p = to (kind_leaf m l u) (p ∙ ap (eval_cells vs) (leaf_inner (expr (d - 1)) s m))

  pub number_not : {x z : ℤ} {t : Bool} → m ≡ 36 → x ≡ eval_cells vs (expr (d - 1) (part s 4 (length s)))
      → t ≡ is_true_cell x → z ≡ cond (not t) (pos 1) (pos 0) → z ≡ eval_cells vs (expr d s)
  unfolding eval_cells expr_body
  number_not {x} {t = t} e q r p =
      to (kind_not e) (p ∙ turned t ∙ rw (r, q) refl)

  pub number_binary : {cut : ℕ} {x y z : ℤ} → 37 ≤ m → m < 44 → cut ≡ record_end s 4
      → x ≡ eval_cells vs (expr (d - 1) (part s 4 cut)) → y ≡ eval_cells vs (expr (d - 1) (part s cut (length s)))
      → z ≡ apply_cells (op_of m) x y → z ≡ eval_cells vs (expr d s)
  unfolding eval_cells expr_body
  number_binary l u i q r p = to (kind_binary m l u) (rw (← i, ← q, ← r) p)

  pub number_low : m < 32 → pos 0 ≡ eval_cells vs (expr d s)
  unfolding eval_cells expr_body
  number_low u = expr_at (eval_cells vs) d s n g h k (rw (kind_no_expr_low m u) refl)

  pub number_high : 44 ≤ m → pos 0 ≡ eval_cells vs (expr d s)
  unfolding eval_cells expr_body
  number_high l = expr_at (eval_cells vs) d s n g h k (rw (kind_no_expr_high m l) refl)
