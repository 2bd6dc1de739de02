-- Whether the tree of an expression is whole, by what the code found of its record.
use mathlib.Core.Path.{◌≡◌, refl, sym, ◌∙◌}
use mathlib.Core.Bool.{Bool, true, false, cond, ◌&&◌, and_assoc}
use mathlib.Core.List.{List}
use Prim.Native.Nat.{ℕ, zero, suc, ◌+◌, ◌-◌, ◌≤◌, ◌<◌}
use native.Mathlib.Omega.{arith}
use borrow.Author.Tests.{ne_eqb, lt-leb}
use borrow.Author.Rules.{rules}
use lib.Dec.{eqb}
use lib.ListN.{length}
use Rattle.csl.specs.Lists.{all}
use Rattle.csl.specs.Bytes.{byte, signed32, part, is_record, kind_number, record_end}
use Rattle.csl.specs.Syntax.{Expr, number_lit, truth_lit, party_lit, variable, bad_expr}
use Rattle.csl.specs.Decode.{truth_kind, party_kind, variable_kind, expr_kind, of_length, expr_body, expr, whole_expr}
use Rattle.csl.specs.Decode.{wait_at, whole_wait, records_end, arguments}
use Rattle.formed.specs.Tests.{arguments_whole}
use Rattle.laws.proofs.Bools.{true_first, false_first}
use Rattle.octets.proofs.Bytes.{whole_from, record_no, record_end_within}
use Rattle.arith.proofs.Lists.{length_part}
use Rattle.records.proofs.Trees.{expr_zero, expr_none, expr_at, kind_number_lem, kind_leaf, kind_not, kind_binary}
use Rattle.records.proofs.Trees.{kind_no_expr_low, kind_no_expr_high}
use Rattle.records.specs.Kinds.{leaf_kind}

-- ---- a record has a head
pub record_room : (s : List ℕ) {b : Bool} → b ≡ is_record s → b ≡ true → 4 ≤ length s
record_room s p q = (whole_from s (sym p ∙ q)).room

-- ---- an expression
module _ (d : ℕ) (s : List ℕ) where
  pub no_depth : d ≡ 0 → false ≡ whole_expr (expr d s)
  unfolding whole_expr
  no_depth e = expr_zero whole_expr d s e refl

  pub no_record : {b : Bool} → (d ≡ 0 → ⊥) → b ≡ is_record s → b ≡ false → false ≡ whole_expr (expr d s)
  unfolding whole_expr
  no_record n p q = expr_none whole_expr d s n p q refl

  pub by_kind : {b r : Bool} {k : ℕ} → (d ≡ 0 → ⊥) → b ≡ is_record s → b ≡ true → k ≡ kind_number s
      → r ≡ whole_expr (expr_body (expr (d - 1)) s (expr_kind k)) → r ≡ whole_expr (expr d s)
  by_kind = expr_at whole_expr d s

sized : (t : Bool) (e : Expr) → whole_expr e ≡ true → t ≡ whole_expr (cond t e bad_expr)
unfolding whole_expr
sized true e p = sym p
sized false e p = refl

-- by the kind's number k, as a `match` finds it
module _ (i : List ℕ → Expr) (s : List ℕ) where
  leaf : (a b : Bool)
      → eqb (length s) 5 ≡ whole_expr (expr_body i s (cond a truth_kind (cond b party_kind variable_kind)))
  unfolding expr_body of_length whole_expr
  leaf true b = sized (eqb (length s) 5) (truth_lit (byte s 4)) refl
  leaf false true = sized (eqb (length s) 5) (party_lit (byte s 4)) refl
  leaf false false = sized (eqb (length s) 5) (variable (byte s 4)) refl

  module _ (k : ℕ) where
    pub number_formed : k ≡ 32 → eqb (length s) 8 ≡ whole_expr (expr_body i s (expr_kind k))
    unfolding expr_body of_length whole_expr
    number_formed e = rw (kind_number_lem e) (sized (eqb (length s) 8) (number_lit (signed32 s 4)) refl)

    pub leaf_formed : 32 ≤ k → (k ≡ 32 → ⊥) → k < 36 → eqb (length s) 5 ≡ whole_expr (expr_body i s (expr_kind k))
    unfolding leaf_kind
    leaf_formed l n u = rw (kind_leaf k l u, ne_eqb k 32 n) (leaf (eqb k 33) (eqb k 34))

    pub not_formed : {r : Bool} → k ≡ 36 → r ≡ whole_expr (i (part s 4 (length s)))
        → r ≡ whole_expr (expr_body i s (expr_kind k))
    unfolding expr_body whole_expr
    not_formed e q = rw (kind_not e) q

    pub binary_formed : {r : Bool} {c : ℕ} → 36 ≤ k → (k ≡ 36 → ⊥) → k < 44 → c ≡ record_end s 4
        → r ≡ (whole_expr (i (part s 4 c)) && whole_expr (i (part s c (length s))))
        → r ≡ whole_expr (expr_body i s (expr_kind k))
    unfolding expr_body whole_expr
    binary_formed l n u p q = rw (kind_binary k (omega arith) u, ← p) q

    pub no_expr_low : k < 32 → false ≡ whole_expr (expr_body i s (expr_kind k))
    unfolding expr_body whole_expr
    no_expr_low u = rw (kind_no_expr_low k u)

    pub no_expr_high : 44 ≤ k → false ≡ whole_expr (expr_body i s (expr_kind k))
    unfolding expr_body whole_expr
    no_expr_high l = rw (kind_no_expr_high k l)

pub ruleset walking = (true_first, false_first, record_room, rules)

pub ruleset exprs = (
  no_depth,
  no_record,
  by_kind,
  number_formed,
  leaf_formed,
  not_formed,
  binary_formed,
  no_expr_low,
  no_expr_high,
  walking,
)

-- an expression that ends at c, where a call says that it ends
pub ends_at : (d : ℕ) (s : List ℕ) {r : Bool} {c : ℕ} → c ≡ record_end s 4 → r ≡ whole_expr (expr d (part s 4 c))
    → r ≡ whole_expr (expr d (part s 4 (record_end s 4)))
ends_at d s p q = rw (← p) q

-- no bytes are no expression
pub nothing : (d : ℕ) (s : List ℕ) → length s < 4 → false ≡ whole_expr (expr d s)
nothing zero s l = no_depth zero s refl
nothing (suc d) s l = no_record (suc d) s (λ e. omega arith) (record_no s l) (lt-leb 4 (length s) l)

-- ---- `where`, `after` and `within`
module _ (d : ℕ) (s : List ℕ) (i : ℕ) where
  pub wait_short : length s ≤ i → false ≡ whole_wait (wait_at (expr d) 0 s i)
  unfolding whole_wait wait_at
  wait_short l =
      let a = record_end s (i + 1) in
      rw (sym (nothing d (part s (i + 1) a) (omega
      (arith, length_part s (i + 1) a (record_end_within s (i + 1)), record_end_within s (i + 1)))))

  pub wait_whole : {r : Bool} {a b e : ℕ} → a ≡ record_end s (i + 1) → b ≡ record_end s a → e ≡ record_end s b
      → r ≡ (whole_expr (expr d (part s (i + 1) a))
      && (whole_expr (expr d (part s a b)) && whole_expr (expr d (part s b e))))
      → r ≡ whole_wait (wait_at (expr d) 0 s i)
  unfolding whole_wait wait_at
  wait_whole p q t h = h ∙ rw (t, q, p) (sym
      (and_assoc (whole_expr (expr d (part s (i + 1) (record_end s (i + 1))))) _ _))

-- ---- an instance's arguments, and where they end; k of n are whole, and the next stands at a
module _ (d : ℕ) (s : List ℕ) (n m : ℕ) (a : ℕ) {k : ℕ} {w : Bool} (h : w ≡ arguments_whole d s a (n - k) m) where
  pub arguments_end : n ≤ k → eqb (a + m) (length s) ≡ w
  unfolding all arguments records_end
  arguments_end l = let none : n - k ≡ 0 = omega arith in rw none at (sym h)

  module _ {e : ℕ} {r : Bool} (l : k < n) (p : e ≡ record_end s a) (q : r ≡ whole_expr (expr d (part s a e))) where
    next : w ≡ (r && arguments_whole d s e (n - (k + 1)) m)
    unfolding all arguments records_end
    next =
        let one : n - k ≡ suc (n - (k + 1)) = omega arith in
        (rw one at h) ∙ rw (q, p) (and_assoc (whole_expr (expr d (part s a (record_end s a)))) _ _)

    pub arguments_on : r ≡ true → w ≡ arguments_whole d s e (n - (k + 1)) m
    arguments_on t = next ∙ rw t

    pub arguments_off : r ≡ false → false ≡ w
    arguments_off t = sym (next ∙ rw t)

pub ruleset waits = (wait_short, wait_whole, walking)

pub ruleset rows = (arguments_end, arguments_on, arguments_off, walking)
