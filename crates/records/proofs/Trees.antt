-- Laws for a walk over a record's tree: what the code knows at a place, and what the tree is there.
use mathlib.Core.Path.{◌≡◌, refl, sym, ap, ◌∙◌, subst}
use mathlib.Core.Bool.{Bool, true, false, cond}
use mathlib.Core.List.{List}
use Prim.Native.Nat.{ℕ, zero, suc, ◌+◌, ◌-◌, ◌<◌, ◌≤◌}
use native.Mathlib.Numerals.{sub-one}
use native.Mathlib.Decide.{dec_le}
use native.Mathlib.Omega.{arith}
use borrow.Author.Tests.{ne_eqb}
use lib.Dec.{eqb, T}
use lib.ListN.{length}
use Rattle.csl.specs.Bytes.{byte, part, is_record, kind_number, record_end}
use Rattle.csl.specs.Syntax.{Expr, bad_expr, Clause, obligation, choice, if, join, bad_clause, Head}
use Rattle.csl.specs.Decode.{ExprKind, number_kind, not_kind, binary_kind, no_expr, expr_kind, expr_body, expr_head}
use Rattle.csl.specs.Decode.{expr}
use Rattle.csl.specs.Decode.{ClauseKind, fulfilled_kind, obligation_kind, choice_kind, if_kind, join_kind}
use Rattle.csl.specs.Decode.{instance_kind}
use Rattle.csl.specs.Decode.{no_clause, clause_kind, wait_at, clause_body, clause_head, clause, whole}
use Rattle.laws.specs.Joins.{join_of}
use Rattle.laws.proofs.Bools.{by_test}
use Rattle.records.specs.Index.{first_clause}
use Rattle.records.specs.Kinds.{leaf_kind, arithmetic_of, op_of}

-- ---- one step of the tree
expr_step : (d : ℕ) (s : List ℕ) (k : ExprKind) → (d ≡ 0 → ⊥) → expr_head s ≡ k
    → expr d s ≡ expr_body (expr (d - 1)) s k
unfolding expr
expr_step zero s k p e = absurd (p refl)
expr_step (suc d) s k p e = rw (sub-one, e)

clause_step : (hs : List Head) (d p : ℕ) (s : List ℕ) (k : ClauseKind) → (d ≡ 0 → ⊥) → clause_head s ≡ k
    → clause hs d p s ≡ clause_body hs (expr (d - 1)) (clause hs (d - 1)) p s k
unfolding clause
clause_step hs zero p s k n e = absurd (n refl)
clause_step hs (suc d) p s k n e = rw (sub-one, e)

-- ---- expressions: f of the tree, by what the code knows
module _ {A : Type 0} (f : Expr → A) (d : ℕ) (s : List ℕ) {r : A} where
  pub expr_zero : d ≡ 0 → r ≡ f bad_expr → r ≡ f (expr d s)
  unfolding expr
  expr_zero e h = rw e h

  pub expr_none : {b : Bool} → (d ≡ 0 → ⊥) → b ≡ is_record s → b ≡ false → r ≡ f bad_expr → r ≡ f (expr d s)
  unfolding expr_head expr_body
  expr_none p e h q = q ∙ ap f (sym (expr_step d s no_expr p (rw (sym e ∙ h))))

  -- the body, by the kind's number
  pub expr_at : {b : Bool} {n : ℕ} → (d ≡ 0 → ⊥) → b ≡ is_record s → b ≡ true → n ≡ kind_number s
      → r ≡ f (expr_body (expr (d - 1)) s (expr_kind n)) → r ≡ f (expr d s)
  unfolding expr_head
  expr_at {n = n} p e h k q = q ∙ ap f (sym (expr_step d s (expr_kind n) p (rw (sym e ∙ h, k))))

-- ---- clauses
module _ {A : Type 0} (f : Clause → A) (hs : List Head) (d p : ℕ) (s : List ℕ) {r : A} where
  pub clause_zero : d ≡ 0 → r ≡ f bad_clause → r ≡ f (clause hs d p s)
  unfolding clause
  clause_zero e h = rw e h

  pub clause_none : {b : Bool} → (d ≡ 0 → ⊥) → b ≡ is_record s → b ≡ false → r ≡ f bad_clause → r ≡ f (clause hs d p s)
  unfolding clause_head clause_body
  clause_none n e h q = q ∙ ap f (sym (clause_step hs d p s no_clause n (rw (sym e ∙ h))))

  pub clause_at_lem : {b : Bool} {m : ℕ} → (d ≡ 0 → ⊥) → b ≡ is_record s → b ≡ true → m ≡ kind_number s
      → r ≡ f (clause_body hs (expr (d - 1)) (clause hs (d - 1)) p s (clause_kind m)) → r ≡ f (clause hs d p s)
  unfolding clause_head
  clause_at_lem {m = m} n e h k q = q ∙ ap f (sym (clause_step hs d p s (clause_kind m) n (rw (sym e ∙ h, k))))

-- a clause of which something holds that does not hold of a bad one has a depth left, and is a record
module _ (P : Clause → Type 0) (bad : P bad_clause → ⊥) (hs : List Head) (d p : ℕ) (s : List ℕ)
    (h : P (clause hs d p s))
  where
    pub clause_deep : d ≡ 0 → ⊥
    clause_deep e = bad (subst P (sym (clause_zero (λ c. c) hs d p s e refl)) h)

    pub clause_record : is_record s ≡ true
    clause_record = by_test (is_record s) (λ e. e) λ e.
        absurd (bad (subst P (sym (clause_none (λ c. c) hs d p s clause_deep (sym e) refl refl)) h))

bad_not_whole : T (whole bad_clause) → ⊥
unfolding whole
bad_not_whole t = t

module _ (hs : List Head) (d p : ℕ) (s : List ℕ) (t : T (whole (clause hs d p s))) where
  pub whole_deep : d ≡ 0 → ⊥
  whole_deep = clause_deep (λ c. T (whole c)) bad_not_whole hs d p s t

  pub whole_record : is_record s ≡ true
  whole_record = clause_record (λ c. T (whole c)) bad_not_whole hs d p s t

-- ---- kinds by their numbers, as a `match` finds them
-- a number from a on, as a and what it is above it: then each can be tried
from_on : (a : ℕ) (P : ℕ → Type 0) (k : ℕ) → a ≤ k → P (a + (k - a)) → P k
from_on a P k l p = subst P (let e : a + (k - a) ≡ k = omega arith in e) p

pub kind_number_lem : {k : ℕ} → k ≡ 32 → expr_kind k ≡ number_kind
unfolding expr_kind
kind_number_lem e = rw e refl

pub kind_leaf : (k : ℕ) → 32 ≤ k → k < 36 → expr_kind k ≡ leaf_kind k
unfolding expr_kind leaf_kind
kind_leaf k l u = from_on 32 (λ (m : ℕ). expr_kind m ≡ leaf_kind m) k l (tried (k - 32) (omega arith))
  where
    tried : (j : ℕ) → j < 4 → expr_kind (32 + j) ≡ leaf_kind (32 + j)
    tried zero h = refl
    tried (suc zero) h = refl
    tried (suc (suc zero)) h = refl
    tried (suc (suc (suc zero))) h = refl
    tried (suc (suc (suc (suc j)))) h = absurd (omega arith)

pub kind_not : {k : ℕ} → k ≡ 36 → expr_kind k ≡ not_kind
unfolding expr_kind
kind_not e = rw e refl

pub kind_binary : (k : ℕ) → 37 ≤ k → k < 44 → expr_kind k ≡ binary_kind (op_of k)
unfolding expr_kind op_of arithmetic_of
kind_binary k l u = from_on 37 (λ (m : ℕ). expr_kind m ≡ binary_kind (op_of m)) k l (tried (k - 37) (omega arith))
  where
    tried : (j : ℕ) → j < 7 → expr_kind (37 + j) ≡ binary_kind (op_of (37 + j))
    tried zero h = refl
    tried (suc zero) h = refl
    tried (suc (suc zero)) h = refl
    tried (suc (suc (suc zero))) h = refl
    tried (suc (suc (suc (suc zero)))) h = refl
    tried (suc (suc (suc (suc (suc zero))))) h = refl
    tried (suc (suc (suc (suc (suc (suc zero)))))) h = refl
    tried (suc (suc (suc (suc (suc (suc (suc j))))))) h = absurd (omega arith)

not_listed : (k : ℕ) → (32 ≤ k → k < 44 → ⊥) → expr_kind k ≡ no_expr
unfolding expr_kind
not_listed k far = rw (
  ne_eqb k 32 (λ e. far (omega arith) (omega arith)),
  ne_eqb k 33 (λ e. far (omega arith) (omega arith)),
  ne_eqb k 34 (λ e. far (omega arith) (omega arith)),
  ne_eqb k 35 (λ e. far (omega arith) (omega arith)),
  ne_eqb k 36 (λ e. far (omega arith) (omega arith)),
  ne_eqb k 37 (λ e. far (omega arith) (omega arith)),
  ne_eqb k 38 (λ e. far (omega arith) (omega arith)),
  ne_eqb k 39 (λ e. far (omega arith) (omega arith)),
  ne_eqb k 40 (λ e. far (omega arith) (omega arith)),
  ne_eqb k 41 (λ e. far (omega arith) (omega arith)),
  ne_eqb k 42 (λ e. far (omega arith) (omega arith)),
  ne_eqb k 43 (λ e. far (omega arith) (omega arith)),
) refl

pub kind_no_expr_low : (k : ℕ) → k < 32 → expr_kind k ≡ no_expr
kind_no_expr_low k u = not_listed k (λ h g. omega arith)

pub kind_no_expr_high : (k : ℕ) → 44 ≤ k → expr_kind k ≡ no_expr
kind_no_expr_high k l = not_listed k (λ h g. omega arith)

pub kind_fulfilled : {k : ℕ} → k ≡ 16 → clause_kind k ≡ fulfilled_kind
unfolding clause_kind
kind_fulfilled e = rw e refl

pub kind_obligation : {k : ℕ} → k ≡ 17 → clause_kind k ≡ obligation_kind
unfolding clause_kind
kind_obligation e = rw e refl

pub kind_choice : {k : ℕ} → k ≡ 18 → clause_kind k ≡ choice_kind
unfolding clause_kind
kind_choice e = rw e refl

pub kind_if : {k : ℕ} → k ≡ 19 → clause_kind k ≡ if_kind
unfolding clause_kind
kind_if e = rw e refl

pub kind_join : (k : ℕ) → 20 ≤ k → k < 22 → clause_kind k ≡ join_kind (join_of k)
unfolding clause_kind join_of
kind_join k l u = from_on 20 (λ (m : ℕ). clause_kind m ≡ join_kind (join_of m)) k l (tried (k - 20) (omega arith))
  where
    tried : (j : ℕ) → j < 2 → clause_kind (20 + j) ≡ join_kind (join_of (20 + j))
    tried zero h = refl
    tried (suc zero) h = refl
    tried (suc (suc j)) h = absurd (omega arith)

pub kind_instance : {k : ℕ} → k ≡ 22 → clause_kind k ≡ instance_kind
unfolding clause_kind
kind_instance e = rw e refl

no_clause_lem : (k : ℕ) → (16 ≤ k → k < 23 → ⊥) → clause_kind k ≡ no_clause
unfolding clause_kind
no_clause_lem k far = rw (
  ne_eqb k 16 (λ e. far (omega arith) (omega arith)),
  ne_eqb k 17 (λ e. far (omega arith) (omega arith)),
  ne_eqb k 18 (λ e. far (omega arith) (omega arith)),
  ne_eqb k 19 (λ e. far (omega arith) (omega arith)),
  ne_eqb k 20 (λ e. far (omega arith) (omega arith)),
  ne_eqb k 21 (λ e. far (omega arith) (omega arith)),
  ne_eqb k 22 (λ e. far (omega arith) (omega arith)),
) refl

pub kind_no_clause_low : (k : ℕ) → k < 16 → clause_kind k ≡ no_clause
kind_no_clause_low k u = no_clause_lem k (λ h g. omega arith)

pub kind_no_clause_high : (k : ℕ) → 23 ≤ k → clause_kind k ≡ no_clause
kind_no_clause_high k l = no_clause_lem k (λ h g. omega arith)

pub kind_no_clause_from : (k : ℕ) → (k ≡ 22 → ⊥) → 22 ≤ k → clause_kind k ≡ no_clause
kind_no_clause_from k f l = kind_no_clause_high k (omega arith)

-- ---- a clause of kind 18 to 21 has two sides
unfoldable pub sided : (List ℕ → Expr) → ℕ → List ℕ → ℕ → Clause → Clause → Clause
sided e p s k t f = cond (eqb k 18) (choice (wait_at e p s 4) t f)
    (cond (eqb k 19) (if (e (part s 4 (record_end s 4))) t f) (join (join_of k) t f))

pub sided_choice : (e : List ℕ → Expr) (p : ℕ) (s : List ℕ) {k : ℕ} (t f : Clause) → k ≡ 18
    → sided e p s k t f ≡ choice (wait_at e p s 4) t f
unfolding sided
sided_choice e p s t f h = rw h refl

pub sided_if : (e : List ℕ → Expr) (p : ℕ) (s : List ℕ) {k : ℕ} (t f : Clause) → k ≡ 19
    → sided e p s k t f ≡ if (e (part s 4 (record_end s 4))) t f
unfolding sided
sided_if e p s t f h = rw h refl

pub sided_join : (e : List ℕ → Expr) (p : ℕ) (s : List ℕ) (k : ℕ) (t f : Clause) → 20 ≤ k
    → sided e p s k t f ≡ join (join_of k) t f
unfolding sided
sided_join e p s k t f l = rw (ne_eqb k 18 (λ h. omega arith), ne_eqb k 19 (λ h. omega arith)) refl

first_join : (k : ℕ) (s : List ℕ) → 20 ≤ k → first_clause k s ≡ 4
unfolding first_clause
first_join k s l = rw (ne_eqb k 17 (λ h. omega arith), ne_eqb k 18 (λ h. omega arith), ne_eqb k 19 (λ h. omega arith))
    refl

-- the body of a clause, by where its clause parts begin and end
module _ (hs : List Head) (e : List ℕ → Expr) (inner : ℕ → List ℕ → Clause) (p : ℕ) (s : List ℕ) where
  abbrev pub Two : ℕ → Clause
  Two k =
      let c = first_clause k s in
      let f = record_end s c in
      sided e p s k (inner (p + c) (part s c f)) (inner (p + f) (part s f (length s)))

  pub body_wait : {k : ℕ} → k ≡ 17 → clause_body hs e inner p s (clause_kind k) ≡ obligation (byte s 4)
      (wait_at e p s 5)
      (inner (p + first_clause k s) (part s (first_clause k s) (length s)))
  unfolding clause_body clause_kind first_clause
  body_wait h = rw h refl

  two_choice : {k : ℕ} → k ≡ 18 → clause_body hs e inner p s (clause_kind k) ≡ Two k
  unfolding clause_body clause_kind first_clause sided
  two_choice h = rw h refl

  two_if : {k : ℕ} → k ≡ 19 → clause_body hs e inner p s (clause_kind k) ≡ Two k
  unfolding clause_body clause_kind first_clause sided
  two_if h = rw h refl

  two_join : (k : ℕ) → 20 ≤ k → k < 22 → clause_body hs e inner p s (clause_kind k) ≡ Two k
  unfolding clause_body
  two_join k l u =
      let t = record_end s 4 in
      rw (
        kind_join k l u,
        first_join k s l,
        sided_join e p s k (inner (p + 4) (part s 4 t)) (inner (p + t) (part s t (length s))) l,
      ) refl

  pub body_two : (k : ℕ) → 18 ≤ k → k < 22 → clause_body hs e inner p s (clause_kind k) ≡ Two k
  body_two k l u = first (dec_le k 18) (dec_le k 19)
    where
      first : Dec (k ≤ 18) → Dec (k ≤ 19) → clause_body hs e inner p s (clause_kind k) ≡ Two k
      first (yes h) _ = two_choice (omega arith)
      first (no h) (yes g) = two_if (omega arith)
      first (no h) (no g) = two_join k (omega arith) u

-- f of the tree, by what the code knows: c and z are what calls gave
module _ {A : Type 0} (f : Clause → A) (hs : List Head) (d p : ℕ) (s : List ℕ) {r : A} {b : Bool} {m : ℕ}
    (n : d ≡ 0 → ⊥) (g : b ≡ is_record s) (h : b ≡ true) (k : m ≡ kind_number s) where
  pub clause_wait : {c : ℕ} → m ≡ 17 → c ≡ first_clause m s
      → r ≡ f (obligation (byte s 4) (wait_at (expr (d - 1)) p s 5) (clause hs (d - 1) (p + c) (part s c (length s))))
      → r ≡ f (clause hs d p s)
  clause_wait {c} e i q = clause_at_lem f hs d p s n g h k
      (q ∙ ap f (rw i (sym (body_wait hs (expr (d - 1)) (clause hs (d - 1)) p s e))))

  pub clause_two : {c z : ℕ} → 18 ≤ m → m < 22 → c ≡ first_clause m s → z ≡ record_end s c
      → r ≡ f (sided (expr (d - 1)) p s m (clause hs (d - 1) (p + c) (part s c z))
      (clause hs (d - 1) (p + z) (part s z (length s)))) → r ≡ f (clause hs d p s)
  clause_two {c} {z} l u i j q = clause_at_lem f hs d p s n g h k
      (q ∙ ap f (rw (j, i) (sym (body_two hs (expr (d - 1)) (clause hs (d - 1)) p s m l u))))
