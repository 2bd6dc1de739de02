-- The types of expressions are as csl has them.
use mathlib.Core.Path.{◌≡◌, refl, sym, ap, ◌∙◌}
use mathlib.Core.Bool.{Bool, true, false, cond, ◌&&◌}
use mathlib.Core.List.{List, [], ◌∷◌}
use mathlib.Core.Option.{Option, none, some}
use Prim.Native.Nat.{ℕ, zero, suc, ◌-◌, ◌<◌, ◌≤◌, ◌^◌, min}
use native.Mathlib.Numerals.{sub-one}
use native.Mathlib.Omega.{arith}
use native.Mathlib.Nat.{not-suc-le-zero, le_of_suc-le-suc}
use borrow.Author.Tests.{ne_eqb, eq-eqb, lt-ltb, ltb-true}
use lib.Dec.{ltb, eqb, leb}
use lib.ListN.{length, get_or}
use lib.IntN.{ℤ}
use lib.Signed.{mag}
use Rattle.std.specs.Prelude.{Some, None}
use Rattle.std.specs.Prelude as prelude
use Rattle.std.specs.Bool.{then_some}
use Rattle.std.specs.Option.{option_eq}
use Rattle.csl.specs.Lists.{◌>>=◌, need, at}
use Rattle.csl.specs.Numbers.{in_range, Arithmetic}
use Rattle.csl.specs.Bytes.{byte, signed32, part, is_record, kind_number, record_end}
use Rattle.csl.specs.Syntax.{Ty, number, truth, party, Op, arithmetic, conj, less, equal, Expr, number_lit, truth_lit}
use Rattle.csl.specs.Syntax.{party_lit, variable, negation, binary, bad_expr}
use Rattle.csl.specs.Decode.{number_kind, truth_kind, party_kind, variable_kind, expr_body, expr_kind, expr_head}
use Rattle.csl.specs.Decode.{no_expr}
use Rattle.csl.specs.Decode.{of_length, expr, ty_of, tys_of}
use Rattle.csl.specs.Typing.{type_expr, same_ty, operand, result}
use Rattle.laws.proofs.Bools.{by}
use Rattle.laws.proofs.Clash.{impossible}
use Rattle.arith.proofs.Ints.{seen, read! }
use Rattle.octets.proofs.Bytes.{whole_from}
use Rattle.records.proofs.Trees.{kind_leaf, kind_not, kind_binary, kind_no_expr_low, kind_no_expr_high}
use Rattle.records.specs.Kinds.{leaf_kind, op_of, arithmetic_of}
use Rattle.kinds.specs.declared.«Type».{«Type»}
use Rattle.kinds.specs.declared.«Type».TheVariants.{Number, Truth, Party}
use Rattle.kinds.specs.Kinds.{ty_in}
use Rattle.kinds.specs.contracts.«Type».{the_type}
use denote.Enum.Bare.{sameb}
use Rattle.typing.specs.Types.{record_kind, ty_as, type_as, sight_type, literal_type, leaf_type}
use Rattle.typing.specs.Clauses.{has}
use Rattle.typing.specs.Types.{same_type, not_type, operand_type, result_type, operation_type}

-- ---- types
pub same_as : (s t : Ty) → same_type (ty_as s) (ty_as t) ≡ same_ty s t
unfolding ty_as same_ty
same_as number number = refl
same_as number truth = refl
same_as number party = refl
same_as truth number = refl
same_as truth truth = refl
same_as truth party = refl
same_as party number = refl
same_as party truth = refl
same_as party party = refl

-- the type that code found
found : {C : Type 0} (o : Option Ty) {t : «Type»} → Some t ≡ type_as o → ((u : Ty) → o ≡ some u → t ≡ ty_as u → C) → C
unfolding type_as
found none e c = impossible cc
found (some u) e c = c u refl (cc)

not_found : (o : Option Ty) → None ≡ type_as o → o ≡ none
unfolding type_as
not_found none e = refl
not_found (some u) e = impossible cc

pub in_as : (t : «Type») → ty_as (ty_in t) ≡ t
unfolding ty_as
in_as Number = refl
in_as Truth = refl
in_as Party = refl

-- what code reads of a type byte
pub byte_as : (b : ℕ) {t : «Type»} → ty_in t ≡ ty_of b → t ≡ ty_as (ty_of b)
byte_as b {t} e = sym (in_as t) ∙ ap ty_as e

pub sight_in : (bs : List ℕ) (i : ℕ) {t : «Type»} → i < length bs → ty_in t ≡ ty_of (get_or bs i 0)
    → Some t ≡ sight_type bs i
unfolding tys_of at type_as
sight_in [] i l e = absurd (not-suc-le-zero l)
sight_in (b ∷ bs) zero l e = ap Some (byte_as b e)
sight_in (b ∷ bs) (suc i) l e = sight_in bs i (le_of_suc-le-suc l) e

pub sight_out : (bs : List ℕ) (i : ℕ) → length bs ≤ i → None ≡ sight_type bs i
unfolding tys_of at type_as
sight_out [] i l = refl
sight_out (b ∷ bs) zero l = absurd (not-suc-le-zero l)
sight_out (b ∷ bs) (suc i) l = sight_out bs i (le_of_suc-le-suc l)

-- types compared by code
pub same_bare : (t u : «Type») → sameb the_type t u ≡ same_type t u
unfolding same_ty
same_bare Number Number = refl
same_bare Number Truth = refl
same_bare Number Party = refl
same_bare Truth Number = refl
same_bare Truth Truth = refl
same_bare Truth Party = refl
same_bare Party Number = refl
same_bare Party Truth = refl
same_bare Party Party = refl

pub has_eq : {eq : «Type» → «Type» → Bool} → ((t u : «Type») → eq t u ≡ same_type t u) → (o : prelude.Option «Type»)
    (t : «Type») → option_eq eq o (Some t) ≡ has o t
unfolding has
has_eq h None t = refl
has_eq h (Some u) t = h u t

-- ---- leaves
module _ (ps : ℕ) (bs : List ℕ) where
  literal : (n : ℕ) (s : List ℕ) (b : Bool) (e : Expr) (t : Ty) → type_expr ps (tys_of bs) e ≡ (need b >>= λ _. some t)
      → literal_type n s b (ty_as t) ≡ type_as (type_expr ps (tys_of bs) (of_length n s e))
  unfolding of_length type_expr need ◌>>=◌ type_as
  literal n s b e t q = by (λ x. cond (x && b) (Some (ty_as t)) None ≡ type_as
      (type_expr ps (tys_of bs) (cond x e bad_expr))) (eqb (length s) n)
      (λ _. rw q (by (λ y. cond y (Some (ty_as t)) None ≡ type_as (need y >>= λ _. some t)) b (λ _. refl) (λ _. refl)))
      (λ _. refl)

  seen_by : (i : ℕ) (x : Bool) → cond x (sight_type bs i) None ≡ type_as
      (type_expr ps (tys_of bs) (cond x (variable i) bad_expr))
  unfolding type_expr type_as
  seen_by i true = refl
  seen_by i false = refl

  leaf_by : (f : List ℕ → Expr) (s : List ℕ) (x y z : Bool) →
      cond x (literal_type 8 s (in_range (signed32 s 4)) Number)
      (cond y (literal_type 5 s (leb (byte s 4) 1) Truth)
      (cond z (literal_type 5 s (ltb (byte s 4) ps) Party) (cond (eqb (length s) 5) (sight_type bs (byte s 4)) None)))
      ≡ type_as (type_expr ps (tys_of bs) (expr_body f s
      (cond x number_kind (cond y truth_kind (cond z party_kind variable_kind)))))
  unfolding expr_body type_expr ty_as of_length
  leaf_by f s true y z = literal 8 s (in_range (signed32 s 4)) (number_lit (signed32 s 4)) number refl
  leaf_by f s false true z = literal 5 s (leb (byte s 4) 1) (truth_lit (byte s 4)) truth refl
  leaf_by f s false false true = literal 5 s (ltb (byte s 4) ps) (party_lit (byte s 4)) party refl
  leaf_by f s false false false = seen_by (byte s 4) (eqb (length s) 5)

  pub leaf_is : (f : List ℕ → Expr) (k : ℕ) (s : List ℕ) {r : prelude.Option «Type»} → r ≡ leaf_type ps bs k s
      → r ≡ type_as (type_expr ps (tys_of bs) (expr_body f s (leaf_kind k)))
  unfolding leaf_type leaf_kind
  leaf_is f k s e = e ∙ leaf_by f s (eqb k 32) (eqb k 33) (eqb k 34)

-- ---- `not`
not_by : (t : Ty) → not_type (ty_as t) ≡ type_as (need (same_ty t truth) >>= λ _. some truth)
unfolding type_as ty_as ◌>>=◌ need same_ty
not_by number = refl
not_by truth = refl
not_by party = refl

-- ---- operators
two : (t : Ty) (b : Bool) → cond b (Some (ty_as t)) None ≡ type_as (need b >>= λ _. some t)
unfolding type_as ◌>>=◌ need
two t true = refl
two t false = refl

abbrev kinds_op : Bool → Bool → Bool → Arithmetic → Op
kinds_op p q r o = cond p conj (cond q less (cond r equal (arithmetic o)))

abbrev wanted_by : Bool → Bool → Bool → «Type» → «Type»
wanted_by p q r t = cond p Truth (cond q Number (cond r t Number))

operands : (s t w u : Ty) → cond (same_type (ty_as s) (ty_as w) && same_type (ty_as t) (ty_as w)) (Some (ty_as u)) None
    ≡ type_as (need (same_ty s w && same_ty t w) >>= λ _. some u)
operands s t w u = rw (same_as s w, same_as t w) (two u (same_ty s w && same_ty t w))

operation_by : (p q r : Bool) (o : Arithmetic) (s t : Ty)
    → cond (same_type (ty_as s) (wanted_by p q r (ty_as s)) && same_type (ty_as t) (wanted_by p q r (ty_as s)))
    (Some (cond p Truth (cond q Truth (cond r Truth Number)))) None
    ≡ type_as (need (same_ty s (operand (kinds_op p q r o) s) && same_ty t (operand (kinds_op p q r o) s)) >>= λ _. some
    (result (kinds_op p q r o)))
unfolding operand result ty_as
operation_by true q r o s t = operands s t truth truth
operation_by false true r o s t = operands s t number truth
operation_by false false true o s t = operands s t s truth
operation_by false false false o s t = operands s t number number

module _ (ps : ℕ) (env : List Ty) where
  pub not_is : (e : Expr) {t : «Type»} {r : prelude.Option «Type»} → r ≡ not_type t → Some t ≡ type_as
      (type_expr ps env e)
      → r ≡ type_as (type_expr ps env (negation e))
  unfolding type_expr ◌>>=◌
  not_is e p q = found (type_expr ps env e) q (λ u h i. p ∙ rw (i, h) (not_by u))

  not_none : (e : Expr) → None ≡ type_as (type_expr ps env e) → None ≡ type_as (type_expr ps env (negation e))
  unfolding type_expr ◌>>=◌ type_as
  not_none e q = rw (not_found (type_expr ps env e) q)

  module _ (k : ℕ) (e f : Expr) where
    pub operation_is : {x y : «Type»} {r : prelude.Option «Type»} → r ≡ operation_type k x y
        → Some x ≡ type_as (type_expr ps env e) → Some y ≡ type_as (type_expr ps env f)
        → r ≡ type_as (type_expr ps env (binary (op_of k) e f))
    unfolding type_expr op_of ◌>>=◌
    operation_is p q r = found (type_expr ps env e) q (λ s g h. found (type_expr ps env f) r (λ t i j.
        p ∙ rw (h, j, g, i) (operation_by (eqb k 41) (eqb k 42) (eqb k 43) (arithmetic_of k) s t)))

    operation_left : None ≡ type_as (type_expr ps env e) → None ≡ type_as (type_expr ps env (binary (op_of k) e f))
    unfolding type_expr ◌>>=◌ type_as
    operation_left q = rw (not_found (type_expr ps env e) q)

    operation_right : None ≡ type_as (type_expr ps env f) → None ≡ type_as (type_expr ps env (binary (op_of k) e f))
    unfolding type_expr ◌>>=◌ type_as
    operation_right q = rw (not_found (type_expr ps env f) q) (nothing (type_expr ps env e))
      where
        pass : Ty → Option Ty → Option Ty
        pass s o = o >>= λ t. need (same_ty s (operand (op_of k) s) && same_ty t (operand (op_of k) s)) >>= λ _. some
            (result (op_of k))

        nothing : (o : Option Ty) → None ≡ type_as (o >>= λ s. pass s none)
        nothing none = refl
        nothing (some s) = refl

-- what `operation_type` finds
some_by : {A : Type 0} (b : Bool) (x : A) → then_some b x ≡ cond b (Some x) None
some_by true x = refl
some_by false x = refl

module _ (k : ℕ) (a b : «Type») {w r : «Type»} (p : w ≡ operand_type k a) (q : r ≡ result_type k) where
  checked : cond (same_type a w && same_type b w) (Some r) None ≡ operation_type k a b
  checked = ap (λ (v : «Type»). cond (same_type a v && same_type b v) (Some r) None) p
      ∙ ap (λ (u : «Type»). cond (same_type a (operand_type k a) && same_type b (operand_type k a)) (Some u) None) q

  pub operation_off : {x z : Bool} {o : prelude.Option «Type»} → x ≡ sameb the_type a w → x ≡ false → z ≡ x
      → o ≡ then_some z r → o ≡ operation_type k a b
  operation_off h e f g =
      let i : same_type a w ≡ false = sym (same_bare a w) ∙ sym h ∙ e in
      g ∙ some_by _ r ∙ rw (f, e) (rw i at checked)

  pub operation_on : {x y z : Bool} {o : prelude.Option «Type»} → x ≡ sameb the_type a w → x ≡ true
      → y ≡ sameb the_type b w → z ≡ y → o ≡ then_some z r → o ≡ operation_type k a b
  operation_on h e d f g =
      let i : same_type a w ≡ true = sym (same_bare a w) ∙ sym h ∙ e in
      g ∙ some_by _ r ∙ rw (f, d, same_bare b w) (rw i at checked)

-- ---- a number in range; z is what the bytes gave, and reads from its bits
pub ranged : {z : ℤ} {b : Bool} (f : mag z < 2 ^ 63) (w : ℤ) → z ≡ w → b ≡ in_range (seen z) → b ≡ in_range w
ranged f w e h = h ∙ ap in_range (read! f ∙ e)

-- ---- what `leaf_type` finds
module _ (ps : ℕ) (bs : List ℕ) (k : ℕ) (s : List ℕ) where
  pub leaf_number : {b : Bool} {r : prelude.Option «Type»} → k ≡ 32 → b ≡ in_range (signed32 s 4)
      → r ≡ literal_type 8 s b Number → r ≡ leaf_type ps bs k s
  unfolding leaf_type
  leaf_number e q h = rw (e, ← q) h

  pub leaf_truth : {n : ℕ} {r : prelude.Option «Type»} → k ≡ 33 → n ≡ byte s 4 → r ≡ literal_type 5 s (leb n 1) Truth
      → r ≡ leaf_type ps bs k s
  unfolding leaf_type
  leaf_truth e q h = rw (e, ← q) h

  pub leaf_party : {n : ℕ} {r : prelude.Option «Type»} → k ≡ 34 → n ≡ byte s 4 → r ≡ literal_type 5 s (ltb n ps) Party
      → r ≡ leaf_type ps bs k s
  unfolding leaf_type
  leaf_party e q h = rw (e, ← q) h

  module _ (e : (k ≡ 32 → ⊥) × (k ≡ 33 → ⊥) × (k ≡ 34 → ⊥)) where
    pub leaf_value : {n : ℕ} {r : prelude.Option «Type»} → n ≡ byte s 4 → length s ≡ 5 → r ≡ sight_type bs n
        → r ≡ leaf_type ps bs k s
    unfolding leaf_type
    leaf_value q l h = rw (ne_eqb k 32 e.0, ne_eqb k 33 e.1, ne_eqb k 34 e.2, eq-eqb (length s) 5 l, ← q) h

    pub leaf_short : (length s ≡ 5 → ⊥) → None ≡ leaf_type ps bs k s
    unfolding leaf_type
    leaf_short l = rw (ne_eqb k 32 e.0, ne_eqb k 33 e.1, ne_eqb k 34 e.2, ne_eqb (length s) 5 l)

pub ruleset leaves = (ranged, leaf_number, leaf_truth, leaf_party, leaf_value, leaf_short)

-- ---- a record by its kind's number
pub expr_none : (d : ℕ) (s : List ℕ) → None ≡ record_kind d s → expr d s ≡ bad_expr
unfolding record_kind expr expr_head expr_body
expr_none zero s e = refl
expr_none (suc d) s e = by (λ b. None ≡ cond b (Some (kind_number s)) None
    → expr_body (expr d) s (cond b (expr_kind (kind_number s)) no_expr) ≡ bad_expr) (is_record s)
    (λ _ i. impossible cc) (λ _ i. refl) (rw (lt-ltb 0 (suc d) (omega arith)) at e)

module _ (d : ℕ) (s : List ℕ) {k : ℕ} (e : Some k ≡ record_kind d s) where
  pub kind_found : (0 < d) × (is_record s ≡ true) × (kind_number s ≡ k)
  unfolding record_kind
  kind_found = by (λ a. ltb 0 d ≡ a → Some k ≡ cond (a && is_record s) (Some (kind_number s)) None
      → (0 < d) × (is_record s ≡ true) × (kind_number s ≡ k)) (ltb 0 d)
      (λ _ h. by (λ b. is_record s ≡ b → Some k ≡ cond b (Some (kind_number s)) None
      → (0 < d) × (is_record s ≡ true) × (kind_number s ≡ k)) (is_record s)
      (λ _ i p. (ltb-true 0 d h, i, (cc))) (λ _ i p. impossible cc) refl)
      (λ _ h p. impossible cc) refl e

  pub deep : 1 ≤ d
  deep = kind_found.0

  pub fewer : {t : ℕ} → d ≡ t → d - 1 < t
  fewer p = let h = kind_found.0 in omega arith

  pub room : 4 ≤ length s
  room = (whole_from s kind_found.1).room

  pub cut_room : {c : ℕ} → min 4 (length s) ≤ c → 4 ≤ c
  cut_room p = let h : 4 ≤ length s = room in omega arith

  pub expr_is : expr d s ≡ expr_body (expr (d - 1)) s (expr_kind k)
  unfolding expr expr_head
  expr_is = go d kind_found.0
    where
      go : (d : ℕ) → 0 < d → expr d s ≡ expr_body (expr (d - 1)) s (expr_kind k)
      go zero h = absurd (omega arith)
      go (suc d) h = rw (sub-one, kind_found.1, kind_found.2)

  -- what f has of the record, by its kind
  expr_by : {A : Type 0} (f : Expr → A) {r : A} → r ≡ f (expr_body (expr (d - 1)) s (expr_kind k)) → r ≡ f (expr d s)
  expr_by f p = p ∙ ap f (sym expr_is)

module _ (ps : ℕ) (bs : List ℕ) (d : ℕ) (s : List ℕ) where
  pub type_none : None ≡ record_kind d s → None ≡ type_as (type_expr ps (tys_of bs) (expr d s))
  unfolding type_expr type_as
  type_none e = rw (expr_none d s e)

  module _ {k : ℕ} (e : Some k ≡ record_kind d s) where
    pub type_leaf : {r : prelude.Option «Type»} → 32 ≤ k → k < 36 → r ≡ leaf_type ps bs k s
        → r ≡ type_as (type_expr ps (tys_of bs) (expr d s))
    type_leaf l u p = expr_by d s e (λ x. type_as (type_expr ps (tys_of bs) x))
        (rw (kind_leaf k l u) (leaf_is ps bs (expr (d - 1)) k s p))

    module _ (l : k ≡ 36) where
      pub type_not : {t : «Type»} {r : prelude.Option «Type»}
          → Some t ≡ type_as (type_expr ps (tys_of bs) (expr (d - 1) (part s 4 (length s)))) → r ≡ not_type t
          → r ≡ type_as (type_expr ps (tys_of bs) (expr d s))
      unfolding expr_body
      type_not h p = expr_by d s e (λ x. type_as (type_expr ps (tys_of bs) x))
          (rw (kind_not l) (not_is ps (tys_of bs) (expr (d - 1) (part s 4 (length s))) p h))

      pub type_not_none : None ≡ type_as (type_expr ps (tys_of bs) (expr (d - 1) (part s 4 (length s))))
          → None ≡ type_as (type_expr ps (tys_of bs) (expr d s))
      unfolding expr_body
      type_not_none h = expr_by d s e (λ x. type_as (type_expr ps (tys_of bs) x))
          (rw (kind_not l) (not_none ps (tys_of bs) (expr (d - 1) (part s 4 (length s))) h))

    module _ (l : 36 ≤ k) (n : k ≡ 36 → ⊥) (u : k < 44) {c : ℕ} (i : c ≡ record_end s 4) where
      pub type_left_none : None ≡ type_as (type_expr ps (tys_of bs) (expr (d - 1) (part s 4 c)))
          → None ≡ type_as (type_expr ps (tys_of bs) (expr d s))
      unfolding expr_body
      type_left_none h = expr_by d s e (λ x. type_as (type_expr ps (tys_of bs) x))
          (rw (kind_binary k (omega arith) u) (operation_left ps (tys_of bs) k
          (expr (d - 1) (part s 4 (record_end s 4))) (expr (d - 1) (part s (record_end s 4) (length s))) (rw i at h)))

      pub type_right_none : None ≡ type_as (type_expr ps (tys_of bs) (expr (d - 1) (part s c (length s))))
          → None ≡ type_as (type_expr ps (tys_of bs) (expr d s))
      unfolding expr_body
      type_right_none h = expr_by d s e (λ x. type_as (type_expr ps (tys_of bs) x))
          (rw (kind_binary k (omega arith) u) (operation_right ps (tys_of bs) k
          (expr (d - 1) (part s 4 (record_end s 4))) (expr (d - 1) (part s (record_end s 4) (length s))) (rw i at h)))

      pub type_operation : {a b : «Type»} {r : prelude.Option «Type»}
          → Some a ≡ type_as (type_expr ps (tys_of bs) (expr (d - 1) (part s 4 c)))
          → Some b ≡ type_as (type_expr ps (tys_of bs) (expr (d - 1) (part s c (length s))))
          → r ≡ operation_type k a b → r ≡ type_as (type_expr ps (tys_of bs) (expr d s))
      unfolding expr_body
      type_operation g h p = expr_by d s e (λ x. type_as (type_expr ps (tys_of bs) x))
          (rw (kind_binary k (omega arith) u) (operation_is ps (tys_of bs) k
          (expr (d - 1) (part s 4 (record_end s 4))) (expr (d - 1) (part s (record_end s 4) (length s))) p
          (rw i at g) (rw i at h)))

    pub type_low : k < 32 → None ≡ type_as (type_expr ps (tys_of bs) (expr d s))
    unfolding expr_body type_expr type_as
    type_low l = expr_by d s e (λ x. type_as (type_expr ps (tys_of bs) x)) (rw (kind_no_expr_low k l))

    pub type_high : 44 ≤ k → None ≡ type_as (type_expr ps (tys_of bs) (expr d s))
    unfolding expr_body type_expr type_as
    type_high l = expr_by d s e (λ x. type_as (type_expr ps (tys_of bs) x)) (rw (kind_no_expr_high k l))
