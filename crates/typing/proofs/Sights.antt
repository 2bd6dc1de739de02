-- The types in sight: what is written into their bytes, and what csl's typing of a wait says of them.
use mathlib.Core.Path.{◌≡◌, refl, sym, ap, ◌∙◌}
use mathlib.Core.Bool.{Bool, true, false, cond, ◌&&◌}
use mathlib.Core.List.{List, [], ◌∷◌, ◌++◌}
use mathlib.Core.Logic.{◌⊎◌, inl, inr}
use mathlib.Core.Option.{Option, none, some}
use Prim.Native.Nat.{ℕ, zero, suc, ◌+◌, ◌-◌, ◌<◌, ◌≤◌}
use native.Mathlib.Numerals.{sub-one}
use native.Mathlib.Omega.{arith}
use native.Mathlib.Decide.{dec_le}
use borrow.Author.Tests.{ne_eqb, leb-true, leb-false}
use lib.Dec.{leb}
use lib.ListN.{length, take, length-map, length-append, get_or-eq_default}
use lib.Seq.{take_at}
use Rattle.std.specs.Prelude.{Some, None}
use Rattle.std.specs.Prelude as prelude
use Rattle.std.specs.Bool.{then_some as seen_some}
use Rattle.arrayvec.specs.ArrayVec.{ArrayVec}
use Rattle.csl.specs.Lists.{◌>>=◌, need, at}
use Rattle.csl.specs.Bytes.{byte, part, is_record, record_end}
use Rattle.csl.specs.Syntax.{Ty, number, truth, Expr, bad_expr}
use Rattle.csl.specs.Decode.{expr, expr_head, expr_body, ty_of, tys_of, wait_at, agreement_of}
use Rattle.csl.specs.Typing.{names_of, blame_ok, type_expr, has_type, same_ty, reading_of_type, then_sight, type_wait}
use Rattle.laws.proofs.Types.{types_append, types_length}
use Rattle.laws.proofs.Clash.{impossible}
use Rattle.laws.proofs.Bools.{by}
use Rattle.records.specs.Index.{ReadingTypes}
use Rattle.records.proofs.Index.{readings_past}
use Rattle.typing.specs.Types.{type_as, ty_as}
use Rattle.typing.specs.Clauses.{names_in, seen_as, then_of, has, is_typed, wait_typed, wait_sight, first_sight}
use Rattle.typing.specs.Clauses.{JoinedSight}
use Rattle.parties.specs.Masks.{may_blame}
use Rattle.typing.proofs.Exprs.{same_as}

-- ---- no bytes are no expression
no_bytes : (d : ℕ) → expr d [] ≡ bad_expr
unfolding expr expr_head expr_body is_record
no_bytes zero = refl
no_bytes (suc d) = refl

pub part_none : (ps : ℕ) (env : List Ty) (d : ℕ) (s : List ℕ) (a e : ℕ) (t : Ty) → e < a
    → false ≡ is_typed ps env (expr d (part s a e)) t
unfolding is_typed has type_expr type_as
part_none ps env d s a e t l = let z : e - a ≡ 0 = omega arith in rw (z, no_bytes d)

-- ---- a reading's values
reading_suc : (rs : List (List Ty)) (k : ℕ) → (k ≡ 0 → ⊥) → reading_of_type rs k ≡ at rs (k - 1)
unfolding reading_of_type
reading_suc rs zero p = absurd (p refl)
reading_suc rs (suc k) p = rw sub-one

then_none : (rs : List (List Ty)) (env : List Ty) (k : ℕ) → reading_of_type rs k ≡ none → then_of rs env k ≡ none
unfolding then_of ◌>>=◌
then_none rs env k e = rw e

then_zero : (rs : List (List Ty)) (env : List Ty) (k : ℕ) → k ≡ 0 → then_of rs env k ≡ seen_as None
unfolding reading_of_type seen_as
then_zero rs env k e = then_none rs env k (rw e)

then_past : (s : List ℕ) (env : List Ty) (k : ℕ) {n : ℕ} → n ≡ byte s 9 → n < k
    → then_of (agreement_of s).readings env k ≡ seen_as None
unfolding seen_as
then_past s env k e l = then_none (agreement_of s).readings env k
    (reading_suc (agreement_of s).readings k (λ z. omega arith) ∙ readings_past s (k - 1) (omega arith))

pub then_unnamed : (s : List ℕ) (env : List Ty) (k : ℕ) → (k ≡ 0) ⊎ (byte s 9 < k)
    → then_of (agreement_of s).readings env k ≡ seen_as None
then_unnamed s env k (inl e) = then_zero (agreement_of s).readings env k e
then_unnamed s env k (inr l) = then_past s env k refl l

sight_length : (bs vs : List ℕ) → length (then_sight (tys_of bs) (tys_of vs)) ≡ length bs + length vs + 1
unfolding then_sight tys_of
sight_length bs vs = simp (length-append, length-map)

one_type : tys_of (1 ∷ []) ≡ number ∷ []
unfolding tys_of ty_of
one_type = refl

sight_bytes : (bs vs : List ℕ) → tys_of ((bs ++ vs) ++ (1 ∷ [])) ≡ then_sight (tys_of bs) (tys_of vs)
unfolding then_sight
sight_bytes bs vs = rw (types_append (bs ++ vs) (1 ∷ []), types_append bs vs, one_type)

then_some : (rs : List (List Ty)) (bs vs : List ℕ) (k : ℕ) (r : prelude.Option (ArrayVec ℕ))
    → reading_of_type rs k ≡ some (tys_of vs) → JoinedSight bs vs r → then_of rs (tys_of bs) k ≡ seen_as r
unfolding then_of seen_as ◌>>=◌ need
then_some rs bs vs k r e j = rw (e, sight_length bs vs)
    (by (λ b. need b >>= (λ _. some (then_sight (tys_of bs) (tys_of vs))) ≡ seen_as r)
    (leb (length bs + length vs + 1) 16)
    (λ h. rw (j.few (leb-true (length bs + length vs + 1) 16 h), sight_bytes bs vs))
    (λ h. rw (j.many (omega (arith, leb-false (length bs + length vs + 1) 16 h)))))

-- the reading type's bytes, as code has them
pub then_reading : (g bs : List ℕ) {w : ℕ} {vs : List ℕ} {r : prelude.Option (ArrayVec ℕ)} → (w ≡ 0 → ⊥)
    → ReadingTypes g (w - 1) vs → JoinedSight bs vs r → then_of (agreement_of g).readings (tys_of bs) w ≡ seen_as r
then_reading g bs {w} {vs} {r} h x j = then_some (agreement_of g).readings bs vs w r
    (reading_suc (agreement_of g).readings w h ∙ x.typed) j

-- ---- three tests one after another, as code joins them
pub three_on : {x y z p q r v : Bool} → x ≡ p → x ≡ true → y ≡ q → v ≡ y → v ≡ true → z ≡ r → z ≡ (p && q && r)
three_on a b c d e f = let g = sym a ∙ b in let h = sym c ∙ sym d ∙ e in rw (g, h, f)

pub three_second : {x y p q v : Bool} (r : Bool) → x ≡ p → x ≡ true → y ≡ q → v ≡ y → v ≡ false → v ≡ (p && q && r)
three_second r a b c d e = let g = sym a ∙ b in let h = sym c ∙ sym d ∙ e in rw (g, h, e)

pub three_first : {x p v : Bool} (q r : Bool) → x ≡ p → x ≡ false → v ≡ false → v ≡ (p && q && r)
three_first q r a b e = let g = sym a ∙ b in rw (g, e)

-- ---- a wait
nothing : (t : Ty) → ◌≡◌ {A = Option (Unit {0})} none (need false)
unfolding ◌>>=◌ need
nothing t = refl

pub has_is : (ps : ℕ) (env : List Ty) (e : Expr) (t : Ty) → has_type ps env e t ≡ need (is_typed ps env e t)
unfolding has_type is_typed has type_as ◌>>=◌
has_is ps env e t = go (type_expr ps env e)
  where
    go : (o : Option Ty) → (o >>= λ s. need (same_ty s t)) ≡ need (has (type_as o) (ty_as t))
    go none = nothing t
    go (some s) = ap need (sym (same_as s t))

-- the types before the last one
map_take : (n : ℕ) (bs : List ℕ) → tys_of (take n bs) ≡ take n (tys_of bs)
unfolding tys_of
map_take zero bs = refl
map_take (suc n) [] = refl
map_take (suc n) (b ∷ bs) = ap (λ (ts : List Ty). ty_of b ∷ ts) (map_take n bs)

init : (ys : List ℕ) (n : ℕ) (xs : List Ty) (x : Ty) → n ≡ length ys → xs ++ (x ∷ []) ≡ tys_of ys
    → xs ≡ tys_of (take (n - 1) ys)
init ys n xs x l e =
    let a : length (xs ++ (x ∷ [])) ≡ length ys = ap length e ∙ types_length ys in
    let b : length xs ≡ n - 1 = omega (arith, length-append xs (x ∷ [])) in
    sym (map_take (n - 1) ys ∙ ap (take (n - 1)) (sym e) ∙ take_at xs (x ∷ []) (n - 1) b)

module _ (ps : ℕ) (env : List Ty) (c a t : Expr) where
  abbrev of_wait : Option (List Ty) → Option (List Ty)
  of_wait o = o >>= λ vs. need (leb (length (then_sight env vs)) 16) >>= λ _. has_type ps (env ++ vs) c truth >>= λ _.
      has_type ps env a number >>= λ _. has_type ps env t number >>= λ _. some vs

  abbrev of_then : Option (List Ty) → Option (List Ty)
  of_then o = o >>= λ vs. need (leb (length (then_sight env vs)) 16) >>= λ _. some (then_sight env vs)

  abbrev all_typed : List Ty → Bool
  all_typed inner = is_typed ps inner c truth && is_typed ps env a number && is_typed ps env t number

  checks : (x y z : Bool) (vs : List Ty) →
      ((need x >>= λ _. need y >>= λ _. need z >>= λ _. some vs) >>= λ ws. some (then_sight env ws)) ≡ cond
      (x && y && z) (some (then_sight env vs)) none
  unfolding ◌>>=◌ need
  checks true true true vs = refl
  checks true true false vs = refl
  checks true false z vs = refl
  checks false y z vs = refl

  wait_some : (o : Option (List Ty)) (ts inner : List Ty) → of_then o ≡ some ts
      → ((vs : List Ty) → then_sight env vs ≡ ts → env ++ vs ≡ inner)
      → (of_wait o >>= λ vs. some (then_sight env vs)) ≡ cond (all_typed inner) (some ts) none
  unfolding ◌>>=◌ need
  wait_some none ts inner e f = impossible cc
  wait_some (some vs) ts inner e f = by (λ b. (need b >>= λ _. some (then_sight env vs)) ≡ some ts
      → ((need b >>= λ _. has_type ps (env ++ vs) c truth >>= λ _. has_type ps env a number >>= λ _. has_type ps env t
      number >>= λ _. some vs) >>= λ ws. some (then_sight env ws)) ≡ cond (all_typed inner) (some ts) none)
      (leb (length (then_sight env vs)) 16)
      (λ _ h. let q : then_sight env vs ≡ ts = cc in
      rw (has_is ps (env ++ vs) c truth, has_is ps env a number, has_is ps env t number, f vs q)
      (checks (is_typed ps inner c truth) (is_typed ps env a number) (is_typed ps env t number) vs ∙ rw q))
      (λ _ h. impossible cc) e

  wait_none : (o : Option (List Ty)) → of_then o ≡ none → (of_wait o >>= λ vs. some (then_sight env vs)) ≡ none
  unfolding ◌>>=◌ need
  wait_none none e = refl
  wait_none (some vs) e = by (λ b. (need b >>= λ _. some (then_sight env vs)) ≡ none
      → ((need b >>= λ _. has_type ps (env ++ vs) c truth >>= λ _. has_type ps env a number >>= λ _. has_type ps env t
      number >>= λ _. some vs) >>= λ ws. some (then_sight env ws)) ≡ none) (leb (length (then_sight env vs)) 16)
      (λ _ h. impossible cc) (λ _ h. refl) e

pub parties_is : (s : List ℕ) → (agreement_of s).parties ≡ byte s 8
unfolding agreement_of
parties_is s = refl

-- a wanted type is named by a byte that is there
pub named : (s : List ℕ) (i : ℕ) {k : ℕ} → k ≡ byte s i → 0 < k → i < length s
named s i {k} p l = test (dec_le (length s) i)
  where
    test : Dec (length s ≤ i) → i < length s
    test (yes h) = absurd (let z : k ≡ 0 = p ∙ get_or-eq_default s 0 {n = i} h in omega arith)
    test (no h) = omega arith

-- what the code has found: the types that `then` sees, and whether the expressions are typed under all but the last one
module _ (g bs : List ℕ) (d : ℕ) (s : List ℕ) (i : ℕ) {k : ℕ} (p : k ≡ byte s i) where
  pub wait_over : then_of (agreement_of g).readings (tys_of bs) k ≡ seen_as None
      → wait_sight (names_in g 0) (tys_of bs) (wait_at (expr d) 0 s i) ≡ none
  unfolding wait_sight type_wait names_of wait_at then_of seen_as
  wait_over e = wait_none (agreement_of g).parties (tys_of bs) _ _ _
      (reading_of_type (agreement_of g).readings (byte s i)) (rw p at e)

  module _ (v : ArrayVec ℕ) (e : then_of (agreement_of g).readings (tys_of bs) k ≡ seen_as (Some v)) {ys : List ℕ}
      (o : ys ≡ v.items) {n ps : ℕ} {b : Bool} (l : n ≡ length v.items) (h : ps ≡ byte g 8)
      (w : b ≡ wait_typed ps (tys_of (take (n - 1) ys)) (tys_of bs) (wait_at (expr d) 0 s i)) where
    wait_is : wait_sight (names_in g 0) (tys_of bs) (wait_at (expr d) 0 s i) ≡ cond
        (wait_typed (agreement_of g).parties (tys_of (take (n - 1) v.items)) (tys_of bs) (wait_at (expr d) 0 s i))
        (some (tys_of v.items)) none
    unfolding wait_sight type_wait names_of wait_at wait_typed then_of then_sight seen_as
    wait_is = wait_some (agreement_of g).parties (tys_of bs) _ _ _
        (reading_of_type (agreement_of g).readings (byte s i)) (tys_of v.items) (tys_of (take (n - 1) v.items))
        (rw p at e) (λ vs q. init v.items n (tys_of bs ++ vs) number l q)

    told : b ≡ wait_typed (agreement_of g).parties (tys_of (take (n - 1) v.items)) (tys_of bs) (wait_at (expr d) 0 s i)
    told = rw (parties_is g, ← h, ← o) w

    wait_yes : b ≡ true → wait_sight (names_in g 0) (tys_of bs) (wait_at (expr d) 0 s i) ≡ seen_as (Some v)
    unfolding seen_as
    wait_yes q = wait_is ∙ rw (sym told ∙ q)

    wait_no : b ≡ false → wait_sight (names_in g 0) (tys_of bs) (wait_at (expr d) 0 s i) ≡ seen_as None
    unfolding seen_as
    wait_no q = wait_is ∙ rw (sym told ∙ q)

    pub wait_gives : {r : prelude.Option (ArrayVec ℕ)} → r ≡ seen_some b v
        → wait_sight (names_in g 0) (tys_of bs) (wait_at (expr d) 0 s i) ≡ seen_as r
    wait_gives h = rw h (go b refl)
      where
        go : (x : Bool) → b ≡ x
            → wait_sight (names_in g 0) (tys_of bs) (wait_at (expr d) 0 s i) ≡ seen_as (seen_some x v)
        go true q = wait_yes q
        go false q = wait_no q

-- ---- what is there by a test
pub not_there : {A : Type 0} {b : Bool} (x : A) → None ≡ cond b (Some x) None → b ≡ false
not_there {b = b} x e = go b e
  where
    go : (b : Bool) → None ≡ cond b (Some x) None → b ≡ false
    go true e = impossible cc
    go false e = refl

pub there : {A : Type 0} {b : Bool} {x y : A} → Some y ≡ cond b (Some x) None → (b ≡ true) × (y ≡ x)
there {b = b} {x} {y} e = go b e
  where
    go : (b : Bool) → Some y ≡ cond b (Some x) None → (b ≡ true) × (y ≡ x)
    go true e = (refl, cc)
    go false e = impossible cc

-- ---- what the first clause part sees
module _ (g : List ℕ) (m : ℕ) (env : List Ty) (f : List ℕ → Expr) (k : ℕ) (s : List ℕ) where
  module _ (e : k ≡ 17) where
    pub first_refused : may_blame (byte g 8) m (byte s 4) ≡ false → first_sight (names_in g m) env f k s ≡ none
    unfolding first_sight ◌>>=◌ need blame_ok names_of
    first_refused z = rw (e, parties_is g, z)

    pub first_wait : {t : Option (List Ty)} → may_blame (byte g 8) m (byte s 4) ≡ true
        → wait_sight (names_in g 0) env (wait_at f 0 s 5) ≡ t → first_sight (names_in g m) env f k s ≡ t
    unfolding first_sight ◌>>=◌ need wait_sight type_wait blame_ok names_of agreement_of
    first_wait z q = rw (e, parties_is g, z) q

  pub first_choice : {t : Option (List Ty)} → k ≡ 18 → wait_sight (names_in g 0) env (wait_at f 0 s 4) ≡ t
      → first_sight (names_in g m) env f k s ≡ t
  unfolding first_sight wait_sight type_wait names_of
  first_choice e q = rw e q

  module _ {c : ℕ} {b : Bool} (e : k ≡ 19) (p : c ≡ record_end s 4)
      (q : b ≡ is_typed (byte g 8) env (f (part s 4 c)) truth) where
    told_of : has_type (agreement_of g).parties env (f (part s 4 (record_end s 4))) truth ≡ need b
    told_of = has_is (agreement_of g).parties env (f (part s 4 (record_end s 4))) truth ∙ rw (parties_is g, ← p, ← q)

    pub first_untrue : b ≡ false → first_sight (names_in g m) env f k s ≡ none
    unfolding first_sight ◌>>=◌ need names_of
    first_untrue z = rw (e, told_of, z)

    pub first_true : b ≡ true → first_sight (names_in g m) env f k s ≡ some env
    unfolding first_sight ◌>>=◌ need names_of
    first_true z = rw (e, told_of, z)

  pub first_join : (k ≡ 17 → ⊥) → (k ≡ 18 → ⊥) → (k ≡ 19 → ⊥) → first_sight (names_in g m) env f k s ≡ some env
  unfolding first_sight
  first_join p q r = rw (ne_eqb k 17 p, ne_eqb k 18 q, ne_eqb k 19 r)
