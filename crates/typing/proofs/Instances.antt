-- Instances: arguments, blame bytes, and the parties of both.
use mathlib.Core.Path.{◌≡◌, refl, sym, ap, ◌∙◌}
use mathlib.Core.Bool.{Bool, true, false, cond, ◌&&◌}
use mathlib.Core.List.{List, [], ◌∷◌, ◌++◌}
use mathlib.Core.Option.{Option, none, some}
use Prim.Native.Nat.{ℕ, zero, suc, ◌+◌, ◌-◌, ◌<◌, ◌≤◌}
use native.Mathlib.Nat.{le_of_suc-le-suc, not-suc-le-zero}
use native.Mathlib.Numerals.{add-one}
use native.Mathlib.Omega.{arith}
use native.Mathlib.Decide.{dec_le}
use borrow.Author.Tests.{ne_eqb, eq-eqb}
use lib.Bits.{bit_or}
use lib.Dec.{eqb}
use lib.ListN.{length, get_or, take, drop, drop_of_length-le}
use lib.Seq.{take_all, take-suc, drop-cons}
use Rattle.std.specs.Prelude.{Some, None}
use Rattle.std.specs.Prelude as prelude
use Rattle.csl.specs.Lists.{◌>>=◌, need, all, at}
use Rattle.csl.specs.Bytes.{byte, le16, part, record_end}
use Rattle.csl.specs.Parties.{members}
use Rattle.csl.specs.Syntax.{Ty, Expr, instance, bad_clause}
use Rattle.csl.specs.Decode.{expr, ty_of, tys_of, arguments, records_end, instance_of, heads_of, template_head}
use Rattle.csl.specs.Typing.{names_of, blame_ok, have_types, type_clause}
use Rattle.laws.proofs.Clash.{impossible}
use Rattle.laws.proofs.Types.{types_length}
use Rattle.arith.proofs.Lists.{length_part}
use Rattle.octets.proofs.Bytes.{record_end_within}
use Rattle.kinds.specs.declared.«Type».{«Type»}
use Rattle.kinds.specs.Kinds.{ty_in}
use Rattle.records.specs.Index.{ValueTypes, head_at, piece_at, template_place}
use Rattle.records.proofs.Index.{heads_in_lem, heads_at, heads_past}
use Rattle.parties.specs.Masks.{mask_of, may_blame}
use Rattle.parties.proofs.Masks.{mask_nil, mask_append, mask_members}
use Rattle.typing.specs.Clauses.{names_in, is_typed, arguments_as, arguments_of, blames_of, typed_as}
use Rattle.typing.proofs.Sights.{has_is, part_none, parties_is, not_there, there}

-- ---- parties that code has found
pub from_typed : {C : Type 0} (o : Option (List ℕ)) {m : ℕ} → Some m ≡ typed_as o
    → ((ps : List ℕ) → o ≡ some ps → m ≡ mask_of ps → C) → C
unfolding typed_as
from_typed none e c = impossible cc
from_typed (some ps) e c = c ps refl (cc)

pub from_untyped : (o : Option (List ℕ)) → None ≡ typed_as o → o ≡ none
unfolding typed_as
from_untyped none e = refl
from_untyped (some ps) e = impossible cc

pub untyped : {o : Option (List ℕ)} → o ≡ none → None ≡ typed_as o
unfolding typed_as
untyped e = rw e

-- ---- arguments
go : (b : Bool) (o : Option (Unit {0})) (n : ℕ) → arguments_as (need b >>= λ _. o) n ≡ cond b (arguments_as o n) None
unfolding arguments_as need ◌>>=◌
go true o n = refl
go false o n = refl

one_more : (vs : List ℕ) (k : ℕ) → k < length vs → drop k vs ≡ get_or vs k 0 ∷ drop (k + 1) vs
one_more vs k l = rw (add-one k) (drop-cons vs k 0 l)

module _ (ps : ℕ) (env : List Ty) (f : List ℕ → Expr) (s : List ℕ) where
  -- where arguments of these value types end, if they begin at i
  abbrev pub ends : List ℕ → ℕ → prelude.Option ℕ
  ends vs i = arguments_as (have_types ps env (arguments f (length vs) s i) (tys_of vs)) (records_end (length vs) s i)

  ends_none : (i : ℕ) → Some i ≡ ends [] i
  unfolding arguments_as have_types arguments records_end tys_of
  ends_none i = refl

  -- the first is checked, and then the others
  ends_more : (v : ℕ) (vs : List ℕ) (i : ℕ) → ends (v ∷ vs) i
      ≡ cond (is_typed ps env (f (part s i (record_end s i))) (ty_of v)) (ends vs (record_end s i)) None
  unfolding have_types arguments records_end tys_of
  ends_more v vs i =
      let x = f (part s i (record_end s i)) in
      rw (has_is ps env x (ty_of v)) (go (is_typed ps env x (ty_of v))
      (have_types ps env (arguments f (length vs) s (record_end s i)) (tys_of vs))
      (records_end (length vs) s (record_end s i)))

  -- a loop over the value types: k of them are met, and the next argument begins at i
  module _ (vs : List ℕ) (k i : ℕ) where
    pub ends_last : length vs ≤ k → Some i ≡ ends (drop k vs) i
    ends_last l = rw (drop_of_length-le vs l) (ends_none i)

    module _ (l : k < length vs) {e : ℕ} (t : «Type») {b : Bool} (p : e ≡ record_end s i)
        (q : ty_in t ≡ ty_of (get_or vs k 0)) (h : b ≡ is_typed ps env (f (part s i e)) (ty_in t)) where
      told : is_typed ps env (f (part s i (record_end s i))) (ty_of (get_or vs k 0)) ≡ b
      told = rw (h, p, q)

      step : ends (drop k vs) i ≡ cond b (ends (drop (k + 1) vs) e) None
      step = ap (λ (xs : List ℕ). ends xs i) (one_more vs k l)
          ∙ ends_more (get_or vs k 0) (drop (k + 1) vs) i ∙ rw (told, p)

      pub ends_off : b ≡ false → None ≡ ends (drop k vs) i
      ends_off g = sym (step ∙ rw g)

      pub ends_on : b ≡ true → ends (drop k vs) i ≡ ends (drop (k + 1) vs) e
      ends_on g = step ∙ rw g

-- ---- blame bytes
module _ (p : ℕ → Bool) where
  all_off : (xs : List ℕ) (k : ℕ) → k < length xs → p (get_or xs k 0) ≡ false → all p xs ≡ false
  unfolding all
  all_off [] k l h = absurd (not-suc-le-zero l)
  all_off (x ∷ xs) zero l h = rw h
  all_off (x ∷ xs) (suc k) l h = rw (all_off xs k (le_of_suc-le-suc l) h) (no_second (p x))
    where
      no_second : (b : Bool) → (b && false) ≡ false
      no_second true = refl
      no_second false = refl

  all_snoc : (xs : List ℕ) (x : ℕ) → all p xs ≡ true → p x ≡ true → all p (xs ++ (x ∷ [])) ≡ true
  unfolding all
  all_snoc [] x h g = rw g
  all_snoc (y ∷ ys) x h g = two (p y) (all p ys) h (all_snoc ys x)
    where
      two : (a b : Bool) → (a && b) ≡ true → (b ≡ true → p x ≡ true → all p (ys ++ (x ∷ [])) ≡ true)
          → (a && all p (ys ++ (x ∷ []))) ≡ true
      two true b i r = r i g
      two false b i r = impossible cc

module _ (ps params : ℕ) (bs : List ℕ) where
  -- m are the parties of the first k blame bytes, which are all allowed
  pub record Blamed (k m : ℕ) : Type 0 where
    pub allowed : all (may_blame ps params) (take k bs) ≡ true
    pub mask : m ≡ mask_of (take k bs)

  pub blamed_none : Blamed 0 0
  unfolding all
  blamed_none = record { allowed = refl; mask = sym mask_nil }

  pub blamed_all : {k m : ℕ} → length bs ≤ k → Blamed k m → Some m ≡ typed_as (blames_of ps params bs)
  unfolding blames_of typed_as need ◌>>=◌
  blamed_all {k} l x =
      let whole = take_all k bs l in
      rw (rw whole at x.allowed) (ap Some (rw whole at x.mask))

  module _ {k b : ℕ} (l : k < length bs) (p : b ≡ get_or bs k 0) where
    pub blamed_off : None ≡ cond (may_blame ps params b) (Some (mask_of (b ∷ []))) None
        → None ≡ typed_as (blames_of ps params bs)
    unfolding blames_of typed_as need ◌>>=◌
    blamed_off j = rw (all_off (may_blame ps params) bs k l (rw p at (not_there (mask_of (b ∷ [])) j)))

    pub blamed_more : {m v r : ℕ} → Some v ≡ cond (may_blame ps params b) (Some (mask_of (b ∷ []))) None → Blamed k m
        → ((ps qs : List ℕ) → m ≡ mask_of ps → v ≡ mask_of qs → r ≡ mask_of (ps ++ qs)) → Blamed (k + 1) r
    blamed_more j x u =
        let h = there j in
        let more : take (k + 1) bs ≡ take k bs ++ (b ∷ []) = rw (add-one k, p) (take-suc bs k 0 l) in
        record {
          allowed = rw more (all_snoc (may_blame ps params) (take k bs) b x.allowed h.0);
          mask = rw more (u (take k bs) (b ∷ []) x.mask h.1);
        }

-- ---- the value types of template k, as code has their bytes
pub arguments_template : {g vs : List ℕ} {k : ℕ} → ValueTypes g k vs → (env : List Ty) (f : List ℕ → Expr) (s : List ℕ)
    {ps : ℕ} {r : prelude.Option ℕ} → ps ≡ byte g 8 → r ≡ ends ps env f s vs 5
    → r ≡ arguments_of (head_at g k) (byte g 8) env f s
arguments_template {vs = vs} x env f s h e = rw (← x.typed, types_length vs, ← h) e

-- ---- an instance
as_none : (o : Option (Unit {0})) (i : ℕ) → None ≡ arguments_as o i → o ≡ none
unfolding arguments_as
as_none none i e = refl
as_none (some u) i e = impossible cc

as_some : (o : Option (Unit {0})) (i : ℕ) {j : ℕ} → Some j ≡ arguments_as o i → o ≡ some tt
unfolding arguments_as
as_some none i e = impossible cc
as_some (some u) i e = refl

as_end : (o : Option (Unit {0})) (i : ℕ) {j : ℕ} → Some j ≡ arguments_as o i → j ≡ i
unfolding arguments_as
as_end none i e = impossible cc
as_end (some u) i e = cc

abbrev end_of : List ℕ → ℕ → List ℕ → ℕ
end_of g k s = records_end (length (head_at g k).values) s 5

abbrev has_arguments : List ℕ → ℕ → List Ty → (List ℕ → Expr) → List ℕ → Option (Unit {0})
has_arguments g k env f s =
    have_types (byte g 8) env (arguments f (length (head_at g k).values) s 5) (head_at g k).values

-- the parties of an instance of template k whose blame bytes begin at i
abbrev parties_from : List ℕ → ℕ → ℕ → List ℕ → ℕ → Option (List ℕ)
parties_from g params k s i = need (eqb (length (part s i (length s))) (head_at g k).params
    && all (may_blame (byte g 8) params) (part s i (length s))) >>= λ _. some
    ((head_at g k).declared ++ part s i (length s))

neither : (b : Bool) → ◌≡◌ {A = Option (List ℕ)} (cond b none none) none
neither true = refl
neither false = refl

declared_is : (g : List ℕ) (k : ℕ) → (head_at g k).declared ≡ members
    (le16 (piece_at g (template_place g k)) (6 + byte (piece_at g (template_place g k)) 4))
unfolding template_head
declared_is g k = refl

-- the blame bytes alone, and with the declared parties
module _ (d : ℕ) (bs : List ℕ) (b : Bool) where
  blames_off : None ≡ typed_as (need b >>= λ _. some bs) → None ≡ typed_as (need b >>= λ _. some (members d ++ bs))
  unfolding typed_as need ◌>>=◌
  blames_off e = off b e
    where
      off : (b : Bool) → None ≡ typed_as (need b >>= λ _. some bs)
          → None ≡ typed_as (need b >>= λ _. some (members d ++ bs))
      off true e = impossible cc
      off false e = refl

  blames_on : {m : ℕ} → d < 65_536 → Some m ≡ typed_as (need b >>= λ _. some bs)
      → Some (bit_or d m) ≡ typed_as (need b >>= λ _. some (members d ++ bs))
  unfolding typed_as need ◌>>=◌
  blames_on {m} l e = on b e
    where
      on : (b : Bool) → Some m ≡ typed_as (need b >>= λ _. some bs)
          → Some (bit_or d m) ≡ typed_as (need b >>= λ _. some (members d ++ bs))
      on true e = let h : m ≡ mask_of bs = cc in ap Some (rw h (sym (mask_append (members d) bs
          ∙ ap (λ (n : ℕ). bit_or n (mask_of bs)) (mask_members d l))))
      on false e = impossible cc

module _ (g : List ℕ) (params : ℕ) (env : List Ty) (f : List ℕ → Expr) (s : List ℕ) {k : ℕ} (e : k ≡ byte s 4) where
  pub instance_past : {n : ℕ} → n ≡ byte g 10 → n ≤ k
      → None ≡ typed_as (type_clause (names_in g params) env (instance_of f s (at (heads_of g) (byte s 4))))
  unfolding typed_as type_clause instance_of
  instance_past h l = rw (← e, heads_past g k (omega arith))

  module _ (l : k < byte g 10) where
    instance_if : (b : Bool) (i : ℕ) → type_clause (names_in g params) env
        (cond b (instance k (arguments f (length (head_at g k).values) s 5) (part s i (length s))) bad_clause) ≡ cond b
        (has_arguments g k env f s >>= λ _. parties_from g params k s i) none
    unfolding type_clause names_of ◌>>=◌ blame_ok
    instance_if true i = rw (heads_in_lem g, heads_at g k l, parties_is g)
    instance_if false i = refl

    instance_is : type_clause (names_in g params) env (instance_of f s (at (heads_of g) (byte s 4))) ≡ cond
        (eqb (end_of g k s + (head_at g k).params) (length s))
        (has_arguments g k env f s >>= λ _. parties_from g params k s (end_of g k s)) none
    unfolding instance_of
    instance_is = rw (← e, heads_at g k l, ← e)
        (instance_if (eqb (end_of g k s + (head_at g k).params) (length s)) (end_of g k s))

    pub instance_untyped : None ≡ arguments_of (head_at g k) (byte g 8) env f s
        → None ≡ typed_as (type_clause (names_in g params) env (instance_of f s (at (heads_of g) (byte s 4))))
    unfolding ◌>>=◌
    instance_untyped h = untyped (instance_is ∙ rw (as_none (has_arguments g k env f s) (end_of g k s) h)
        (neither (eqb (end_of g k s + (head_at g k).params) (length s))))

    module _ {j : ℕ} (h : Some j ≡ arguments_of (head_at g k) (byte g 8) env f s) where
      ends_at : j ≡ end_of g k s
      ends_at = as_end (has_arguments g k env f s) (end_of g k s) h

      typed_from : type_clause (names_in g params) env (instance_of f s (at (heads_of g) (byte s 4))) ≡ cond
          (eqb (j + (head_at g k).params) (length s)) (parties_from g params k s j) none
      unfolding ◌>>=◌
      typed_from = instance_is ∙ rw (as_some (has_arguments g k env f s) (end_of g k s) h, ← ends_at)

      module _ {m : ℕ} (p : m ≡ (head_at g k).params) (u : j ≤ length s) where
        pub instance_other : (length s - j ≡ m → ⊥)
            → None ≡ typed_as (type_clause (names_in g params) env (instance_of f s (at (heads_of g) (byte s 4))))
        instance_other n = untyped (typed_from
            ∙ rw (ne_eqb (j + (head_at g k).params) (length s) (λ q. n (omega arith))))

        module _ {ps d : ℕ} (n : length s - j ≡ m) (a : ps ≡ byte g 8)
            (c : d ≡ le16 (piece_at g (template_place g k)) (6 + byte (piece_at g (template_place g k)) 4)) where
          behind : type_clause (names_in g params) env (instance_of f s (at (heads_of g) (byte s 4))) ≡
              (need (all (may_blame ps params) (part s j (length s))) >>= λ _. some (members d ++ part s j (length s)))
          behind = typed_from ∙ rw (
            eq-eqb (j + (head_at g k).params) (length s) (omega arith),
            eq-eqb (length (part s j (length s))) (head_at g k).params
                (omega (arith, length_part s j (length s) (omega arith))),
            declared_is g k,
            ← c,
            ← a,
          )

          pub instance_refused : None ≡ typed_as (blames_of ps params (part s j (length s)))
              → None ≡ typed_as (type_clause (names_in g params) env (instance_of f s (at (heads_of g) (byte s 4))))
          unfolding blames_of
          instance_refused b = rw behind (blames_off d (part s j (length s))
              (all (may_blame ps params) (part s j (length s))) b)

          pub instance_typed : {t r : ℕ} → d < 65_536 → Some t ≡ typed_as (blames_of ps params (part s j (length s)))
              → r ≡ bit_or d t
              → Some r ≡ typed_as (type_clause (names_in g params) env (instance_of f s (at (heads_of g) (byte s 4))))
          unfolding blames_of
          instance_typed v b w = rw (behind, w) (blames_on d (part s j (length s))
              (all (may_blame ps params) (part s j (length s))) v b)

-- a record of fewer than 5 bytes, which read as template 0's: without values its arguments end behind it, and the first
-- value has no bytes
module _ (g : List ℕ) (params : ℕ) (env : List Ty) (d : ℕ) (s : List ℕ) (h : length s ≤ 4) where
  no_first : (t : Ty) (ts : List Ty) → have_types (byte g 8) env (arguments (expr d) (length (t ∷ ts)) s 5) (t ∷ ts)
      ≡ none
  unfolding have_types arguments ◌>>=◌ need
  no_first t ts = rw (
    has_is (byte g 8) env (expr d (part s 5 (record_end s 5))) t,
    ← part_none (byte g 8) env d s 5 (record_end s 5) t (omega (arith, record_end_within s 5)),
  ) refl

  pub instance_short : None ≡ typed_as (type_clause (names_in g params) env
      (instance_of (expr d) s (at (heads_of g) (byte s 4))))
  unfolding records_end ◌>>=◌
  instance_short = test (dec_le (byte g 10) (byte s 4))
    where
      by_values : byte s 4 < byte g 10 → (ts : List Ty) → (head_at g (byte s 4)).values ≡ ts
          → None ≡ typed_as (type_clause (names_in g params) env (instance_of (expr d) s (at (heads_of g) (byte s 4))))
      by_values l [] q = untyped (instance_is g params env (expr d) s refl l
          ∙ rw (ne_eqb (end_of g (byte s 4) s + (head_at g (byte s 4)).params) (length s)
          (λ p. let e : end_of g (byte s 4) s ≡ 5 = rw q refl in absurd (omega arith))) refl)
      by_values l (t ∷ ts) q = untyped (instance_is g params env (expr d) s refl l
          ∙ rw (q, no_first t ts)
          (neither (eqb (records_end (length (t ∷ ts)) s 5 + (head_at g (byte s 4)).params) (length s))))

      test : Dec (byte g 10 ≤ byte s 4)
          → None ≡ typed_as (type_clause (names_in g params) env (instance_of (expr d) s (at (heads_of g) (byte s 4))))
      test (yes l) = instance_past g params env (expr d) s refl refl l
      test (no l) = by_values (omega arith) (head_at g (byte s 4)).values refl
