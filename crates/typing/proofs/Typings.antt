-- Typing of a clause by its record: csl's rules in the shape in which the code goes by them.
use mathlib.Core.Path.{◌≡◌, refl, sym, ap, ◌∙◌}
use mathlib.Core.Bool.{Bool, true, false, cond, ◌&&◌}
use mathlib.Core.List.{List, [], ◌∷◌, ◌++◌}
use mathlib.Core.Option.{Option, none, some}
use Prim.Native.Nat.{ℕ, zero, suc, ◌+◌, ◌-◌, ◌<◌, ◌≤◌}
use native.Mathlib.Numerals.{sub-one}
use native.Mathlib.Decide.{dec_le}
use native.Mathlib.Omega.{arith}
use borrow.Author.Tests.{lt-ltb, le-ltb, le-leb, lt-leb}
use lib.Bits.{bit_or}
use lib.Count.{ones}
use lib.Dec.{eqb, leb, ltb}
use lib.ListN.{length}
use Rattle.std.specs.Prelude.{Some, None}
use Rattle.std.specs.Prelude as prelude
use Rattle.arrayvec.specs.ArrayVec.{ArrayVec}
use Rattle.csl.specs.Lists.{◌>>=◌, need, at}
use Rattle.csl.specs.Bytes.{byte, part, is_record, kind_number, record_end}
use Rattle.csl.specs.Parties.{member_count}
use Rattle.csl.specs.Syntax.{Ty, truth, Expr, Wait, Clause, fulfilled, obligation, choice, if, join, bad_clause, Head}
use Rattle.csl.specs.Decode.{expr, tys_of, ClauseKind, fulfilled_kind, obligation_kind, choice_kind, if_kind, join_kind}
use Rattle.csl.specs.Decode.{instance_kind, no_clause, clause_kind, wait_end, wait_at, instance_of, clause_body}
use Rattle.laws.specs.Joins.{join_of}
use Rattle.csl.specs.Decode.{clause_head, clause, heads_of, agreement_of}
use Rattle.csl.specs.Typing.{Names, names_of, blame_ok, has_type, join_ok, then_sight, type_wait, type_clause}
use Rattle.laws.proofs.Options.{some_bind}
use Rattle.laws.proofs.Bools.{by}
use Rattle.laws.proofs.Clash.{impossible}
use Rattle.records.specs.Index.{Lists, first_clause}
use Rattle.records.proofs.Trees.{kind_fulfilled, kind_instance, kind_no_clause_low, kind_no_clause_high, sided}
use Rattle.records.proofs.Trees.{sided_choice, sided_if, sided_join, body_wait, body_two}
use Rattle.records.proofs.Index.{heads_in_lem}
use Rattle.parties.specs.Masks.{mask_of, may_blame, ValidMembers}
use Rattle.parties.proofs.Masks.{mask_nil, mask_append, mask_count, valid_append}
use Rattle.parties.proofs.Typed.{valid_typed, declared_valid}
use Rattle.typing.specs.Types.{record_kind}
use Rattle.typing.specs.Clauses.{
  names_in,
  seen_as,
  is_typed,
  wait_sight,
  wait_in,
  first_sight,
  typed_as,
  fulfilled_as,
}
use Rattle.typing.specs.Clauses.{sides_as}
use Rattle.typing.proofs.Exprs.{kind_found, deep, fewer, room}
use Rattle.typing.proofs.Sights.{first_refused, first_wait, first_choice, first_untrue, not_there, there}
use Rattle.typing.proofs.Instances.{from_typed, from_untyped, untyped}

-- ---- a clause's type does not go by its place
module _ {A B : Type 0} where
  bind_same : (m : Option A) (f g : A → Option B) → ((x : A) → f x ≡ g x) → m >>= f ≡ m >>= g
  unfolding ◌>>=◌
  bind_same none f g h = refl
  bind_same (some x) f g h = h x

module _ (n : Names) where
  body_place_lem : (hs : List Head) (e : List ℕ → Expr) (inner : ℕ → List ℕ → Clause)
      → ((env : List Ty) (p q : ℕ) (s : List ℕ) → type_clause n env (inner p s) ≡ type_clause n env (inner q s))
      → (env : List Ty) (p q : ℕ) (s : List ℕ) (k : ClauseKind)
      → type_clause n env (clause_body hs e inner p s k) ≡ type_clause n env (clause_body hs e inner q s k)
  unfolding type_clause clause_body type_wait wait_at
  body_place_lem hs e inner h env p q s fulfilled_kind = refl
  body_place_lem hs e inner h env p q s obligation_kind =
      let c = wait_end s 5 in
      bind_same (need (blame_ok n (byte s 4))) _ _
      (λ _. bind_same (type_wait n env (wait_at e p s 5)) _ _
      (λ vs. rw (h (then_sight env vs) (p + c) (q + c) (part s c (length s)))))
  body_place_lem hs e inner h env p q s choice_kind =
      let c = wait_end s 4 in
      let f = record_end s c in
      bind_same (type_wait n env (wait_at e p s 4)) _ _
      (λ vs. rw (h (then_sight env vs) (p + c) (q + c) (part s c f), h env (p + f) (q + f) (part s f (length s))))
  body_place_lem hs e inner h env p q s if_kind =
      let c = record_end s 4 in
      let f = record_end s c in
      rw (h env (p + c) (q + c) (part s c f), h env (p + f) (q + f) (part s f (length s)))
  body_place_lem hs e inner h env p q s (join_kind j) =
      let f = record_end s 4 in
      rw (h env (p + 4) (q + 4) (part s 4 f), h env (p + f) (q + f) (part s f (length s)))
  body_place_lem hs e inner h env p q s instance_kind = refl
  body_place_lem hs e inner h env p q s no_clause = refl

  pub typed_place : (hs : List Head) (d : ℕ) (env : List Ty) (p q : ℕ) (s : List ℕ)
      → type_clause n env (clause hs d p s) ≡ type_clause n env (clause hs d q s)
  unfolding clause
  typed_place hs zero env p q s = refl
  typed_place hs (suc d) env p q s =
      body_place_lem hs (expr d) (clause hs d) (typed_place hs d) env p q s (clause_head s)

-- ---- what stands before the first clause part, then its parts
abbrev after_first : Names → Clause → ℕ → List Ty → Option (List ℕ)
after_first n t b env = type_clause n env t >>= λ ps. some (b ∷ ps)

abbrev sides_ok : ℕ → List ℕ → Bool
sides_ok k ps = cond (eqb k 21) (leb (member_count ps) 1) true

abbrev both_sides : ℕ → Option (List ℕ) → Option (List ℕ) → Option (List ℕ)
both_sides k o p = o >>= λ ps. p >>= λ qs. need (sides_ok k (ps ++ qs)) >>= λ _. some (ps ++ qs)

need_split : (b : Bool) (x : Option (List Ty)) (z : Option (List ℕ)) (g : List Ty → Option (List ℕ)) → z ≡ (x >>= g)
    → (need b >>= λ _. z) ≡ ((need b >>= λ _. x) >>= g)
unfolding need ◌>>=◌
need_split true x z g q = q
need_split false x z g q = refl

module _ (n : Names) (env : List Ty) where
  wait_split : {A : Type 0} (w : Wait) (g : List Ty → Option A)
      → (type_wait n env w >>= λ vs. g (then_sight env vs)) ≡ (wait_sight n env w >>= g)
  unfolding wait_sight ◌>>=◌
  wait_split w g = go (type_wait n env w)
    where
      go : (o : Option (List Ty)) → (o >>= λ vs. g (then_sight env vs)) ≡ ((o >>= λ vs. some (then_sight env vs)) >>= g)
      go none = refl
      go (some vs) = refl

  typed_obligation : (e : List ℕ → Expr) (s : List ℕ) (t : Clause)
      → type_clause n env (obligation (byte s 4) (wait_at e 0 s 5) t) ≡
      (first_sight n env e 17 s >>= λ ts. after_first n t (byte s 4) ts)
  unfolding type_clause first_sight
  typed_obligation e s t = need_split (blame_ok n (byte s 4)) (wait_sight n env (wait_at e 0 s 5)) _
      (λ ts. after_first n t (byte s 4) ts) (wait_split (wait_at e 0 s 5) (λ ts. after_first n t (byte s 4) ts))

  module _ (e : List ℕ → Expr) (s : List ℕ) (t f : Clause) where
    abbrev After : ℕ → List Ty → Option (List ℕ)
    After k ts = both_sides k (type_clause n ts t) (type_clause n env f)

    typed_choice : type_clause n env (choice (wait_at e 0 s 4) t f) ≡ (first_sight n env e 18 s >>= After 18)
    unfolding type_clause first_sight need ◌>>=◌
    typed_choice = wait_split (wait_at e 0 s 4) (After 18)

    typed_if : type_clause n env (if (e (part s 4 (record_end s 4))) t f) ≡ (first_sight n env e 19 s >>= After 19)
    unfolding type_clause first_sight need ◌>>=◌
    typed_if = go (has_type n.parties env (e (part s 4 (record_end s 4))) truth)
      where
        go : (o : Option (Unit {0})) → (o >>= λ _. After 19 env) ≡ ((o >>= λ _. some env) >>= After 19)
        go none = refl
        go (some u) = refl

    typed_join : (k : ℕ) → 20 ≤ k → k < 22 → type_clause n env
        (join (join_of k) t f) ≡ (first_sight n env e k s >>= After k)
    unfolding type_clause first_sight need ◌>>=◌ join_of join_ok
    typed_join k l u = pick (dec_le k 20)
      where
        pick : Dec (k ≤ 20) → type_clause n env (join (join_of k) t f) ≡ (first_sight n env e k s >>= After k)
        pick (yes h) = let q : k ≡ 20 = omega arith in rw q refl
        pick (no h) = let q : k ≡ 21 = omega arith in rw q refl

    typed_sides : (k : ℕ) → 18 ≤ k → k < 22
        → type_clause n env (sided e 0 s k t f) ≡ (first_sight n env e k s >>= After k)
    typed_sides k l u = pick (dec_le k 18) (dec_le k 19)
      where
        pick : Dec (k ≤ 18) → Dec (k ≤ 19)
            → type_clause n env (sided e 0 s k t f) ≡ (first_sight n env e k s >>= After k)
        pick (yes h) _ = let q : k ≡ 18 = omega arith in rw (sided_choice e 0 s t f q, q) typed_choice
        pick (no h) (yes g) = let q : k ≡ 19 = omega arith in rw (sided_if e 0 s t f q, q) typed_if
        pick (no h) (no g) = rw (sided_join e 0 s k t f (omega arith)) (typed_join k (omega arith) u)

-- ---- a record by its kind's number
pub clause_none : (hs : List Head) (d p : ℕ) (s : List ℕ) → None ≡ record_kind d s → clause hs d p s ≡ bad_clause
unfolding record_kind clause clause_head clause_body
clause_none hs zero p s e = refl
clause_none hs (suc d) p s e = by (λ b. None ≡ cond b (Some (kind_number s)) None
    → clause_body hs (expr d) (clause hs d) p s (cond b (clause_kind (kind_number s)) no_clause) ≡
    bad_clause) (is_record s)
    (λ _ i. impossible cc) (λ _ i. refl) (rw (lt-ltb 0 (suc d) (omega arith)) at e)

pub clause_is : (hs : List Head) (d p : ℕ) (s : List ℕ) {k : ℕ} → Some k ≡ record_kind d s
    → clause hs d p s ≡ clause_body hs (expr (d - 1)) (clause hs (d - 1)) p s (clause_kind k)
unfolding clause clause_head
clause_is hs d p s {k} e = let h = kind_found d s e in go d h.0 h.1 h.2
  where
    go : (d : ℕ) → 0 < d → is_record s ≡ true → kind_number s ≡ k
        → clause hs d p s ≡ clause_body hs (expr (d - 1)) (clause hs (d - 1)) p s (clause_kind k)
    go zero h i j = absurd (omega arith)
    go (suc d) h i j = rw (sub-one, i, j)

module _ (n : Names) (env : List Ty) (hs : List Head) (d : ℕ) (s : List ℕ) {k : ℕ} (e : Some k ≡ record_kind d s) where
  -- the clause within, at whatever place
  child : (ts : List Ty) (a z : ℕ) → type_clause n ts (clause hs (d - 1) (0 + a) (part s a z)) ≡ type_clause n ts
      (clause hs (d - 1) 0 (part s a z))
  child ts a z = typed_place n hs (d - 1) ts (0 + a) 0 (part s a z)

  typed_wait : {c : ℕ} → k ≡ 17 → c ≡ first_clause k s
      → type_clause n env (clause hs d 0 s) ≡
      (first_sight n env (expr (d - 1)) k s >>= λ ts. after_first n (clause hs (d - 1) 0 (part s c (length s)))
      (byte s 4) ts)
  typed_wait {c} h i =
      let t = clause hs (d - 1) (0 + first_clause k s) (part s (first_clause k s) (length s)) in
      ap (type_clause n env) (clause_is hs d 0 s e ∙ body_wait hs (expr (d - 1)) (clause hs (d - 1)) 0 s h)
      ∙ typed_obligation n env (expr (d - 1)) s t
      ∙ rw (i, h) (bind_same (first_sight n env (expr (d - 1)) 17 s) _ _
      (λ ts. ap (λ (o : Option (List ℕ)). o >>= λ ps. some (byte s 4 ∷ ps))
      (child ts (first_clause 17 s) (length s))))

  typed_two : {c z : ℕ} → 18 ≤ k → k < 22 → c ≡ first_clause k s → z ≡ record_end s c
      → type_clause n env (clause hs d 0 s) ≡
      (first_sight n env (expr (d - 1)) k s >>= λ ts. both_sides k (type_clause n ts (clause hs (d - 1) 0 (part s c z)))
      (type_clause n env (clause hs (d - 1) 0 (part s z (length s)))))
  typed_two {c} {z} l u i j =
      let a = first_clause k s in
      let b = record_end s a in
      ap (type_clause n env) (clause_is hs d 0 s e ∙ body_two hs (expr (d - 1)) (clause hs (d - 1)) 0 s k l u)
      ∙ typed_sides n env (expr (d - 1)) s (clause hs (d - 1) (0 + a) (part s a b))
      (clause hs (d - 1) (0 + b) (part s b (length s))) k l u
      ∙ rw (j, i) (bind_same (first_sight n env (expr (d - 1)) k s) _ _
      (λ ts. ap (λ (o : Option (List ℕ)). both_sides k o
      (type_clause n env (clause hs (d - 1) (0 + b) (part s b (length s))))) (child ts a b)
      ∙ ap (both_sides k (type_clause n ts (clause hs (d - 1) 0 (part s a b)))) (child env b (length s))))

  typed_none : 17 ≤ k → k < 22 → first_sight n env (expr (d - 1)) k s ≡ none
      → type_clause n env (clause hs d 0 s) ≡ none
  unfolding ◌>>=◌
  typed_none l u q = pick (dec_le k 17)
    where
      pick : Dec (k ≤ 17) → type_clause n env (clause hs d 0 s) ≡ none
      pick (yes h) = typed_wait (omega arith) refl ∙ rw q
      pick (no h) = typed_two (omega arith) u refl refl ∙ rw q

-- ---- parties by bit
sides_typed : (b : Bool) (ps : List ℕ) (m : ℕ) → m ≡ member_count ps
    → cond (b && ltb 1 m) None (Some (mask_of ps)) ≡ typed_as
    (need (cond b (leb (member_count ps) 1) true) >>= λ _. some ps)
unfolding typed_as need ◌>>=◌
sides_typed true ps m e = pick (dec_le m 1)
  where
    pick : Dec (m ≤ 1) → cond (ltb 1 m) None (Some (mask_of ps)) ≡ typed_as
        (need (leb (member_count ps) 1) >>= λ _. some ps)
    pick (yes h) = rw (← e, le-ltb 1 m h, le-leb m 1 h)
    pick (no h) = rw (← e, lt-ltb 1 m (omega arith), lt-leb m 1 (omega arith))
sides_typed false ps m e = refl

joined_typed : (k : ℕ) (ps qs : List ℕ) → ValidMembers ps → ValidMembers qs
    → sides_as k (mask_of ps) (mask_of qs) ≡ typed_as (both_sides k (some ps) (some qs))
unfolding ◌>>=◌
joined_typed k ps qs f g = rw (← mask_append ps qs)
    (sides_typed (eqb k 21) (ps ++ qs) (ones (mask_of (ps ++ qs))) (mask_count (ps ++ qs) (valid_append f g)))

four : (n : Names) (env : List Ty) (b : Bool)
    → cond b (Some 0) None ≡ typed_as (type_clause n env (cond b fulfilled bad_clause))
unfolding typed_as type_clause
four n env true = ap Some (sym mask_nil)
four n env false = refl

pub valid : {g : List ℕ} (x : Lists g) (params : ℕ) → params ≤ 4 → (env : List Ty) (c : Clause) (ps : List ℕ)
    → type_clause (names_in g params) env c ≡ some ps → ValidMembers ps
unfolding names_of agreement_of
valid {g} x params few env c = valid_typed (names_in g params) x.few_parties few
    (λ k h q. declared_valid g k h (rw (heads_in_lem g) at q)) c env

module _ (g : List ℕ) (params : ℕ) (bs : List ℕ) (d : ℕ) (s : List ℕ) where
  abbrev of_clause : prelude.Option ℕ
  of_clause = typed_as (type_clause (names_in g params) (tys_of bs) (clause (heads_of g) d 0 s))

  pub clause_untyped : None ≡ record_kind d s → None ≡ of_clause
  unfolding type_clause
  clause_untyped e = untyped (rw (clause_none (heads_of g) d 0 s e))

  module _ {k : ℕ} (e : Some k ≡ record_kind d s) where
    pub clause_fulfilled : {r : prelude.Option ℕ} → k ≡ 16 → r ≡ fulfilled_as (length s) → r ≡ of_clause
    unfolding clause_body
    clause_fulfilled h q = q ∙ rw (clause_is (heads_of g) d 0 s e, kind_fulfilled h)
        (four (names_in g params) (tys_of bs) (eqb (length s) 4))

    pub clause_instance : {r : prelude.Option ℕ} → k ≡ 22
        → r ≡ typed_as (type_clause (names_in g params) (tys_of bs)
        (instance_of (expr (d - 1)) s (at (heads_of g) (byte s 4)))) → r ≡ of_clause
    unfolding clause_body
    clause_instance h q = q ∙ rw (clause_is (heads_of g) d 0 s e, kind_instance h)

    pub clause_low : k < 16 → None ≡ of_clause
    unfolding clause_body type_clause
    clause_low l = untyped (rw (clause_is (heads_of g) d 0 s e, kind_no_clause_low k l))

    pub clause_high : (k ≡ 22 → ⊥) → 22 ≤ k → None ≡ of_clause
    unfolding clause_body type_clause
    clause_high h l = untyped (rw (clause_is (heads_of g) d 0 s e, kind_no_clause_high k (omega arith)))

    clause_refused : 17 ≤ k → k < 22 → first_sight (names_in g params) (tys_of bs) (expr (d - 1)) k s ≡ none
        → None ≡ of_clause
    clause_refused l u q = untyped (typed_none (names_in g params) (tys_of bs) (heads_of g) d s e l u q)

    -- ---- an obligation: b is its blame byte
    module _ (h : k ≡ 17) {b : ℕ} (p : b ≡ byte s 4) where
      pub clause_unblamed : None ≡ cond (may_blame (byte g 8) params b) (Some (mask_of (b ∷ []))) None
          → None ≡ of_clause
      clause_unblamed j = clause_refused (omega arith) (omega arith)
          (first_refused g params (tys_of bs) (expr (d - 1)) k s h (rw p at (not_there (mask_of (b ∷ [])) j)))

      module _ {w : ℕ} (j : Some w ≡ cond (may_blame (byte g 8) params b) (Some (mask_of (b ∷ []))) None) where
        bit : w ≡ mask_of (byte s 4 ∷ [])
        bit = rw p at (there j).1

        sees : {t : Option (List Ty)} → wait_in g bs (d - 1) s 5 ≡ t
            → first_sight (names_in g params) (tys_of bs) (expr (d - 1)) k s ≡ t
        sees = first_wait g params (tys_of bs) (expr (d - 1)) k s h (rw p at (there j).0)

        pub clause_unwaited : wait_in g bs (d - 1) s 5 ≡ seen_as None → None ≡ of_clause
        unfolding seen_as
        clause_unwaited q = clause_refused (omega arith) (omega arith) (sees q)

        -- ys are the types that its `then` sees
        module _ (v : ArrayVec ℕ) (q : wait_in g bs (d - 1) s 5 ≡ seen_as (Some v)) {ys : List ℕ} (y : ys ≡ v.items)
            {c : ℕ} (i : c ≡ first_clause k s) where
          abbrev then_part : Option (List ℕ)
          then_part = type_clause (names_in g params) (tys_of ys) (clause (heads_of g) (d - 1) 0 (part s c
              (length s)))

          by_wait : type_clause (names_in g params) (tys_of bs) (clause (heads_of g) d 0 s)
              ≡ (then_part >>= λ ps. some (byte s 4 ∷ ps))
          unfolding seen_as
          by_wait =
              typed_wait (names_in g params) (tys_of bs) (heads_of g) d s e h i
              ∙ some_bind (first_sight (names_in g params) (tys_of bs) (expr (d - 1)) k s)
              (after_first (names_in g params) (clause (heads_of g) (d - 1) 0 (part s c (length s))) (byte s 4))
              (tys_of ys) (sees (q ∙ rw y))

          pub clause_then_none : None ≡ typed_as then_part → None ≡ of_clause
          unfolding ◌>>=◌
          clause_then_none f = untyped (by_wait ∙ rw (from_untyped then_part f))

          pub clause_then : {m r : ℕ} → Some m ≡ typed_as then_part → r ≡ bit_or w m → Some r ≡ of_clause
          unfolding typed_as ◌>>=◌
          clause_then f x = from_typed then_part f (λ ps o t. rw (by_wait, o)
              (ap Some (x ∙ rw (bit, t) (sym (mask_append (byte s 4 ∷ []) ps)))))

    -- ---- two sides: ys are the types that the first one sees, and a is where it ends
    pub choice_refused : k ≡ 18 → wait_in g bs (d - 1) s 4 ≡ seen_as None → None ≡ of_clause
    unfolding seen_as
    choice_refused h q = clause_refused (omega arith) (omega arith)
        (first_choice g params (tys_of bs) (expr (d - 1)) k s h q)

    pub choice_sees : (v : ArrayVec ℕ) {ys : List ℕ} → k ≡ 18 → wait_in g bs (d - 1) s 4 ≡ seen_as (Some v)
        → ys ≡ v.items → first_sight (names_in g params) (tys_of bs) (expr (d - 1)) k s ≡ some (tys_of ys)
    unfolding seen_as
    choice_sees v h q y = first_choice g params (tys_of bs) (expr (d - 1)) k s h q ∙ rw y

    pub if_refused : {c : ℕ} {b : Bool} → k ≡ 19 → c ≡ record_end s 4
        → b ≡ is_typed (byte g 8) (tys_of bs) (expr (d - 1) (part s 4 c)) truth → b ≡ false → None ≡ of_clause
    if_refused h p q z = clause_refused (omega arith) (omega arith)
        (first_untrue g params (tys_of bs) (expr (d - 1)) k s h p q z)

    module _ (l : 18 ≤ k) (u : k < 22) (ys : List ℕ)
        (sees : first_sight (names_in g params) (tys_of bs) (expr (d - 1)) k s ≡ some (tys_of ys))
        {c a : ℕ} (i : c ≡ first_clause k s) (j : a ≡ record_end s c) where
      abbrev first_part : Option (List ℕ)
      first_part = type_clause (names_in g params) (tys_of ys) (clause (heads_of g) (d - 1) 0 (part s c a))

      abbrev second_part : Option (List ℕ)
      second_part = type_clause (names_in g params) (tys_of bs) (clause (heads_of g) (d - 1) 0 (part s a (length s)))

      by_two : type_clause (names_in g params) (tys_of bs) (clause (heads_of g) d 0 s)
          ≡ both_sides k first_part second_part
      by_two =
          typed_two (names_in g params) (tys_of bs) (heads_of g) d s e l u i j
          ∙ some_bind (first_sight (names_in g params) (tys_of bs) (expr (d - 1)) k s)
          (λ ts. both_sides k (type_clause (names_in g params) ts (clause (heads_of g) (d - 1) 0 (part s c a)))
          second_part) (tys_of ys) sees

      pub clause_first_none : None ≡ typed_as first_part → None ≡ of_clause
      unfolding ◌>>=◌
      clause_first_none f = untyped (by_two ∙ rw (from_untyped first_part f))

      module _ {m : ℕ} (f : Some m ≡ typed_as first_part) where
        pub clause_second_none : None ≡ typed_as second_part → None ≡ of_clause
        unfolding ◌>>=◌
        clause_second_none w = from_typed first_part f (λ ps o t. untyped (by_two ∙ rw (
          o,
          from_untyped
              second_part w,
        )))

        pub clause_two : {o : ℕ} {r : prelude.Option ℕ} → Lists g → params ≤ 4 → Some o ≡ typed_as second_part
            → r ≡ sides_as k m o → r ≡ of_clause
        clause_two x few w z = from_typed first_part f (λ ps o t. from_typed second_part w (λ qs o₂ t₂.
            let both : type_clause (names_in g params) (tys_of bs) (clause (heads_of g) d 0 s)
            ≡ both_sides k (some ps) (some qs) = by_two ∙ rw (o, o₂) in
            z ∙ rw (t, t₂, both) (joined_typed k ps qs (valid x params few (tys_of ys) _ ps o)
            (valid x params few (tys_of bs) _ qs o₂))))

-- the sides of a choice may have many members
pub sides_choice : (k a b : ℕ) {r : ℕ} → k ≡ 18 → r ≡ bit_or a b → Some r ≡ sides_as k a b
sides_choice k a b h e = rw (h, e)

pub ruleset clauses = (
  deep,
  fewer,
  room,
  clause_untyped,
  clause_fulfilled,
  clause_instance,
  clause_low,
  clause_high,
  clause_unblamed,
  clause_unwaited,
  clause_then_none,
  clause_then,
  choice_refused,
  if_refused,
)
