-- One step of the search for a place: what the clause at hand finds there, by what the code knows of its record.
use mathlib.Core.Path.{◌≡◌, refl, sym, ap, subst, ◌∙◌}
use mathlib.Core.Bool.{Bool, true, false, cond}
use mathlib.Core.List.{List}
use mathlib.Core.Logic.{inl, inr}
use mathlib.Core.Option.{Option, none, some}
use Prim.Native.Nat.{ℕ, ◌+◌, ◌-◌, ◌≤◌, ◌<◌}
use native.Mathlib.Decide.{dec_le}
use native.Mathlib.Omega.{arith}
use borrow.Author.Tests.{ne_eqb, eq-eqb}
use lib.Dec.{T, eqb, leb, leb→le}
use lib.ListN.{length}
use Rattle.arith.proofs.Lists.{length_part}
use Rattle.octets.proofs.Bytes.{record_end_within, record_end_after, whole_from}
use Rattle.csl.specs.Lists.{or_else, or_nil, at}
use Rattle.csl.specs.Bytes.{byte, part, is_record, kind_number, record_end}
use Rattle.csl.specs.Syntax.{Ty, truth, number, Expr, Join, Wait, Clause, fulfilled, obligation, choice, if, join}
use Rattle.csl.specs.Syntax.{bad_clause, Head}
use Rattle.csl.specs.Decode.{expr, wait_at, records_end, instance_of, clause_kind, clause_body, clause, heads_of}
use Rattle.laws.specs.Joins.{join_of}
use Rattle.csl.specs.Decode.{agreement_of}
use Rattle.csl.specs.Typing.{Names, blame_ok, has_type, reading_of_type, then_sight, type_wait, type_clause, names_of}
use Rattle.csl.specs.Places.{find}
use Rattle.laws.proofs.Clash.{impossible}
use Rattle.laws.proofs.Options.{from_bind, from_need, some_inj}
use Rattle.laws.proofs.Bools.{elim_true, elim_false}
use Rattle.records.specs.Index.{first_clause}
use Rattle.records.proofs.Trees.{clause_at_lem, clause_wait, clause_two, clause_deep, clause_record, sided}
use Rattle.records.proofs.Trees.{sided_choice}
use Rattle.records.proofs.Trees.{kind_fulfilled, kind_instance, kind_no_clause_low, kind_no_clause_high}
use Rattle.records.proofs.Index.{first_within, first_from}
use Rattle.soundness.proofs.Places.{Out, find_none, or_else_none, none_or_else}
use Rattle.soundness.proofs.Decoding.{clause_ranged}
use Rattle.csl.specs.Decode.{tys_of}
use Rattle.csl.specs.Table.{is_sort}
use Rattle.kinds.specs.Kinds.{sort_in}
use Rattle.kinds.specs.declared.WaitKind as kinds
use Rattle.kinds.specs.declared.WaitKind.TheVariants.{Obligation, Choice}
use Rattle.places.specs.Locate.{find_at, TypedAt, Typed, Sees, GoesInto, IsHere}

-- ---- what a typed clause has
module _ (n : Names) (env : List Ty) where
  -- a wait whose `then` is t
  pub record TypedThen (w : Wait) (t : Clause) : Type 0 where
    pub values : List Ty
    pub is : reading_of_type n.readings w.wanted ≡ some values
    pub few : length (then_sight env values) ≤ 16
    pub parties : List ℕ
    pub typed : type_clause n (then_sight env values) t ≡ some parties

  pub record TypedSide (t : Clause) : Type 0 where
    pub parties : List ℕ
    pub typed : type_clause n env t ≡ some parties

  wait_typed_lem : {C : Type 0} (w : Wait) (us : List Ty) → type_wait n env w ≡ some us
      → (reading_of_type n.readings w.wanted ≡ some us → length (then_sight env us) ≤ 16 → C) → C
  unfolding type_wait
  wait_typed_lem w us e k =
      from_bind (reading_of_type n.readings w.wanted) _ us e λ vs a e₁.
      from_need (leb (length (then_sight env vs)) 16) _ us e₁ λ few e₂.
      from_bind (has_type n.parties _ w.condition truth) _ us e₂ λ _ _ e₃.
      from_bind (has_type n.parties env w.after number) _ us e₃ λ _ _ e₄.
      from_bind (has_type n.parties env w.within number) _ us e₄ λ _ _ e₅.
      let same : vs ≡ us = some_inj e₅ in
      k (rw same at a) (leb→le (length (then_sight env us)) 16 (rw same at few))

  pub obligation_typed : (b : ℕ) (w : Wait) (t : Clause) (ps : List ℕ) → type_clause n env (obligation b w t) ≡ some ps
      → TypedThen w t
  unfolding type_clause
  obligation_typed b w t ps e =
      from_need (blame_ok n b) _ ps e λ _ e₁.
      from_bind (type_wait n env w) _ ps e₁ λ us a e₂.
      from_bind (type_clause n (then_sight env us) t) _ ps e₂ λ qs q _.
      wait_typed_lem w us a λ is few. record { values = us; is = is; few = few; parties = qs; typed = q }

  pub choice_typed : (w : Wait) (t f : Clause) (ps : List ℕ) → type_clause n env (choice w t f) ≡ some ps
      → TypedThen w t × TypedSide f
  unfolding type_clause
  choice_typed w t f ps e =
      from_bind (type_wait n env w) _ ps e λ us a e₁.
      from_bind (type_clause n (then_sight env us) t) _ ps e₁ λ qs q e₂.
      from_bind (type_clause n env f) _ ps e₂ λ rs r _.
      wait_typed_lem w us a λ is few. (
        record { values = us; is = is; few = few; parties = qs; typed = q },
        record { parties = rs; typed = r },
      )

  pub if_typed : (x : Expr) (t f : Clause) (ps : List ℕ) → type_clause n env (if x t f) ≡ some ps → TypedSide t
      × TypedSide f
  unfolding type_clause
  if_typed x t f ps e =
      from_bind (has_type n.parties env x truth) _ ps e λ _ _ e₁.
      from_bind (type_clause n env t) _ ps e₁ λ qs q e₂.
      from_bind (type_clause n env f) _ ps e₂ λ rs r _.
      (record { parties = qs; typed = q }, record { parties = rs; typed = r })

  pub join_typed : (j : Join) (t f : Clause) (ps : List ℕ) → type_clause n env (join j t f) ≡ some ps → TypedSide t
      × TypedSide f
  unfolding type_clause
  join_typed j t f ps e =
      from_bind (type_clause n env t) _ ps e λ qs q e₁.
      from_bind (type_clause n env f) _ ps e₁ λ rs r _.
      (record { parties = qs; typed = q }, record { parties = rs; typed = r })

  pub bad_typed : {C : Type 0} (ps : List ℕ) → type_clause n env bad_clause ≡ some ps → C
  unfolding type_clause
  bad_typed ps e = impossible cc

  -- kinds 19 to 21
  sides_typed : (e : List ℕ → Expr) (p : ℕ) (s : List ℕ) (k : ℕ) (t f : Clause) (ps : List ℕ) → 19 ≤ k
      → type_clause n env (sided e p s k t f) ≡ some ps → TypedSide t × TypedSide f
  unfolding sided
  sides_typed e p s k t f ps l h = go (eqb k 19) (rw (ne_eqb k 18 (λ z. omega arith)) at h)
    where
      go : (b : Bool)
          → type_clause n env (cond b (if (e (part s 4 (record_end s 4))) t f) (join (join_of k) t f)) ≡ some ps
          → TypedSide t × TypedSide f
      go true h = if_typed (e (part s 4 (record_end s 4))) t f ps h
      go false h = join_typed (join_of k) t f ps h

-- ---- what is found in a clause with two sides of kind 19 to 21
find_sides : (rs : List (List Ty)) (n place : ℕ) (env : List Ty) (e : List ℕ → Expr) (p : ℕ) (s : List ℕ) (k : ℕ)
    (t f : Clause) → 19 ≤ k → find rs n place (sided e p s k t f) env ≡ or_else (find rs n place t env)
    (find rs n place f env)
unfolding sided find
find_sides rs n place env e p s k t f l = rw (ne_eqb k 18 (λ z. omega arith)) (go (eqb k 19))
  where
    go : (b : Bool) → find rs n place (cond b (if (e (part s 4 (record_end s 4))) t f) (join (join_of k) t f))
        env ≡ or_else (find rs n place t env) (find rs n place f env)
    go true = refl
    go false = refl

-- what is found at its own place, and elsewhere
-- what `then` sees, the wanted reading type standing at i
abbrev seen : List (List Ty) → List Ty → List ℕ → ℕ → List Ty
seen rs env s i = then_sight env (or_nil (reading_of_type rs (byte s i)))

module _ (rs : List (List Ty)) (n : ℕ) (env : List Ty) (place p : ℕ) (e : List ℕ → Expr) (s : List ℕ) where
  find_own : (b : ℕ) (t : Clause) → place ≡ p → find rs n place (obligation b (wait_at e p s 5) t) env ≡ some (record {
    clause = obligation b (wait_at e p s 5) t;
    sight = env;
    params = n;
  })
  unfolding find wait_at
  find_own b t h = elim_true (eqb place p) _ _ (eq-eqb place p h)

  find_then : (b : ℕ) (t : Clause) → (place ≡ p → ⊥)
      → find rs n place (obligation b (wait_at e p s 5) t) env ≡ find rs n place t (seen rs env s 5)
  unfolding find wait_at
  find_then b t h = elim_false (eqb place p) _ _ (ne_eqb place p h)

  choice_own : (t f : Clause) → place ≡ p → find rs n place (choice (wait_at e p s 4) t f) env ≡ some (record {
    clause = choice (wait_at e p s 4) t f;
    sight = env;
    params = n;
  })
  unfolding find wait_at
  choice_own t f h = elim_true (eqb place p) _ _ (eq-eqb place p h)

  choice_other : (t f : Clause) → (place ≡ p → ⊥)
      → find rs n place (choice (wait_at e p s 4) t f) env ≡ or_else (find rs n place t (seen rs env s 4))
      (find rs n place f env)
  unfolding find wait_at
  choice_other t f h = elim_false (eqb place p) _ _ (ne_eqb place p h)

-- ---- a typed clause is a record
module _ {A : List ℕ} {d p : ℕ} {s : List ℕ} {env : List Ty} (t : TypedAt A d p s env) where
  abbrev HasParties : Clause → Type 0
  HasParties c = type_clause (names_of (agreement_of A) t.params) env c ≡ some t.parties

  no_parties : HasParties bad_clause → ⊥
  no_parties e = bad_typed (names_of (agreement_of A) t.params) env t.parties e

  deep : d ≡ 0 → ⊥
  deep = clause_deep HasParties no_parties (heads_of A) d p s t.typed

  is_record_lem : is_record s ≡ true
  is_record_lem = clause_record HasParties no_parties (heads_of A) d p s t.typed

pub typed_room : {A : List ℕ} {p : ℕ} {s : List ℕ} {env : List Ty} → Typed A p s env → 4 ≤ length s
typed_room {s = s} t = (whole_from s (is_record_lem t.at)).room

-- ---- by the kind m: x is where the first clause part begins, z where it ends
module _ {A : List ℕ} {d p : ℕ} {s : List ℕ} (place : ℕ) (types : List ℕ) (t : TypedAt A d p s (tys_of types))
    {m : ℕ} (k : m ≡ kind_number s) where
  abbrev Env : List Ty
  Env = tys_of types

  abbrev Readings : List (List Ty)
  Readings = (agreement_of A).readings

  abbrev Name : Names
  Name = names_of (agreement_of A) t.params

  abbrev Inner : ℕ → ℕ → Clause
  Inner x z = clause (heads_of A) (d - 1) (p + x) (part s x z)

  room : 4 ≤ length s
  room = (whole_from s (is_record_lem t)).room

  one : {x : ℕ} → m ≡ 17 → x ≡ first_clause m s
      → obligation (byte s 4) (wait_at (expr (d - 1)) p s 5) (Inner x (length s)) ≡ clause (heads_of A) d p s
  one e i = clause_wait (λ (c : Clause). c) (heads_of A) d p s (deep t) refl (is_record_lem t) k e i refl

  two : {x z : ℕ} → 18 ≤ m → m < 22 → x ≡ first_clause m s → z ≡ record_end s x
      → sided (expr (d - 1)) p s m (Inner x z) (Inner z (length s)) ≡ clause (heads_of A) d p s
  two l u i j = clause_two (λ (c : Clause). c) (heads_of A) d p s (deep t) refl (is_record_lem t) k l u i j refl

  two_choice : {x z : ℕ} → m ≡ 18 → x ≡ first_clause m s → z ≡ record_end s x
      → choice (wait_at (expr (d - 1)) p s 4) (Inner x z) (Inner z (length s)) ≡ clause (heads_of A) d p s
  two_choice {x} {z} e i j = sym (sided_choice (expr (d - 1)) p s (Inner x z) (Inner z (length s)) e)
      ∙ two (omega arith) (omega arith) i j

  typed_as_lem : {c : Clause} → c ≡ clause (heads_of A) d p s → type_clause Name Env c ≡ some t.parties
  typed_as_lem e = rw e t.typed

  -- `then` under what was seen is typed
  then_typed : (i : ℕ) {u : Clause} (w : Wait) → w.wanted ≡ byte s i → TypedThen Name Env w u
      → (out : List ℕ) → tys_of out ≡ seen Readings Env s i → TypedSide Name (tys_of out) u
  unfolding names_of or_nil
  then_typed i w g h out e =
      let same : tys_of out ≡ then_sight Env h.values = e
      ∙ ap (λ (o : Option (List Ty)). then_sight Env (or_nil o)) (ap (reading_of_type Readings) (sym g) ∙ h.is) in
      record { parties = h.parties; typed = rw same h.typed }

  sees : (i : ℕ) {u : Clause} (w : Wait) → w.wanted ≡ byte s i → TypedThen Name Env w u → Sees A Env (byte s i)
  unfolding names_of
  sees i w g h = record { values = h.values; is = ap (reading_of_type Readings) (sym g) ∙ h.is; few = h.few }

  at_depth : (x z : ℕ) {env : List Ty} → TypedSide Name env (Inner x z) → TypedAt A (d - 1) (p + x) (part s x z) env
  at_depth x z h = record { params = t.params; parties = h.parties; typed = h.typed }

  -- a side does not have a place beyond its ends
  not_below : (n x z : ℕ) (env : List Ty) → place < p + x → find Readings n place (Inner x z) env ≡ none
  unfolding Out
  not_below n x z env l = find_none Readings n place (p + x) (p + x + length (part s x z)) (Inner x z) env
      (clause_ranged (heads_of A) (d - 1) (p + x) (part s x z)) (inl l)

  not_beyond : (n x z : ℕ) (env : List Ty) → z ≤ length s → x ≤ z → p + z ≤ place
      → find Readings n place (Inner x z) env ≡ none
  unfolding Out
  not_beyond n x z env u o l = find_none Readings n place (p + x) (p + x + length (part s x z)) (Inner x z) env
      (clause_ranged (heads_of A) (d - 1) (p + x) (part s x z)) (inr (omega (arith, length_part s x z u)))

  here : {c : Clause} {w : kinds.WaitKind} → c ≡ clause (heads_of A) d p s
      → ((n : ℕ) → find_at A n place c Env ≡ some (record {
        clause = c;
        sight = Env;
        params = n;
      })) → T (is_sort (sort_in w) c) → IsHere A d p s place Env w
  here {w = w} e f g = record {
    is = subst (λ (c : Clause). (n : ℕ) → find_at A n place c Env ≡ some (record {
      clause = c;
      sight = Env;
      params = n;
    })) e f;
    sorted = subst (λ (c : Clause). T (is_sort (sort_in w) c)) e g;
  }

  -- ---- an obligation
  pub obligation_here : m ≡ 17 → place ≡ p → IsHere A d p s place Env Obligation
  unfolding is_sort
  obligation_here e h = here (one {x = first_clause m s} e refl)
      (λ n. find_own Readings n Env place p (expr (d - 1)) s (byte s 4) _ h) tt

  wanted_first : m ≡ 17 → TypedThen Name Env (wait_at (expr (d - 1)) p s 5) (Inner (first_clause m s) (length s))
  wanted_first e = obligation_typed Name Env (byte s 4) (wait_at (expr (d - 1)) p s 5)
      (Inner (first_clause m s) (length s)) t.parties (typed_as_lem (one e refl))

  pub obligation_sees : m ≡ 17 → Sees A Env (byte s 5)
  unfolding wait_at
  obligation_sees e = sees 5 (wait_at (expr (d - 1)) p s 5) refl (wanted_first e)

  pub obligation_into : {x w : ℕ} (out : List ℕ) → m ≡ 17 → (place ≡ p → ⊥) → x ≡ first_clause m s → w ≡ byte s 5
      → tys_of out ≡ then_sight Env (or_nil (reading_of_type Readings w))
      → GoesInto A d p s place Env out x (length s)
  unfolding wait_at
  obligation_into {x} {w} out e h i g q =
      let v : tys_of out ≡ seen Readings Env s 5 = q
      ∙ ap (λ (y : ℕ). then_sight Env (or_nil (reading_of_type Readings y))) g in
      record {
        from = rw i (first_from m s room);
        ordered = rw i (first_within m s room);
        inside = omega arith;
        typed = at_depth x (length s) (then_typed 5 (wait_at (expr (d - 1)) p s 5) refl
            (rw (sym i) at (wanted_first e)) out v);
        same = λ n. ap (λ (c : Clause). find_at A n place c Env) (sym (one e i))
            ∙ find_then Readings n Env place p (expr (d - 1)) s (byte s 4) (Inner x (length s)) h
            ∙ ap (find Readings n place (Inner x (length s))) (sym v);
      }

  -- ---- a choice
  pub choice_here : m ≡ 18 → place ≡ p → IsHere A d p s place Env Choice
  unfolding is_sort
  choice_here e h = here (two_choice {x = first_clause m s} {z = record_end s (first_clause m s)} e refl refl)
      (λ n. choice_own Readings n Env place p (expr (d - 1)) s _ _ h) tt

  module _ {x z : ℕ} (i : x ≡ first_clause m s) (j : z ≡ record_end s x) where
    begins : 4 ≤ x
    begins = rw i (first_from m s room)

    starts : x ≤ length s
    starts = rw i (first_within m s room)

    ends : z ≤ length s
    ends = rw j (record_end_within s x)

    follows : x ≤ z
    follows = rw j (record_end_after s x starts)

    wanted_either : m ≡ 18 → TypedThen Name Env (wait_at (expr (d - 1)) p s 4) (Inner x z)
        × TypedSide Name Env (Inner z (length s))
    wanted_either e = choice_typed Name Env (wait_at (expr (d - 1)) p s 4) (Inner x z) (Inner z (length s))
        t.parties (typed_as_lem (two_choice e i j))

    pub choice_sees : m ≡ 18 → Sees A Env (byte s 4)
    unfolding wait_at
    choice_sees e = sees 4 (wait_at (expr (d - 1)) p s 4) refl (wanted_either e).0

    other : (n : ℕ) → m ≡ 18 → (place ≡ p → ⊥)
        → find_at A n place (clause (heads_of A) d p s) Env ≡ or_else
        (find Readings n place (Inner x z) (seen Readings Env s 4)) (find Readings n place (Inner z (length s)) Env)
    other n e h = ap (λ (c : Clause). find_at A n place c Env) (sym (two_choice e i j))
        ∙ choice_other Readings n Env place p (expr (d - 1)) s (Inner x z) (Inner z (length s)) h

    pub choice_then : {w : ℕ} (out : List ℕ) → m ≡ 18 → (place ≡ p → ⊥) → place < p + z → w ≡ byte s 4
        → tys_of out ≡ then_sight Env (or_nil (reading_of_type Readings w)) → GoesInto A d p s place Env out x z
    unfolding wait_at
    choice_then {w} out e h l g q =
        let v : tys_of out ≡ seen Readings Env s 4 = q
        ∙ ap (λ (y : ℕ). then_sight Env (or_nil (reading_of_type Readings y))) g in
        record {
          from = begins;
          ordered = follows;
          inside = ends;
          typed = at_depth x z (then_typed 4 (wait_at (expr (d - 1)) p s 4) refl (wanted_either e).0 out v);
          same = λ n. other n e h ∙ none_or_else _ _ (not_below n z (length s) Env l)
              ∙ ap (find Readings n place (Inner x z)) (sym v);
        }

    pub choice_else : m ≡ 18 → (place ≡ p → ⊥) → p + z ≤ place → GoesInto A d p s place Env types z (length s)
    choice_else e h l = record {
      from = omega (arith, begins, follows);
      ordered = ends;
      inside = omega arith;
      typed = at_depth z (length s) (wanted_either e).1;
      same = λ n. other n e h ∙ or_else_none _ _ (not_beyond n x z (seen Readings Env s 4) ends follows l);
    }

    -- ---- two sides
    either_side : 19 ≤ m → m < 22 → TypedSide Name Env (Inner x z) × TypedSide Name Env (Inner z (length s))
    either_side l u = sides_typed Name Env (expr (d - 1)) p s m (Inner x z) (Inner z (length s)) t.parties l
        (typed_as_lem (two (omega arith) u i j))

    in_sides : (n : ℕ) → 19 ≤ m → m < 22 → find_at A n place (clause (heads_of A) d p s) Env ≡ or_else
        (find Readings n place (Inner x z) Env) (find Readings n place (Inner z (length s)) Env)
    in_sides n l u = ap (λ (c : Clause). find_at A n place c Env) (sym (two (omega arith) u i j))
        ∙ find_sides Readings n place Env (expr (d - 1)) p s m (Inner x z) (Inner z (length s)) l

    pub sides_left : 19 ≤ m → m < 22 → place < p + z → GoesInto A d p s place Env types x z
    sides_left l u h = record {
      from = begins;
      ordered = follows;
      inside = ends;
      typed = at_depth x z (either_side l u).0;
      same = λ n. in_sides n l u ∙ none_or_else _ _ (not_below n z (length s) Env h);
    }

    pub sides_right : 19 ≤ m → m < 22 → p + z ≤ place → GoesInto A d p s place Env types z (length s)
    sides_right l u h = record {
      from = omega (arith, begins, follows);
      ordered = ends;
      inside = omega arith;
      typed = at_depth z (length s) (either_side l u).1;
      same = λ n. in_sides n l u ∙ or_else_none _ _ (not_beyond n x z Env ends follows h);
    }

  -- ---- other kinds have no clause parts
  blank : (n : ℕ) (b : Bool) (x : Clause) → find Readings n place x Env ≡ none
      → none ≡ find Readings n place (cond b x bad_clause) Env
  unfolding find
  blank n true x h = sym h
  blank n false x h = refl

  instance_none : (n : ℕ) (o : Option Head) → none ≡ find Readings n place (instance_of (expr (d - 1)) s o) Env
  unfolding instance_of find
  instance_none n none = refl
  instance_none n (some h) = blank n (eqb (records_end (length h.values) s 5 + h.params) (length s)) _ refl

  leaf : (n : ℕ) → none ≡ find Readings n place
      (clause_body (heads_of A) (expr (d - 1)) (clause (heads_of A) (d - 1)) p s (clause_kind m)) Env
      → find_at A n place (clause (heads_of A) d p s) Env ≡ none
  leaf n h = sym (clause_at_lem (λ (c : Clause). find Readings n place c Env) (heads_of A) d p s (deep t) refl
      (is_record_lem t) k h)

  pub absent_low : m < 17 → (n : ℕ) → find_at A n place (clause (heads_of A) d p s) Env ≡ none
  unfolding clause_body find
  absent_low l n = leaf n (go (dec_le 16 m))
    where
      go : Dec (16 ≤ m) → none ≡ find Readings n place
          (clause_body (heads_of A) (expr (d - 1)) (clause (heads_of A) (d - 1)) p s (clause_kind m)) Env
      go (yes h) = rw (kind_fulfilled {k = m} (omega arith)) (blank n (eqb (length s) 4) fulfilled refl)
      go (no h) = rw (kind_no_clause_low m (omega arith))

  pub absent_high : 22 ≤ m → (n : ℕ) → find_at A n place (clause (heads_of A) d p s) Env ≡ none
  unfolding clause_body find
  absent_high l n = leaf n (go (dec_le m 22))
    where
      go : Dec (m ≤ 22) → none ≡ find Readings n place
          (clause_body (heads_of A) (expr (d - 1)) (clause (heads_of A) (d - 1)) p s (clause_kind m)) Env
      go (yes h) = rw (kind_instance {k = m} (omega arith)) (instance_none n (at (heads_of A) (byte s 4)))
      go (no h) = rw (kind_no_clause_high m (omega arith))
