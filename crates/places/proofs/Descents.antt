-- The search for a place, step by step, and through the templates.
use mathlib.Core.Path.{◌≡◌, refl, sym, ap, subst, ◌∙◌}
use mathlib.Core.List.{List, [], ◌∷◌, map}
use mathlib.Core.Logic.{inl, inr}
use mathlib.Core.Option.{Option, none, some}
use Prim.Native.Nat.{ℕ, zero, suc, ◌+◌, ◌-◌, ◌≤◌, ◌<◌}
use native.Mathlib.Omega.{arith}
use lib.Dec.{T, eqb, leb, leb→le}
use lib.ListN.{length}
use Rattle.arith.proofs.Lists.{length_part}
use Rattle.octets.proofs.Bytes.{record_end_within, record_end_after}
use Rattle.csl.specs.Lists.{or_else, or_nil, at}
use Rattle.csl.specs.Bytes.{byte, part, record_end}
use Rattle.csl.specs.Syntax.{Ty, Template, Agreement, Clause, fulfilled, obligation, choice, if, join, instance}
use Rattle.csl.specs.Syntax.{bad_clause}
use Rattle.csl.specs.Decode.{pieces, records_end, clause, tys_of, heads_of, whole, main_of, main_place, templates_place}
use Rattle.csl.specs.Decode.{template_pieces, template_of, agreement_of}
use Rattle.csl.specs.Typing.{type_clause, names_of, then_sight}
use Rattle.csl.specs.Places.{Found, find, find_in, clause_at}
use Rattle.records.specs.Index.{Lists, Spans, template_place, head_at, template_piece}
use Rattle.records.specs.Index.{body_from}
use Rattle.records.specs.Index.{body_to, body_bytes, main_bytes}
use Rattle.records.proofs.Index.{templates_at, template_within, pieces_more, pieces_from, pieces_none}
use Rattle.records.proofs.Index.{body_within, body_is, body_there, main_within}
use Rattle.laws.proofs.Options.{some_inj, from_or_else, none_some}
use Rattle.laws.proofs.Bools.{from_test, both_true}
use Rattle.soundness.proofs.Places.{Out, find_none, or_else_none, none_or_else}
use Rattle.soundness.proofs.Decoding.{clause_ranged, decode_is}
use Rattle.soundness.proofs.Checked.{passed, fair}
use Rattle.soundness.proofs.Walks.{Fair}
use Rattle.std.specs.Prelude.{Option as Maybe, Some, None}
use Rattle.std.specs.Prelude.{MatchOption}
use Rattle.std.specs.List.{AllWithin, HoldsAt, range_with_len}
use Rattle.std.proofs.lemmas.List.FromFn.{length-range_with_len, get_or-range_with_len}
use native.Mathlib.Numerals.{add-one}
use Rattle.csl.specs.Decode.{length_ok, between}
use Rattle.kinds.specs.declared.WaitKind.{WaitKind}
use Rattle.places.specs.declared.Located.{Located}
use Rattle.places.specs.declared.Step.{Step}
use Rattle.places.specs.declared.Step.TheVariants.{Here, Into}
use Rattle.places.proofs.Found.{found_is}
use Rattle.places.proofs.Steps.{TypedSide, obligation_typed, choice_typed, if_typed, join_typed}
use Rattle.places.specs.Locate.{Finds, Locates, TypedAt, Typed, GoesInto, StepAt, StepIs, DescentIs}
use Rattle.places.specs.Locate.{in_template, Stands}
use Rattle.places.specs.Sight.{types_in}
use Rattle.csl.specs.Check.{mains_of, Accepted}

module _ {A : List ℕ} {p : ℕ} {s : List ℕ} {place : ℕ} {types out : List ℕ} {r : Maybe Step}
    (h : StepIs A p s place types out r) where
  pub descent_absent : r ≡ None → DescentIs A p s place types out None
  unfolding StepAt Finds
  descent_absent e = record { each = λ d t n. (rw e at (h.each d t)) n }

  pub descent_here : {w : WaitKind} → r ≡ Some (Here w) → DescentIs A p s place types out (Some w)
  unfolding StepAt Finds
  descent_here e = record {
    each = λ d t n.
        let g = rw e at (h.each d t) in
        record { found = _; is = g.0.is n; params = refl; sight = rw g.1; sorted = g.0.sorted };
  }

  module _ {x e : ℕ} (w : r ≡ Some (Into x e)) where
    goes : (d : ℕ) → TypedAt A d p s (tys_of types) → GoesInto A d p s place (tys_of types) out x e
    unfolding StepAt
    goes d t = rw w at (h.each d t)

    pub into_typed : Typed A p s (tys_of types) → Typed A (p + x) (part s x e) (tys_of out)
    into_typed t = record { depth = t.depth - 1; at = (goes t.depth t.at).typed }

    pub into_room : Typed A p s (tys_of types) → (4 ≤ x) × (x ≤ e) × (e ≤ length s)
    into_room t = let g = goes t.depth t.at in (g.from, g.ordered, g.inside)

    pub descent_into : {out₂ : List ℕ} {q : Maybe WaitKind} → DescentIs A (p + x) (part s x e) place out out₂ q
        → DescentIs A p s place types out₂ q
    descent_into {out₂} {q} g = record {
      each = λ d t n. let o = goes d t in subst (λ (y : Option Found). Finds y out₂ n q) (sym (o.same n))
          (g.each (d - 1) o.typed n);
    }

-- what is found there, as what the search at the place answers
pub finds_none : (o : Option Found) (out : List ℕ) (n : ℕ) {r : Maybe WaitKind} → Finds o out n r → r ≡ None
    → Locates o None
unfolding Finds Locates
finds_none o out n h e = rw e at h

pub finds_some : (o : Option Found) (l : Located) {n : ℕ} {r : Maybe WaitKind} → Finds o (types_in l.sight) n r
    → l.params ≡ n → r ≡ Some l.wait → Locates o (Some l)
unfolding Finds Locates
finds_some o l h i e = rw i (rw e at h)

-- ---- what check established
pub fairly : {A : List ℕ} → Accepted A → Fair (agreement_of A) (mains_of A)
fairly {A} h = fair A (agreement_of A) (mains_of A) (passed A (agreement_of A) (mains_of A) h.is)

pub accepted_short : {A : List ℕ} → Accepted A → length A ≤ 16_384
unfolding length_ok between
accepted_short {A} h =
    let p = passed A (agreement_of A) (mains_of A) h.is in
    both_true (between 4 16_384 (length A)) _ p.length_ok λ a b.
    both_true (leb 4 (length A)) (leb (length A) 16_384) a λ c d. leb→le (length A) 16_384 d

-- what is found is the clause recorded at the place, and whole
pub found_clause : (A : List ℕ) (place : ℕ) (f : Found) → Accepted A → clause_at (agreement_of A) place ≡ some f
    → (f.clause ≡ clause (heads_of A) 23 place (part A place (record_end A place))) × T (whole f.clause)
found_clause A place f g h = decode_is A (agreement_of A) (passed A (agreement_of A) (mains_of A) g.is).decodes λ t
    _. found_is A place f t h

-- ---- what is found is typed, under what is in sight there
module _ (ag : Agreement) (p : ℕ) (f : Found) where
  abbrev TypedFound : Type 0
  TypedFound = TypedSide (names_of ag f.params) f.sight f.clause

  -- the clause itself
  same_found : (n : ℕ) (env : List Ty) (c : Clause) {ps : List ℕ} → type_clause (names_of ag n) env c ≡ some ps
      → some (record {
        clause = c;
        sight = env;
        params = n;
      }) ≡ some f → TypedFound
  same_found n env c {ps} t e = subst (λ (g : Found). TypedSide (names_of ag g.params) g.sight g.clause)
      (some_inj e) (record { parties = ps; typed = t })

  find_typed : (n : ℕ) (c : Clause) (env : List Ty) (ps : List ℕ) → type_clause (names_of ag n) env c ≡ some ps
      → find ag.readings n p c env ≡ some f → TypedFound
  unfolding find names_of or_nil
  find_typed n fulfilled env ps t e = none_some e
  find_typed n (obligation b w c) env ps t e =
      let h = obligation_typed (names_of ag n) env b w c ps t in
      from_test (eqb p w.place) _ _ e (λ _ g. same_found n env (obligation b w c) t g)
      (λ g. find_typed n c (then_sight env h.values) h.parties h.typed (rw h.is at g))
  find_typed n (choice w c d) env ps t e =
      let h = choice_typed (names_of ag n) env w c d ps t in
      from_test (eqb p w.place) _ _ e (λ _ g. same_found n env (choice w c d) t g)
      (λ g. from_or_else _ _ f g (λ o. find_typed n c (then_sight env h.0.values) h.0.parties h.0.typed
      (rw h.0.is at o)) (λ o. find_typed n d env h.1.parties h.1.typed o))
  find_typed n (if x c d) env ps t e =
      let h = if_typed (names_of ag n) env x c d ps t in
      from_or_else _ _ f e (λ o. find_typed n c env h.0.parties h.0.typed o)
      (λ o. find_typed n d env h.1.parties h.1.typed o)
  find_typed n (join j c d) env ps t e =
      let h = join_typed (names_of ag n) env j c d ps t in
      from_or_else _ _ f e (λ o. find_typed n c env h.0.parties h.0.typed o)
      (λ o. find_typed n d env h.1.parties h.1.typed o)
  find_typed n (instance k es bs) env ps t e = none_some e
  find_typed n bad_clause env ps t e = none_some e

  find_in_typed : (ts : List Template) → ((k : ℕ) (t : Template) → at ts k ≡ some t
      → TypedSide (names_of ag t.head.params) t.head.values t.body) → find_in ag.readings p ts ≡ some f
      → TypedFound
  unfolding find_in at
  find_in_typed [] h e = none_some e
  find_in_typed (t ∷ ts) h e = from_or_else _ _ f e
      (λ o. let g = h 0 t refl in find_typed t.head.params t.body t.head.values g.parties g.typed o)
      (λ o. find_in_typed ts (λ k u q. h (suc k) u q) o)

  pub found_typed : (mains : List ℕ) → Fair ag mains → clause_at ag p ≡ some f → TypedFound
  unfolding clause_at
  found_typed mains fr e = from_or_else _ _ f e (find_typed 0 ag.main [] mains fr.main)
      (find_in_typed ag.templates (λ k t q. let x = fr.templates k t q in
      record { parties = x.blames; typed = x.typed }))

-- ---- the body of a template: from and to are what a call gave
module _ {A : List ℕ} {k from to : ℕ} (l : k < byte A 10) (b : Spans A k from to) where
  pub body_typed : {env : List Ty} → Accepted A → env ≡ (head_at A k).values → TypedAt A 22 from (part A from to) env
  unfolding template_of
  body_typed h v =
      let f = (fairly h).templates k (template_of (heads_of A) (template_piece A k)) (templates_at A k l) in
      record {
        params = (head_at A k).params;
        parties = f.blames;
        typed = rw (v, sym (body_is b (heads_of A))) f.typed;
      }

  pub template_located : {types out : List ℕ} {r : Maybe WaitKind} {place : ℕ} → Accepted A
      → tys_of types ≡ (head_at A k).values → DescentIs A from (part A from to) place types out r
      → Finds (in_template A k place) out (head_at A k).params r
  unfolding in_template
  template_located h v d = rw (body_is b (heads_of A), sym v) (d.each 22 (body_typed h v) (head_at A k).params)

-- as calls gave it
its_bytes : {A s : List ℕ} {k from to : ℕ} → Spans A k from to → s ≡ body_bytes A k → s ≡ part A from to
its_bytes b e = e ∙ rw (b.begins, b.ends)

module _ {A s types : List ℕ} {k from to : ℕ} (h : Accepted A) (l : k < byte A 10) (b : Spans A k from to)
    (e : s ≡ body_bytes A k) (v : tys_of types ≡ (head_at A k).values)
  where
    pub body_stands : Stands A from s types
    body_stands =
        let same = its_bytes b e in
        rw same (record {
          typed = record { depth = 22; at = body_typed l b h v };
          fits = omega (arith, accepted_short h, b.ordered, b.inside, length_part A from to b.inside);
        })

    pub body_found : {out : List ℕ} {r : Maybe WaitKind} {place : ℕ} → DescentIs A from s place types out r
        → Finds (in_template A k place) out (head_at A k).params r
    body_found d = let same = its_bytes b e in template_located l b h v (rw same at d)

-- ---- which template holds the place
-- template k ends behind it, or not
abbrev pub Behind : List ℕ → ℕ → ℕ → Type 0
Behind A place k = place < record_end A (template_place A k)

abbrev pub Before : List ℕ → ℕ → ℕ → Type 0
Before A place k = record_end A (template_place A k) ≤ place

-- r is the first of n templates that ends behind it
abbrev pub FirstBehind : List ℕ → ℕ → ℕ → Maybe ℕ → Type 0
FirstBehind A place n r = MatchOption r
    (AllWithin (Before A place) (range_with_len 0 n) 0 (length (range_with_len 0 n)))
    (λ k. Behind A place k × (i : ℕ) × (i < length (range_with_len 0 n)) × HoldsAt (λ y. y ≡ k) (range_with_len 0 n) i
    × AllWithin (Before A place) (range_with_len 0 n) 0 i)

module _ (A : List ℕ) (place : ℕ) where
  -- j templates from template k on
  abbrev InTemplates : ℕ → ℕ → Option Found
  InTemplates j k = find_in (agreement_of A).readings place
      (map (template_of (heads_of A)) (pieces j A (template_place A k)))

  -- what is left to search at template k
  pub record Left (k : ℕ) : Type 0 where
    pub few : k ≤ byte A 10
    pub same : clause_at (agreement_of A) place ≡ InTemplates (byte A 10 - k) k

module _ {A : List ℕ} (x : Lists A) (place : ℕ) where
  ended : (k : ℕ) → template_place A (k + 1) ≡ record_end A (template_place A k)
  ended k = pieces_more k A (templates_place A)

  body_out : (k : ℕ) → k < byte A 10 → Out place (template_place A k) (record_end A (template_place A k))
      → in_template A k place ≡ none
  unfolding in_template Out
  body_out k l o =
      let b = body_there (x, l) in
      let from = body_from A k in
      let s = part A from (body_to A k) in
      rw (body_is b (heads_of A)) (find_none (agreement_of A).readings (head_at A k).params place from
      (from + length s) (clause (heads_of A) 22 from s) (head_at A k).values (clause_ranged (heads_of A) 22 from s)
      (go o))
    where
      go : Out place (template_place A k) (record_end A (template_place A k))
          → Out place (body_from A k) (body_from A k + length (part A (body_from A k) (body_to A k)))
      go (inl h) = inl (omega arith)
      go (inr h) = inr (omega (
        arith,
        length_part A (body_from A k) (body_to A k) (record_end_within A (template_place A k)),
        body_within x k l,
      ))

  first_of : (j k : ℕ) → InTemplates A place (suc j) k ≡ or_else (in_template A k place) (InTemplates A place j (k + 1))
  unfolding find_in pieces in_template template_of
  first_of j k = rw (ended k) refl

  before : (j k : ℕ) → k + j ≡ byte A 10 → place < template_place A k → InTemplates A place j k ≡ none
  unfolding find_in pieces Out
  before zero k l h = refl
  before (suc j) k l h = first_of j k ∙ or_else_none _ _ (body_out k (omega arith) (inl h))
      ∙ before j (k + 1) (omega arith) (rw (ended k)
      (omega (arith, record_end_after A (template_place A k) (template_within x k))))

  beyond : (j k : ℕ) → k + j ≡ byte A 10 → records_end j A (template_place A k) ≤ place → InTemplates A place j k ≡ none
  unfolding find_in pieces records_end Out
  beyond zero k l h = refl
  beyond (suc j) k l h = first_of j k ∙ or_else_none _ _
      (body_out k (omega arith) (inr (omega (
        arith,
        pieces_from j A (record_end A (template_place A k)) (record_end_within A (template_place A k)),
      ))))
      ∙ beyond j (k + 1) (omega arith) (rw (ended k) h)

  more_left : (k : ℕ) → k < byte A 10 → byte A 10 - k ≡ suc (byte A 10 - (k + 1))
  more_left k l = omega arith

  zero_less : (n : ℕ) → n - 0 ≡ n
  zero_less n = omega arith

  pub left_first : {m : ℕ} → m ≡ main_place A → place < m → Left A place 0
  unfolding clause_at agreement_of main_of template_pieces Out
  left_first {m} e l =
      let b = part A (main_place A) (length A) in
      record {
        few = omega arith;
        same = or_else_none _ _
            (find_none (agreement_of A).readings 0 place (main_place A) (main_place A + length b) (main_of A) []
            (clause_ranged (heads_of A) 23 (main_place A) b) (inl (omega arith)))
            ∙ rw (zero_less (byte A 10)) (rw (pieces_none A (templates_place A)));
      }

  pub left_more : {k e a : ℕ} → k < byte A 10 → a ≡ template_place A k → e ≡ record_end A a → e ≤ place → Left A place k
      → Left A place (k + 1)
  unfolding Out
  left_more {k} l p q u h = record {
    few = omega arith;
    same = h.same
        ∙ rw (more_left k l) (first_of (byte A 10 - (k + 1)) k
        ∙ or_else_none _ _ (body_out k l (inr (omega (arith, ap (record_end A) p)))));
  }

  pub left_here : {k e a : ℕ} (r : Maybe Located) → k < byte A 10 → a ≡ template_place A k → e ≡ record_end A a
      → place < e → Left A place k → Locates (in_template A k place) r → Locates (clause_at (agreement_of A) place) r
  left_here {k} r l p q u h g =
      let rest = before (byte A 10 - (k + 1)) (k + 1) (omega arith)
      (rw (ended k) (omega (arith, ap (record_end A) p))) in
      let same : clause_at (agreement_of A) place ≡ in_template A k place = h.same
      ∙ rw (more_left k l) (first_of (byte A 10 - (k + 1)) k ∙ none_or_else _ _ rest) in
      subst (λ (o : Option Found). Locates o r) (sym same) g

  pub left_none : {k : ℕ} → byte A 10 ≤ k → Left A place k → Locates (clause_at (agreement_of A) place) None
  unfolding Locates find_in pieces
  left_none {k} u h = let z : byte A 10 - k ≡ 0 = omega arith in h.same ∙ rw z

  module _ {m n : ℕ} (e : m ≡ main_place A) (l : place < m) (g : n ≡ byte A 10) where
    left_until : (i : ℕ) → i ≤ n → AllWithin (Before A place) (range_with_len 0 n) 0 i → Left A place i
    left_until zero u h = left_first e l
    left_until (suc i) u h =
        let z : 0 + i ≡ i = omega arith in
        let here : Before A place i = subst (Before A place) (get_or-range_with_len 0 n i 0 (omega arith) ∙ z)
        (h i 0 (omega arith) (omega arith)) in
        subst (Left A place) (add-one i)
        (left_more (omega arith) refl refl here (left_until i (omega arith) (λ k d a b. h k d a (omega arith))))

    pub none_behind : (r : Maybe ℕ) → FirstBehind A place n r → r ≡ None
        → Locates (clause_at (agreement_of A) place) None
    none_behind r h q =
        let f = rw q at h in
        let all : length (range_with_len 0 n) ≡ n = length-range_with_len 0 n in
        left_none (omega arith) (left_until n (omega arith) (rw all at f))

    pub one_behind : (r : Maybe ℕ) → FirstBehind A place n r → {k : ℕ} → r ≡ Some k
        → (k < byte A 10) × ((a : Maybe Located) → Locates (in_template A k place) a
        → Locates (clause_at (agreement_of A) place) a)
    one_behind r h {k} q =
        let f = rw q at h in
        let i = f.1 in
        let few : i < n = omega (arith, f.2, length-range_with_len 0 n) in
        let z : i ≡ 0 + i = omega arith in
        let same : i ≡ k = z ∙ sym (get_or-range_with_len 0 n i 0 few) ∙ f.3 0 in
        let left : Left A place k = subst (Left A place) same (left_until i (omega arith) f.4) in
        (omega arith, λ a d. left_here a (omega arith) refl refl f.0 left d)

  -- ---- the main clause
  pub main_typed : {m : ℕ} {types : List ℕ} → Accepted A → m ≡ main_place A → types ≡ []
      → TypedAt A 23 m (part A m (length A)) (tys_of types)
  unfolding tys_of agreement_of main_of
  main_typed h e z = rw (e, z) (record { params = 0; parties = mains_of A; typed = (fairly h).main })

  pub main_located : {m : ℕ} {types out : List ℕ} {r : Maybe WaitKind} → Accepted A → m ≡ main_place A → m ≤ place
      → types ≡ [] → DescentIs A m (part A m (length A)) place types out r
      → Finds (clause_at (agreement_of A) place) out 0 r
  unfolding clause_at agreement_of main_of template_pieces main_place tys_of
  main_located {m} {types} {out} {r} h e l z d =
      let none_there = rw (pieces_none A (templates_place A)) at
      (beyond (byte A 10) 0 (omega arith) (rw (pieces_none A (templates_place A)) (omega arith))) in
      let found = d.each 23 (main_typed h e z) 0 in
      subst (λ (o : Option Found). Finds o out 0 r) (sym (none_or_else _ _ none_there)) (rw (e, z) at found)

  -- as calls gave it
  module _ {m : ℕ} {s types : List ℕ} (h : Accepted A) (e : m ≡ main_place A) (b : s ≡ main_bytes A)
      (z : types ≡ [])
    where
      pub main_stands : Stands A m s types
      main_stands =
          let within = main_within x in
          rw (b, e) (record {
            typed = record { depth = 23; at = main_typed h refl z };
            fits = omega (arith, accepted_short h, length_part A (main_place A) (length A) (omega arith));
          })

      pub main_found : {out : List ℕ} {r : Maybe WaitKind} → m ≤ place → DescentIs A m s place types out r
          → Finds (clause_at (agreement_of A) place) out 0 r
      main_found l d = main_located h e l z (let same : s ≡ part A m (length A) = b ∙ rw e in rw same at d)
