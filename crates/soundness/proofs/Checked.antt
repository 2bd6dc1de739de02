-- What an accepted agreement has: its templates and main clause are typed, guarded, and found at their places.
use mathlib.Core.Bool.{Bool, false, true}
use mathlib.Core.List.{List, [], ◌∷◌}
use mathlib.Core.Logic.{inl, inr}
use mathlib.Core.Option.{Option, none, some}
use mathlib.Core.Path.{ap, refl, subst, ◌∙◌, ◌≡◌}
use Prim.Native.Nat.{◌+◌, ◌<◌, suc, zero, ℕ, ◌≤◌}
use native.Mathlib.Omega.{arith}
use lib.Dec.{T, ltb, ltb→lt, lt→ltb}
use lib.ListN.{length}
use Rattle.csl.specs.Lists.{all, at}
use Rattle.csl.specs.Parties.{member}
use Rattle.csl.specs.Syntax.{Agreement, Head, Template, Ty}
use Rattle.csl.specs.Decode.{decode, length_ok}
use Rattle.csl.specs.Typing.{heads_in, is_constant, names_of, type_clause, type_template, type_templates, typed}
use Rattle.csl.specs.Guards.{guarded_from, guarded_in}
use Rattle.csl.specs.Widths.{narrow_all}
use Rattle.csl.specs.Sizes.{fits}
use Rattle.csl.specs.Check.{CheckResult, accepted, check_decoded, check_narrow, check_typed, checked, refused}
use Rattle.csl.specs.Places.{clause_at, find_in}
use Rattle.laws.proofs.Bools.{T-left, T-right}
use Rattle.laws.proofs.Options.{from_bind, from_need, need_true, some_inj}
use Rattle.laws.proofs.Clash.{impossible}
use Rattle.soundness.proofs.Members.{In, all_in, member→in}
use Rattle.soundness.proofs.Good.{Placed}
use Rattle.soundness.proofs.Walks.{Fair}
use Rattle.soundness.proofs.Places.{Out, find_none, none_or_else, or_else_none, out_in, placed_in, ranged_le}
use Rattle.soundness.proofs.Decoding.{TRanged, decoded, tranged_le}

find_in_none : (rs : List (List Ty)) (p lo hi : ℕ) (ts : List Template) → TRanged lo hi ts → Out p lo hi
    → find_in rs p ts ≡ none
unfolding TRanged find_in
find_in_none rs p lo hi [] h o = refl
find_in_none rs p lo hi (t ∷ ts) h o =
    or_else_none _ _ (find_none rs t.head.params p lo h.0 t.body t.head.values h.1
    (out_in p lo hi lo h.0 (omega arith) (tranged_le h.0 hi ts h.2) o))
    ∙ find_in_none rs p h.0 hi ts h.2 (out_in p lo hi h.0 hi (ranged_le lo h.0 t.body h.1)
    (omega arith) o)

templates_placed : (ag : Agreement) (lo hi : ℕ) (ts : List Template) → TRanged lo hi ts
    → ((p : ℕ) → lo ≤ p → p < hi → clause_at ag p ≡ find_in ag.readings p ts) → (k : ℕ) (t : Template)
    → at ts k ≡ some t → Placed ag t.head.params t.head.values t.body × (t.head.params ≤ 4)
unfolding TRanged find_in at Out
templates_placed ag lo hi [] h f k t e = impossible cc
templates_placed ag lo hi (t' ∷ ts) h f zero t e = subst
    (λ z. Placed ag z.head.params z.head.values z.body × (z.head.params ≤ 4)) (some_inj e) (
      placed_in ag t'.head.params lo h.0 t'.body t'.head.values h.1
          (λ p a b. f p a (omega (arith, tranged_le h.0 hi ts h.2))
          ∙ none_or_else _ _ (find_in_none ag.readings p h.0 hi ts h.2 (inl b))),
      h.3,
    )
templates_placed ag lo hi (t' ∷ ts) h f (suc k) t e = templates_placed ag h.0 hi ts h.2
    (λ p a b. f p (omega (arith, ranged_le lo h.0 t'.body h.1)) b
    ∙ or_else_none _ _ (find_none ag.readings t'.head.params p lo h.0 t'.body t'.head.values
    h.1 (inr a))) k t e

-- ---- what check gives
pass : (b : Bool) (n : ℕ) (x : CheckResult) (a : Agreement) (ms : List ℕ)
    → (elim b [ false ↦ refused n | true ↦ x ]) ≡ accepted a ms → T b × (x ≡ accepted a ms)
pass true n x a ms e = (tt, e)
pass false n x a ms e = impossible cc

have : {A : Type 0} (o : Option A) (n : ℕ) (f : A → CheckResult) (a : Agreement) (ms : List ℕ)
    → (elim o [ none ↦ refused n | some x ↦ f x ]) ≡ accepted a ms → (x : A) × (o ≡ some x) × (f x ≡ accepted a ms)
have none n f a ms e = impossible cc
have (some x) n f a ms e = (x, refl, e)

pub record Passed (bytes : List ℕ) (a : Agreement) (mains : List ℕ) : Type 0 where
  pub length_ok : T (length_ok bytes)
  pub decodes : decode bytes ≡ some a
  pub types : typed a ≡ some mains
  pub guarded : T (guarded_from 0 a.templates)
  pub narrow : T (narrow_all a)
  pub fits : T (fits a)

-- what each of check's tests says of an accepted agreement
pub passed : (bytes : List ℕ) (a : Agreement) (mains : List ℕ) → checked bytes ≡ accepted a mains → Passed bytes a mains
unfolding checked check_decoded check_typed check_narrow
passed bytes a mains e =
    let p₁ = pass (length_ok bytes) 1 _ a mains e in
    let p₂ = have (decode bytes) 2 check_decoded a mains p₁.1 in
    let p₃ = have (typed p₂.0) 3 (check_typed p₂.0) a mains p₂.2 in
    let p₄ = pass (guarded_from 0 p₂.0.templates) 4 _ a mains p₃.2 in
    let p₅ = pass (narrow_all p₂.0) 5 _ a mains p₄.1 in
    let p₆ = pass (fits p₂.0) 15 _ a mains p₅.1 in
    let ea : p₂.0 ≡ a = same_a _ a _ mains p₆.1 in
    let em : p₃.0 ≡ mains = same_m _ a _ mains p₆.1 in
    record {
      length_ok = p₁.0;
      decodes = p₂.1 ∙ ap some ea;
      types = subst (λ z. typed z ≡ some mains) ea (p₃.1 ∙ ap some em);
      guarded = subst (λ z. T (guarded_from 0 z.templates)) ea p₄.0;
      narrow = subst (λ z. T (narrow_all z)) ea p₅.0;
      fits = subst (λ z. T (fits z)) ea p₆.0;
    }
  where
    same_a : (a b : Agreement) (m n : List ℕ) → accepted a m ≡ accepted b n → a ≡ b
    same_a a b m n e = cc

    same_m : (a b : Agreement) (m n : List ℕ) → accepted a m ≡ accepted b n → m ≡ n
    same_m a b m n e = cc

guarded_at : (m : ℕ) (ts : List Template) (k : ℕ) (t : Template) → T (guarded_from m ts) → at ts k ≡ some t
    → T (guarded_in (k + m) t.body)
unfolding guarded_from at
guarded_at m [] k t g e = impossible cc
guarded_at m (t' ∷ ts) zero t g e = subst (λ z. T (guarded_in (0 + m) z.body)) (some_inj e)
    (subst (λ z. T (guarded_in z t'.body)) (omega arith) (T-left (guarded_in m t'.body) _ g))
guarded_at m (t' ∷ ts) (suc k) t g e = subst (λ z. T (guarded_in z t.body)) (omega arith)
    (guarded_at (suc m) ts k t (T-right (guarded_in m t'.body) _ g) e)

typed_at : {C : Type 0} (ps : ℕ) (rs : List (List Ty)) (hs : List Head) (ts : List Template) (u : Unit {0}) (k : ℕ)
    (t : Template) → type_templates ps rs hs ts ≡ some u → at ts k ≡ some t
    → ((v : Unit {0}) → type_template ps rs hs t ≡ some v → C) → C
unfolding type_templates at
typed_at ps rs hs [] u k t e h f = impossible cc
typed_at ps rs hs (t' ∷ ts) u zero t e h f = from_bind (type_template ps rs hs t') _ u e λ v a b. f v
    (subst (λ z. type_template ps rs hs z ≡ some v) (some_inj h) a)
typed_at ps rs hs (t' ∷ ts) u (suc k) t e h f = from_bind (type_template ps rs hs t') _ u e λ v a b. typed_at ps rs hs
    ts u k t b h f

constant_in : (ds : List ℕ) (q : ℕ) → q < 128 → T (elim (is_constant q) [ true ↦ member q ds | false ↦ true ]) → In q ds
unfolding is_constant
constant_in ds q h t = go (ltb q 128) (lt→ltb q 128 h) t
  where
    go : (b : Bool) → T b → T (elim b [ true ↦ member q ds | false ↦ true ]) → In q ds
    go true x y = member→in q ds y
    go false x y = absurd x

-- An accepted agreement is fair: every template and the main clause is typed, guarded, and found at its places.
pub fair : (bytes : List ℕ) (a : Agreement) (mains : List ℕ) → Passed bytes a mains → Fair a mains
unfolding typed type_template names_of clause_at Out
fair bytes a mains p =
    let d = decoded bytes a p.decodes in
    from_bind (type_templates a.parties a.readings (heads_in a.templates) a.templates) _ mains p.types
    λ u tt' tm.
    record {
      few = d.few;
      templates = λ k t e. typed_at a.parties a.readings (heads_in a.templates) a.templates u k t tt' e λ v
          tv.
          from_need (all (λ q. ltb q a.parties) t.head.declared) _ v tv λ t₁ b₁.
          from_bind (type_clause (names_of a t.head.params) t.head.values t.body) _ v b₁ λ qs a₂ b₂.
          let pl = templates_placed a d.lo d.mid a.templates d.templates
          (λ q lo hi. or_else_none _ _ (find_none a.readings 0 q d.mid (length bytes) a.main [] d.main
          (inl hi))) k t e in
          record {
            few_params = pl.1;
            blames = qs;
            typed = a₂;
            all_declared = λ q i lt. constant_in t.head.declared q lt
                (all_in (λ q. elim (is_constant q) [ true ↦ member q t.head.declared | false ↦ true ]) qs
                (need_true _ v b₂) q i);
            declared = λ q i. ltb→lt q a.parties (all_in (λ q. ltb q a.parties) t.head.declared t₁ q i);
            guarded = subst (λ z. T (guarded_in z t.body)) (omega arith)
                (guarded_at 0 a.templates k t p.guarded e);
            placed = pl.0;
          };
      main = tm;
      main_placed = placed_in a 0 d.mid (length bytes) a.main [] d.main
          (λ q lo hi. none_or_else _ _ (find_in_none a.readings q d.lo d.mid a.templates d.templates
          (inr lo)));
    }
