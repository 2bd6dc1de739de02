-- Activating and following keep a fair agreement's residues good.
use mathlib.Core.Bool.{◌&&◌}
use mathlib.Core.List.{◌++◌, List, [], ◌∷◌}
use mathlib.Core.Logic.{inl, inr}
use mathlib.Core.Option.{some}
use mathlib.Core.Path.{ap, refl, subst, sym, ◌∙◌, ◌≡◌}
use Prim.Native.Nat.{◌+◌, ◌-◌, ◌<◌, suc, zero, ℕ, ◌≤◌}
use native.Mathlib.Omega.{arith}
use lib.Dec.{T, eqb, leb, leb→le, ltb, ltb→lt, lt→ltb}
use lib.ListN.{length}
use Rattle.csl.specs.Lists.{◌>>=◌, all, at}
use Rattle.csl.specs.Syntax.{Agreement, Clause, Head, Template, Ty, bad_clause, choice, fulfilled, if, instance, join}
use Rattle.csl.specs.Syntax.{obligation, truth}
use Rattle.csl.specs.Typing.{blame_ok, has_type, have_types, heads_in, join_ok, names_of, then_sight, type_clause}
use Rattle.csl.specs.Typing.{type_wait}
use Rattle.csl.specs.Guards.{guarded_in}
use Rattle.csl.specs.Values.{Val}
use Rattle.csl.specs.Outcomes.{Sight, or_stuck}
use Rattle.csl.specs.Rules.{Step, activate, activating, during, walk_in}
use Rattle.csl.specs.Table.{is_sort, stand_for, stands_for}
use Rattle.laws.proofs.Bools.{T-both, T-left, T-or, T-right, or_left}
use Rattle.laws.proofs.Options.{from_bind, from_need, some_inj}
use Rattle.laws.proofs.Clash.{impossible}
use Rattle.soundness.proofs.Members.{In, Sub, all_in, in_cases, in_left, in_right, stand_in, sub_refl}
use Rattle.soundness.proofs.Evaluation.{HaveTy}
use Rattle.soundness.proofs.Good.{Good, Ok, Placed, SightOk, good_sub}
use Rattle.soundness.proofs.Walks.{Fair, FairTemplate, StepGood, UnfoldGood, at_heads, at_in, at_lt}
use Rattle.soundness.proofs.Walks.{blamed_constant, blamed_param, good_bind, lt_at, stands_blamed, walk_good}

-- ---- guardedness
pub guarded_mono : (k n : ℕ) (c : Clause) → k ≤ n → T (guarded_in k c) → T (guarded_in n c)
unfolding guarded_in
guarded_mono k n fulfilled h t = tt
guarded_mono k n (obligation b w c) h t = tt
guarded_mono k n (choice w c f) h t = guarded_mono k n f h t
guarded_mono k n (if e c f) h t = T-both (guarded_in n c) _ (guarded_mono k n c h (T-left (guarded_in k c) _ t))
    (guarded_mono k n f h (T-right (guarded_in k c) _ t))
guarded_mono k n (join j c f) h t = T-both (guarded_in n c) _ (guarded_mono k n c h (T-left (guarded_in k c) _ t))
    (guarded_mono k n f h (T-right (guarded_in k c) _ t))
guarded_mono k n (instance m es bs) h t = lt→ltb m n (omega (arith, ltb→lt m k t))
guarded_mono k n bad_clause h t = tt

heads_len : (ts : List Template) → length (heads_in ts) ≡ length ts
unfolding heads_in
heads_len [] = refl
heads_len (t ∷ ts) = ap suc (heads_len ts)

module _ (ag : Agreement) (mains : List ℕ) (fair : Fair ag mains) where
  pub heads_declared : (k : ℕ) (h : Head) → at (heads_in ag.templates) k ≡ some h → (q : ℕ) → In q h.declared
      → q < ag.parties
  heads_declared k h e q i = at_heads ag.templates k h e λ t p eq. (fair.templates k t p).declared q
      (subst (λ x. In q x.declared) (sym eq) i)

  -- every blame byte of a typed clause is in range
  pub typed_blames : (c : Clause) (n : ℕ) (env : List Ty) (bs : List ℕ) → type_clause (names_of ag n) env c ≡ some bs
      → (q : ℕ) → In q bs → T (blame_ok (names_of ag n) q)
  unfolding type_clause names_of In blame_ok
  typed_blames fulfilled n env bs ty q i = absurd (subst (λ l. In q l) (sym (some_inj ty)) i)
  typed_blames (obligation b w t) n env bs ty q i =
      from_need (blame_ok (names_of ag n) b) _ bs ty λ ok q₁.
      from_bind (type_wait (names_of ag n) env w) _ bs q₁ λ vs tw q₂.
      from_bind (type_clause (names_of ag n) (then_sight env vs) t) _ bs q₂ λ ps p q₃.
      first b ps ok (typed_blames t n (then_sight env vs) ps p) (subst (λ l. In q l) (sym (some_inj q₃)) i)
    where
      first : (b : ℕ) (ps : List ℕ) → T (blame_ok (names_of ag n) b)
          → ((q : ℕ) → In q ps → T (blame_ok (names_of ag n) q)) → In q (b ∷ ps) → T (blame_ok (names_of ag n) q)
      first b ps ok f (inl e) = subst (λ x. T (blame_ok (names_of ag n) x)) (sym e) ok
      first b ps ok f (inr k) = f q k
  typed_blames (choice w t f) n env bs ty q i =
      from_bind (type_wait (names_of ag n) env w) _ bs ty λ vs tw q₂.
      from_bind (type_clause (names_of ag n) (then_sight env vs) t) _ bs q₂ λ ps p q₃.
      from_bind (type_clause (names_of ag n) env f) _ bs q₃ λ qs p' q₄.
      in_cases q ps qs (subst (λ l. In q l) (sym (some_inj q₄)) i) (typed_blames t n (then_sight env vs) ps p q)
      (typed_blames f n env qs p' q)
  typed_blames (if x t f) n env bs ty q i =
      from_bind (has_type ag.parties env x truth) _ bs ty λ u tx q₂.
      from_bind (type_clause (names_of ag n) env t) _ bs q₂ λ ps p q₃.
      from_bind (type_clause (names_of ag n) env f) _ bs q₃ λ qs p' q₄.
      in_cases q ps qs (subst (λ l. In q l) (sym (some_inj q₄)) i) (typed_blames t n env ps p q)
      (typed_blames f n env qs p' q)
  typed_blames (join j t f) n env bs ty q i =
      from_bind (type_clause (names_of ag n) env t) _ bs ty λ ps p q₃.
      from_bind (type_clause (names_of ag n) env f) _ bs q₃ λ qs p' q₄.
      from_need (join_ok j (ps ++ qs)) _ bs q₄ λ ok q₅.
      in_cases q ps qs (subst (λ l. In q l) (sym (some_inj q₅)) i) (typed_blames t n env ps p q)
      (typed_blames f n env qs p' q)
  typed_blames (instance k es cs) n env bs ty q i =
      from_bind (at (heads_in ag.templates) k) _ bs ty λ h p q₁.
      from_bind (have_types ag.parties env es h.values) _ bs q₁ λ u te q₂.
      from_need (eqb (length cs) h.params && all (blame_ok (names_of ag n)) cs) _ bs q₂ λ t r.
      in_cases q h.declared cs (subst (λ l. In q l) (sym (some_inj r)) i)
      (λ k'. constant (heads_declared k h p q k'))
      (all_in (blame_ok (names_of ag n)) cs (T-right (eqb (length cs) h.params) _ t) q)
    where
      constant : q < ag.parties → T (blame_ok (names_of ag n) q)
      constant h = or_left (ltb q ag.parties) _ (lt→ltb q ag.parties h)
  typed_blames bad_clause n env bs ty q i = impossible cc

  -- a typed clause names only templates that are there
  pub typed_guarded : (c : Clause) (n : ℕ) (env : List Ty) (bs : List ℕ) → type_clause (names_of ag n) env c ≡ some bs
      → T (guarded_in (length ag.templates) c)
  unfolding type_clause names_of guarded_in
  typed_guarded fulfilled n env bs ty = tt
  typed_guarded (obligation b w t) n env bs ty = tt
  typed_guarded (choice w t f) n env bs ty =
      from_bind (type_wait (names_of ag n) env w) _ bs ty λ vs tw q₂.
      from_bind (type_clause (names_of ag n) (then_sight env vs) t) _ bs q₂ λ ps p q₃.
      from_bind (type_clause (names_of ag n) env f) _ bs q₃ λ qs p' q₄. typed_guarded f n env qs p'
  typed_guarded (if x t f) n env bs ty =
      from_bind (has_type ag.parties env x truth) _ bs ty λ u tx q₂.
      from_bind (type_clause (names_of ag n) env t) _ bs q₂ λ ps p q₃.
      from_bind (type_clause (names_of ag n) env f) _ bs q₃ λ qs p' q₄. T-both (guarded_in (length ag.templates) t) _
      (typed_guarded t n env ps p) (typed_guarded f n env qs p')
  typed_guarded (join j t f) n env bs ty =
      from_bind (type_clause (names_of ag n) env t) _ bs ty λ ps p q₃.
      from_bind (type_clause (names_of ag n) env f) _ bs q₃ λ qs p' q₄. T-both (guarded_in (length ag.templates) t) _
      (typed_guarded t n env ps p) (typed_guarded f n env qs p')
  typed_guarded (instance k es cs) n env bs ty =
      from_bind (at (heads_in ag.templates) k) _ bs ty λ h p q₁. lt→ltb k (length ag.templates)
      (omega (arith, at_lt (heads_in ag.templates) k h p, heads_len ag.templates))
  typed_guarded bad_clause n env bs ty = tt

  -- what a template's body blames, its parameters put in, lies within what an instance declares and names
  pub body_sub : (k : ℕ) (t : Template) (ft : FairTemplate ag k t) (vs : List Val) (ps : List ℕ)
      → SightOk ag t.head.params t.head.values (record { params = ps; values = vs })
      → Sub (stand_for ps ft.blames) (t.head.declared ++ ps)
  unfolding Sub blame_ok names_of
  body_sub k t ft vs ps ok x i =
      let r = stand_in ps ft.blames x i in
      subst (λ z. In z (t.head.declared ++ ps)) (sym r.2)
      (one r.0 r.1 (typed_blames t.body t.head.params t.head.values ft.blames ft.typed
      r.0 r.1))
    where
      one : (b : ℕ) → In b ft.blames → T (blame_ok (names_of ag t.head.params) b)
          → In (stands_for ps b) (t.head.declared ++ ps)
      one b j ok' = T-or (ltb b ag.parties) (leb 128 b && ltb b (128 + t.head.params)) ok'
          (λ c. let h : b < 128 = omega (arith, ltb→lt b ag.parties c, fair.few) in
          subst (λ z. In z (t.head.declared ++ ps)) (sym (stands_blamed ps b b (blamed_constant ps b h)))
          (in_left b t.head.declared ps (ft.all_declared b j h)))
          (λ c. let lo = leb→le 128 b (T-left (leb 128 b) _ c) in
          let hi = ltb→lt b (128 + t.head.params) (T-right (leb 128 b) _ c) in
          let a = lt_at ps (b - 128) (omega (arith, ok.count)) in
          subst (λ z. In z (t.head.declared ++ ps)) (sym (stands_blamed ps b a.0 (blamed_param ps b lo ∙ a.1)))
          (in_right a.0 t.head.declared ps (at_in ps (b - 128) a.0 a.1)))

  module _ (W : ℕ → Type 0) (s : Step) (sg : StepGood ag fair.few heads_declared W s) where
    unfoldable pub WalksGood : ℕ → Type 0
    WalksGood m = (c : Clause) (n : ℕ) (env : List Ty) (e : Sight) (a : ℕ) (bs : List ℕ) → T (guarded_in m c)
        → SightOk ag n env e → W a → type_clause (names_of ag n) env c ≡ some bs → Placed ag n env c
        → Good ag W (stand_for e.params bs) (walk_in s ag.templates m c e a)

    pub unfold_good : (m : ℕ) → WalksGood m
        → UnfoldGood ag fair.few heads_declared W (suc m)
        (λ k vs ps u. or_stuck (at ag.templates k >>= λ t. some
        (walk_in s ag.templates m t.body (record { params = ps; values = vs }) u)))
    unfolding UnfoldGood WalksGood or_stuck
    unfold_good m ih k h vs ps u lt ph hv cnt rng wu =
        at_heads ag.templates k h ph λ t pt eq.
        let ft = fair.templates k t pt in
        let ok' : SightOk ag t.head.params t.head.values (record { params = ps; values = vs }) = record {
          count = cnt ∙ ap (λ z. z.params) (sym eq);
          few_params = ft.few_params;
          range = rng;
          values = subst
              (λ z. HaveTy ag.parties z.values vs) (sym eq) hv;
        } in
        good_bind ag fair.few heads_declared W (h.declared ++ ps) (at ag.templates k) _ t pt
        (subst (λ z. Good ag W (z.declared ++ ps)
        (walk_in s ag.templates m t.body (record { params = ps; values = vs }) u)) eq
        (good_sub ag W (stand_for ps ft.blames) (t.head.declared ++ ps) _ (body_sub k t ft vs ps ok')
        (ih t.body t.head.params t.head.values (record { params = ps; values = vs }) u ft.blames
        (guarded_mono k m t.body (omega arith) ft.guarded) ok' wu ft.typed ft.placed)))

    -- the same through instances: a guarded template names only lower ones, so unfolding ends
    pub walk_in_good : (m : ℕ) → WalksGood m
    unfolding walk_in UnfoldGood WalksGood
    walk_in_good zero = walk_good ag fair.few heads_declared W s sg 0 _ (λ k h vs ps u lt. absurd (omega arith))
    walk_in_good (suc m) = walk_good ag fair.few heads_declared W s sg (suc m) _ (unfold_good m (walk_in_good m))

    -- and with as many unfoldings as there are templates
    pub during_good : (c : Clause) (n : ℕ) (env : List Ty) (e : Sight) (a : ℕ) (bs : List ℕ) → SightOk ag n env e
        → W a → type_clause (names_of ag n) env c ≡ some bs → Placed ag n env c
        → Good ag W (stand_for e.params bs) (during s ag.templates c e a)
    unfolding during WalksGood
    during_good c n env e a bs ok wa ty pl = walk_in_good (length ag.templates) c n env e a bs
        (typed_guarded c n env bs ty) ok wa ty pl

  -- ---- activating
  pub activating_good : (W : ℕ → Type 0) → StepGood ag fair.few heads_declared W activating
  unfolding activating Good Ok Placed is_sort
  activating_good W = record {
    obligation = λ n env b w t e a bs ok wa ty pl. (
      stand_for e.params bs,
      record {
        found = record { clause = obligation b w t; sight = env; params = n };
        is_at = pl.0;
        sorted = tt;
        when = wa;
        sight = ok;
        blames = bs;
        typed = ty;
        parties = refl;
        placed = pl;
      },
      sub_refl (stand_for e.params bs),
    );
    choice = λ n env w t f e a bs g ok wa ty pl h. (
      stand_for e.params bs,
      record {
        found = record { clause = choice w t f; sight = env; params = n };
        is_at = pl.0;
        sorted = tt;
        when = wa;
        sight = ok;
        blames = bs;
        typed = ty;
        parties = refl;
        placed = pl;
      },
      sub_refl (stand_for e.params bs),
    );
  }

  -- Activating a typed clause gives a good outcome: typing and parties are kept, and it is never stuck.
  pub activate_good : (W : ℕ → Type 0) (c : Clause) (n : ℕ) (env : List Ty) (e : Sight) (a : ℕ) (bs : List ℕ)
      → SightOk ag n env e → W a → type_clause (names_of ag n) env c ≡ some bs → Placed ag n env c
      → Good ag W (stand_for e.params bs) (activate ag.templates c e a)
  unfolding activate
  activate_good W c n env e a bs ok wa ty pl = during_good W activating (activating_good W) c n env e a bs ok wa ty pl
