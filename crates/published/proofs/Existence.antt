-- A relation on typed clauses that holds of something at obligations and choices, and has the other rules, holds of
-- something at every typed clause: a guarded template names only lower ones, so unfolding ends.
use mathlib.Core.Bool.{Bool, true, false, ◌&&◌}
use mathlib.Core.List.{List, ◌++◌}
use mathlib.Core.Option.{some}
use mathlib.Core.Path.{ap, subst, sym, ◌∙◌, ◌≡◌}
use Prim.Native.Nat.{ℕ, zero, suc, ◌<◌}
use native.Mathlib.Omega.{arith}
use lib.Dec.{T, eqb, eqb→eq, ltb, ltb→lt}
use lib.ListN.{length}
use Rattle.csl.specs.Lists.{all, at}
use Rattle.csl.specs.Syntax.{Agreement, Clause, Expr, Head, Join, Template, Ty, Wait, bad_clause, choice, fulfilled}
use Rattle.csl.specs.Syntax.{if, instance, join, obligation, truth}
use Rattle.csl.specs.Typing.{blame_ok, has_type, have_types, heads_in, join_ok, names_of, type_clause}
use Rattle.csl.specs.Guards.{guarded_in}
use Rattle.csl.specs.Values.{Val, bool, eval_bool}
use Rattle.csl.specs.Outcomes.{Sight}
use Rattle.csl.specs.Table.{stand_for}
use Rattle.laws.proofs.Clash.{impossible}
use Rattle.laws.proofs.Bools.{T-left, T-right}
use Rattle.laws.proofs.Options.{from_bind, from_need, some_inj}
use Rattle.soundness.proofs.Members.{Sub, in_left, in_right, stand_++, stand_join_ok, stand_sub}
use Rattle.soundness.proofs.Evaluation.{HaveTy}
use Rattle.soundness.proofs.Good.{SightOk}
use Rattle.soundness.proofs.Walks.{Fair, at_heads, blamed_all_ok, bool_typed, evals_typed, stand_instance}
use Rattle.soundness.proofs.Activation.{body_sub, guarded_mono, heads_declared, typed_guarded}
use Rattle.published.specs.Fig6.{Evaluates, EvaluateAll}
use Rattle.published.specs.Fig7.{StandAll}
use Rattle.published.specs.Fig8.{sight_of}
use Rattle.published.proofs.Evaluations.{all_derived, bool_derived, evals_derived}

module _ (ag : Agreement) (W : ℕ → Type 0) (Got : Type 0) (Fine : List ℕ → Got → Type 0)
    (R : Sight → ℕ → Clause → Got → Type 0) where
  -- the relation holds of something that is fine with the parties P
  abbrev pub Gives : Sight → ℕ → Clause → List ℕ → Type 0
  Gives s τ c P = (v : Got) × R s τ c v × Fine P v

  pub record Rules : Type 0 where
    pub fine_sub : (P Q : List ℕ) (v : Got) → Sub P Q → Fine P v → Fine Q v
    pub fulfilment : (n : ℕ) (env : List Ty) (s : Sight) (τ : ℕ) (bs : List ℕ) → SightOk ag n env s
        → type_clause (names_of ag n) env fulfilled ≡ some bs → Gives s τ fulfilled (stand_for s.params bs)
    pub obligation : (n : ℕ) (env : List Ty) (b : ℕ) (w : Wait) (c : Clause) (s : Sight) (τ : ℕ) (bs : List ℕ)
        → SightOk ag n env s → W τ → type_clause (names_of ag n) env (obligation b w c) ≡ some bs
        → Gives s τ (obligation b w c) (stand_for s.params bs)
    pub choice : (n : ℕ) (env : List Ty) (w : Wait) (c f : Clause) (s : Sight) (τ : ℕ) (bs : List ℕ)
        → SightOk ag n env s → W τ → type_clause (names_of ag n) env (choice w c f) ≡ some bs
        → ((qs : List ℕ) (u : ℕ) → type_clause (names_of ag n) env f ≡ some qs → W u
        → Gives s u f (stand_for s.params qs))
        → Gives s τ (choice w c f) (stand_for s.params bs)
    pub internal_true : (s : Sight) (τ : ℕ) (x : Expr) (t f : Clause) (v : Got) → Evaluates s.values x (bool true)
        → R s τ t v → R s τ (if x t f) v
    pub internal_false : (s : Sight) (τ : ℕ) (x : Expr) (t f : Clause) (v : Got) → Evaluates s.values x (bool false)
        → R s τ f v → R s τ (if x t f) v
    pub composition : (s : Sight) (τ : ℕ) (j : Join) (t f : Clause) (P Q : List ℕ) → T (join_ok j (P ++ Q))
        → Gives s τ t P → Gives s τ f Q → Gives s τ (join j t f) (P ++ Q)
    pub instantiation : (s : Sight) (τ k : ℕ) (es : List Expr) (bs ps : List ℕ) (vs : List Val) (t : Template) (v : Got)
        → EvaluateAll s.values es vs → StandAll s.params bs ps → at ag.templates k ≡ some t
        → R (sight_of ps vs) τ t.body v → R s τ (instance k es bs) v

  module _ (mains : List ℕ) (fair : Fair ag mains) (rules : Rules) where
    -- instances of the templates below m
    abbrev Instances : ℕ → Type 0
    Instances m = (k : ℕ) (h : Head) (vs : List Val) (ps : List ℕ) (τ : ℕ) → k < m
        → at (heads_in ag.templates) k ≡ some h → HaveTy ag.parties h.values vs → length ps ≡ h.params
        → T (all (λ x. ltb x ag.parties) ps) → W τ
        → (t : Template) × (at ag.templates k ≡ some t) × Gives (sight_of ps vs) τ t.body (h.declared ++ ps)

    clause_gives : (m : ℕ) → Instances m → (c : Clause) (n : ℕ) (env : List Ty) (s : Sight) (τ : ℕ) (bs : List ℕ)
        → T (guarded_in m c) → SightOk ag n env s → W τ → type_clause (names_of ag n) env c ≡ some bs
        → Gives s τ c (stand_for s.params bs)
    unfolding guarded_in type_clause Sub names_of
    clause_gives m below fulfilled n env s τ bs gd ok wτ ty = rules.fulfilment n env s τ bs ok ty
    clause_gives m below (obligation b w c) n env s τ bs gd ok wτ ty = rules.obligation n env b w c s τ bs ok wτ ty
    clause_gives m below (choice w c f) n env s τ bs gd ok wτ ty = rules.choice n env w c f s τ bs ok wτ ty
        (λ qs u tyf wu. clause_gives m below f n env s u qs gd ok wu tyf)
    clause_gives m below (if x t f) n env s τ bs gd ok wτ ty =
        from_bind (has_type ag.parties env x truth) _ bs ty λ u tx q₀.
        from_bind (type_clause (names_of ag n) env t) _ bs q₀ λ ps p q.
        from_bind (type_clause (names_of ag n) env f) _ bs q λ qs p' q'.
        bool_typed ag.parties env s.values ok.values x u tx λ b eb.
        side ps qs (some_inj q') b eb (clause_gives m below t n env s τ ps (T-left (guarded_in m t) _ gd) ok wτ p)
        (clause_gives m below f n env s τ qs (T-right (guarded_in m t) _ gd) ok wτ p')
      where
        side : (ps qs : List ℕ) → ps ++ qs ≡ bs → (b : Bool) → eval_bool s.values x ≡ some b
            → Gives s τ t (stand_for s.params ps) → Gives s τ f (stand_for s.params qs)
            → Gives s τ (if x t f) (stand_for s.params bs)
        side ps qs eq true e g h = (
          g.0,
          rules.internal_true s τ x t f g.0 (bool_derived s.values x true e)
              g.1,
          rules.fine_sub (stand_for s.params ps) (stand_for s.params bs) g.0
              (stand_sub s.params ps bs (subst (λ l. Sub ps l) eq (λ x i. in_left x ps qs i))) g.2,
        )
        side ps qs eq false e g h = (
          h.0,
          rules.internal_false s τ x t f h.0 (bool_derived s.values x false e)
              h.1,
          rules.fine_sub (stand_for s.params qs) (stand_for s.params bs) h.0
              (stand_sub s.params qs bs (subst (λ l. Sub qs l) eq (λ x i. in_right x ps qs i))) h.2,
        )
    clause_gives m below (join j t f) n env s τ bs gd ok wτ ty =
        from_bind (type_clause (names_of ag n) env t) _ bs ty λ ps p q.
        from_bind (type_clause (names_of ag n) env f) _ bs q λ qs p' q'.
        from_need (join_ok j (ps ++ qs)) _ bs q' λ j-ok r.
        let g = clause_gives m below t n env s τ ps (T-left (guarded_in m t) _ gd) ok wτ p in
        let h = clause_gives m below f n env s τ qs (T-right (guarded_in m t) _ gd) ok wτ p' in
        let apart = subst (λ l. T (join_ok j l)) (stand_++ s.params ps qs)
        (stand_join_ok j s.params (ps ++ qs) j-ok) in
        let c = rules.composition s τ j t f (stand_for s.params ps) (stand_for s.params qs) apart g h in (
          c.0,
          c.1,
          subst (λ l. Fine l c.0)
              (sym (stand_++ s.params ps qs) ∙ ap (stand_for s.params) (some_inj r)) c.2,
        )
    clause_gives m below (instance k es cs) n env s τ bs gd ok wτ ty =
        from_bind (at (heads_in ag.templates) k) _ bs ty λ h p q.
        from_bind (have_types ag.parties env es h.values) _ bs q λ u te q₂.
        from_need (eqb (length cs) h.params && all (blame_ok (names_of ag n)) cs) _ bs q₂ λ t r.
        let ev = evals_typed ag.parties env s.values ok.values es h.values u te in
        let bl = blamed_all_ok ag n env s ok fair.few cs (T-right (eqb (length cs) h.params) _ t) in
        let stood = stand_for s.params cs in
        let i = below k h ev.0 stood τ (ltb→lt k m gd) p ev.2
        (bl.2 ∙ eqb→eq (length cs) h.params (T-left (eqb (length cs) h.params) _ t)) bl.1 wτ in
        let g = i.2 in
        let declared = stand_instance s.params h.declared cs
        (λ x i. omega (arith, heads_declared ag mains fair k h p x i, fair.few)) in (
          g.0,
          rules.instantiation s τ k es cs stood ev.0 i.0 g.0 (evals_derived s.values es ev.0 ev.1)
              (all_derived s.params cs stood bl.0) i.1 g.1,
          subst (λ l. Fine (stand_for s.params l) g.0) (some_inj r)
              (rules.fine_sub (h.declared ++ stood) (stand_for s.params (h.declared ++ cs)) g.0 declared
              g.2),
        )
    clause_gives m below bad_clause n env s τ bs gd ok wτ ty = impossible cc

    instances : (m : ℕ) → Instances m
    instances zero k h vs ps τ lt p hv count range wτ = absurd (omega arith)
    instances (suc m) k h vs ps τ lt p hv count range wτ =
        at_heads ag.templates k h p λ t pt eq.
        let ft = fair.templates k t pt in
        let known : SightOk ag t.head.params t.head.values (sight_of ps vs) = record {
          count = count ∙ ap (λ z. z.params) (sym eq);
          few_params = ft.few_params;
          range = range;
          values = subst (λ z. HaveTy ag.parties z.values vs) (sym eq) hv;
        } in
        let g = clause_gives m (instances m) t.body t.head.params t.head.values (sight_of ps vs) τ
        ft.blames (guarded_mono k m t.body (omega arith) ft.guarded) known wτ ft.typed in (
          t,
          pt,
          (
            g.0,
            g.1,
            subst (λ z. Fine (z.declared ++ ps) g.0) eq
                (rules.fine_sub (stand_for ps ft.blames) (t.head.declared ++ ps) g.0
                (body_sub ag mains fair k t ft vs ps known) g.2),
          ),
        )

    pub typed_gives : (c : Clause) (n : ℕ) (env : List Ty) (s : Sight) (τ : ℕ) (bs : List ℕ)
        → SightOk ag n env s → W τ → type_clause (names_of ag n) env c ≡ some bs
        → Gives s τ c (stand_for s.params bs)
    typed_gives c n env s τ bs ok wτ ty = clause_gives (length ag.templates) (instances (length ag.templates)) c
        n env s τ bs (typed_guarded ag mains fair c n env bs ty) ok wτ ty
