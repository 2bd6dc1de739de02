-- Each walk of a fair agreement's clause is good.
use mathlib.Core.Bool.{◌&&◌, Bool, false, true}
use mathlib.Core.List.{◌++◌, List, [], ◌∷◌}
use mathlib.Core.Logic.{inl, inr}
use mathlib.Core.Option.{Option, some}
use mathlib.Core.Path.{ap, refl, subst, sym, ◌∙◌, ◌≡◌}
use Prim.Native.Nat.{◌+◌, ◌-◌, ◌<◌, suc, zero, ℕ, ◌≤◌}
use native.Mathlib.Omega.{arith}
use lib.Dec.{T, eqb, eqb→eq, leb, leb→le, ltb, ltb→lt, lt→ltb}
use lib.IntN.{ℤ}
use lib.ListN.{length}
use Rattle.csl.specs.Lists.{◌>>=◌, all, at}
use Rattle.csl.specs.Numbers.{in_range}
use Rattle.csl.specs.Syntax.{Agreement, Clause, Expr, Head, Template, Ty, Wait, bad_clause, choice, fulfilled, if}
use Rattle.csl.specs.Syntax.{instance, join, number, obligation, truth}
use Rattle.csl.specs.Typing.{blame_ok, has_type, have_types, heads_in, join_ok, names_of, type_clause, type_expr}
use Rattle.csl.specs.Guards.{guarded_in}
use Rattle.csl.specs.Values.{Val, as_bool, as_num, bool, eval, eval_bool, eval_num, evals, num}
use Rattle.csl.specs.Outcomes.{Outcome, Sight, or_stuck}
use Rattle.csl.specs.Rules.{Step, blamed, blamed_all, walk}
use Rattle.csl.specs.Table.{stand_for, stands_for}
use Rattle.laws.proofs.Bools.{T-both, T-left, T-or, T-right}
use Rattle.laws.proofs.Options.{from_bind, from_need, need_true, some_bind, some_inj}
use Rattle.laws.proofs.Clash.{impossible}
use Rattle.soundness.proofs.Members.{In, Sub, all_in, in_stand, stand_++, stand_join_ok, sub_both, sub_refl}
use Rattle.soundness.proofs.Evaluation.{Applied, HaveTy, bool_of, eval_typed, num_of, same_ty→eq}
use Rattle.soundness.proofs.Good.{Good, Placed, SightOk, good_sub, joined_good, left_good, right_good}

-- ---- what a checked agreement has
pub record FairTemplate (ag : Agreement) (k : ℕ) (t : Template) : Type 0 where
  pub few_params : t.head.params ≤ 4
  pub blames : List ℕ
  pub typed : type_clause (names_of ag t.head.params) t.head.values t.body ≡ some blames
  pub all_declared : (q : ℕ) → In q blames → q < 128 → In q t.head.declared
  pub declared : (q : ℕ) → In q t.head.declared → q < ag.parties
  pub guarded : T (guarded_in k t.body)
  pub placed : Placed ag t.head.params t.head.values t.body

pub record Fair (ag : Agreement) (mains : List ℕ) : Type 0 where
  pub few : ag.parties ≤ 16
  pub templates : (k : ℕ) (t : Template) → at ag.templates k ≡ some t → FairTemplate ag k t
  pub main : type_clause (names_of ag 0) [] ag.main ≡ some mains
  pub main_placed : Placed ag 0 [] ag.main

-- ---- templates by their heads
pub at_heads : {C : Type 0} (ts : List Template) (k : ℕ) (h : Head) → at (heads_in ts) k ≡ some h
    → ((t : Template) → at ts k ≡ some t → t.head ≡ h → C) → C
unfolding at heads_in
at_heads [] k h e f = impossible cc
at_heads (t ∷ ts) zero h e f = f t refl (some_inj e)
at_heads (t ∷ ts) (suc k) h e f = at_heads ts k h e f

pub at_lt : {A : Type 0} (xs : List A) (k : ℕ) (x : A) → at xs k ≡ some x → k < length xs
unfolding at
at_lt [] k x e = impossible cc
at_lt (y ∷ ys) zero x e = omega arith
at_lt (y ∷ ys) (suc k) x e = omega (arith, at_lt ys k x e)

pub lt_at : {A : Type 0} (xs : List A) (k : ℕ) → k < length xs → (x : A) × (at xs k ≡ some x)
unfolding at
lt_at [] k h = absurd (omega arith)
lt_at (y ∷ ys) zero h = (y, refl)
lt_at (y ∷ ys) (suc k) h = lt_at ys k (omega arith)

pub at_in : (xs : List ℕ) (k : ℕ) (x : ℕ) → at xs k ≡ some x → In x xs
unfolding at In
at_in [] k x e = impossible cc
at_in (y ∷ ys) zero x e = inl (sym (some_inj e))
at_in (y ∷ ys) (suc k) x e = inr (at_in ys k x e)

-- ---- blame bytes
pub blamed_constant : (params : List ℕ) (b : ℕ) → b < 128 → blamed params b ≡ some b
unfolding blamed
blamed_constant params b h = go (ltb b 128) (lt→ltb b 128 h)
  where
    go : (x : Bool) → T x → ◌≡◌ {A = Option ℕ} (elim x [ true ↦ some b | false ↦ at params (b - 128) ]) (some b)
    go true t = refl
    go false t = absurd t

pub blamed_param : (params : List ℕ) (b : ℕ) → 128 ≤ b → blamed params b ≡ at params (b - 128)
unfolding blamed
blamed_param params b h = go (ltb b 128) refl
  where
    go : (x : Bool) → ltb b 128 ≡ x → ◌≡◌ {A = Option ℕ} (elim x [ true ↦ some b | false ↦ at params (b - 128) ])
        (at params (b - 128))
    go true e = absurd (omega (arith, ltb→lt b 128 (subst T (sym e) tt)))
    go false e = refl

pub stands_blamed : (params : List ℕ) (b p : ℕ) → blamed params b ≡ some p → stands_for params b ≡ p
unfolding stands_for
stands_blamed params b p eq = rw (eq, stands_for) refl

module _ (ag : Agreement) (n : ℕ) (env : List Ty) (e : Sight) (ok : SightOk ag n env e) (few : ag.parties ≤ 16) where
  -- a blame byte in range stands for a party
  pub blamed_ok : {C : Type 0} (b : ℕ) → T (blame_ok (names_of ag n) b)
      → ((p : ℕ) → blamed e.params b ≡ some p → stands_for e.params b ≡ p → p < ag.parties → C) → C
  unfolding blame_ok names_of stands_for
  blamed_ok b t k = T-or (ltb b ag.parties) (leb 128 b && ltb b (128 + n)) t
      (λ c. let h = ltb→lt b ag.parties c in let eq = blamed_constant e.params b (omega arith) in
      k b eq (rw (eq, stands_for) refl) h)
      (λ c. let lo = leb→le 128 b (T-left (leb 128 b) _ c) in let hi = ltb→lt b (128 + n) (T-right (leb 128 b) _ c) in
      let r = lt_at e.params (b - 128) (omega (arith, ok.count)) in
      let eq = blamed_param e.params b lo ∙ r.1 in
      k r.0 eq (rw (eq, stands_for) refl) (ltb→lt r.0 ag.parties
      (all_in (λ x. ltb x ag.parties) e.params ok.range r.0
      (at_in e.params (b - 128) r.0 r.1))))

  pub blamed_all_ok : (bs : List ℕ) → T (all (blame_ok (names_of ag n)) bs)
      → (blamed_all e.params bs ≡ some (stand_for e.params bs))
      × T (all (λ x. ltb x ag.parties) (stand_for e.params bs)) × (length (stand_for e.params bs) ≡ length bs)
  unfolding blamed_all stand_for all
  blamed_all_ok [] t = (refl, tt, refl)
  blamed_all_ok (b ∷ bs) t =
      let ih = blamed_all_ok bs (T-right (blame_ok (names_of ag n) b) _ t) in
      blamed_ok b (T-left (blame_ok (names_of ag n) b) _ t) λ p eq st lt. (
        some_bind (blamed e.params b) _ p eq
            ∙ some_bind (blamed_all e.params bs) _ (stand_for e.params bs) ih.0
            ∙ ap (λ x. some (x ∷ stand_for e.params bs)) (sym st),
        T-both (ltb (stands_for e.params b) ag.parties) _
            (subst (λ x. T (ltb x ag.parties)) (sym st) (lt→ltb p ag.parties lt)) ih.1,
        ap suc ih.2,
      )

-- ---- expressions of a typed clause
module _ (ps : ℕ) (env : List Ty) (vs : List Val) (h : HaveTy ps env vs) where
  from_type : {C : Type 0} (x : Expr) (t : Ty) (u : Unit {0}) → has_type ps env x t ≡ some u
      → (Applied ps t (eval vs x) → C) → C
  unfolding has_type
  from_type x t u e k = from_bind (type_expr ps env x) _ u e λ s p q. k
      (subst (λ r. Applied ps r (eval vs x)) (same_ty→eq s t (need_true _ u q)) (eval_typed ps env vs x s h p))

  pub bool_typed : {C : Type 0} (x : Expr) (u : Unit {0}) → has_type ps env x truth ≡ some u
      → ((b : Bool) → eval_bool vs x ≡ some b → C) → C
  unfolding eval_bool as_bool
  bool_typed x u e k = from_type x truth u e λ a. let b = bool_of ps a.0 a.2 in
      k b.0 (some_bind (eval vs x) as_bool a.0 a.1 ∙ asb a.0 b.0 b.1)
    where
      asb : (v : Val) (b : Bool) → v ≡ bool b → as_bool v ≡ some b
      asb v b e = rw e refl

  pub num_typed : {C : Type 0} (x : Expr) (u : Unit {0}) → has_type ps env x number ≡ some u
      → ((z : ℤ) → eval_num vs x ≡ some z → T (in_range z) → C) → C
  unfolding eval_num as_num
  num_typed x u e k = from_type x number u e λ a. let b = num_of ps a.0 a.2 in
      k b.0 (some_bind (eval vs x) as_num a.0 a.1 ∙ asn a.0 b.0 b.1) b.2
    where
      asn : (v : Val) (z : ℤ) → v ≡ num z → as_num v ≡ some z
      asn v z e = rw e refl

  pub evals_typed : (es : List Expr) (ts : List Ty) (u : Unit {0}) → have_types ps env es ts ≡ some u → (ws : List Val)
      × (evals vs es ≡ some ws) × HaveTy ps ts ws
  unfolding have_types evals HaveTy
  evals_typed [] [] u e = ([], refl, tt)
  evals_typed [] (t ∷ ts) u e = impossible cc
  evals_typed (x ∷ es) [] u e = impossible cc
  evals_typed (x ∷ es) (t ∷ ts) u e =
      from_bind (has_type ps env x t) _ u e λ u' p q.
      from_type x t u' p λ a.
      let r = evals_typed es ts u q in
      (a.0 ∷ r.0, some_bind (eval vs x) _ a.0 a.1 ∙ some_bind (evals vs es) _ r.0 r.1, (a.2, r.2))

-- ---- the walk, whatever the step
-- parties of an instance: the declared ones stand for themselves
pub stand_instance : (params ds cs : List ℕ) → ((q : ℕ) → In q ds → q < 128)
    → Sub (ds ++ stand_for params cs) (stand_for params (ds ++ cs))
unfolding Sub stands_for
stand_instance params ds cs h = rw (stand_++ params ds cs)
    (sub_both ds (stand_for params cs) (stand_for params ds) (stand_for params cs)
    (λ x k. subst (λ z. In z (stand_for params ds)) (self x (h x k)) (in_stand params ds x k))
    (sub_refl (stand_for params cs)))
  where
    self : (x : ℕ) → x < 128 → stands_for params x ≡ x
    self x k = rw (blamed_constant params x k, stands_for) refl

module _ (ag : Agreement) (few : ag.parties ≤ 16)
    (hd : (k : ℕ) (h : Head) → at (heads_in ag.templates) k ≡ some h → (q : ℕ) → In q h.declared
    → q < ag.parties) (W : ℕ → Type 0) where
  pub good_bind : {A : Type 0} (P : List ℕ) (m : Option A) (f : A → Option Outcome) (x : A) → m ≡ some x
      → Good ag W P (or_stuck (f x)) → Good ag W P (or_stuck (m >>= f))
  good_bind P m f x e g = subst (λ o. Good ag W P (or_stuck o)) (sym (some_bind m f x e)) g

  pub record StepGood (s : Step) : Type 0 where
    pub obligation : (n : ℕ) (env : List Ty) (b : ℕ) (w : Wait) (t : Clause) (e : Sight) (a : ℕ) (bs : List ℕ)
        → SightOk ag n env e → W a → type_clause (names_of ag n) env (obligation b w t) ≡ some bs
        → Placed ag n env (obligation b w t) → Good ag W (stand_for e.params bs) (s.on_obligation e a b w t)
    pub choice : (n : ℕ) (env : List Ty) (w : Wait) (t f : Clause) (e : Sight) (a : ℕ) (bs : List ℕ) (g : ℕ → Outcome)
        → SightOk ag n env e → W a → type_clause (names_of ag n) env (choice w t f) ≡ some bs
        → Placed ag n env (choice w t f) → ((qs : List ℕ) (u : ℕ) → type_clause (names_of ag n) env f ≡ some qs → W u
        → Good ag W (stand_for e.params qs) (g u)) → Good ag W (stand_for e.params bs) (s.on_choice e a w t g)

  -- instances of the templates below m
  unfoldable pub UnfoldGood : ℕ → (ℕ → List Val → List ℕ → ℕ → Outcome) → Type 0
  UnfoldGood m un = (k : ℕ) (h : Head) (vs : List Val) (ps : List ℕ) (a : ℕ) → k < m
      → at (heads_in ag.templates) k ≡ some h → HaveTy ag.parties h.values vs → length ps ≡ h.params
      → T (all (λ x. ltb x ag.parties) ps) → W a → Good ag W (h.declared ++ ps) (un k vs ps a)

  module _ (s : Step) (sg : StepGood s) (m : ℕ) (un : ℕ → List Val → List ℕ → ℕ → Outcome) (ug : UnfoldGood m un) where
    -- Any step that is good at obligations and choices is good at every typed clause (CSL Thms. 10 and 11, for a
    -- clause).
    pub walk_good : (c : Clause) (n : ℕ) (env : List Ty) (e : Sight) (a : ℕ) (bs : List ℕ) → T (guarded_in m c)
        → SightOk ag n env e → W a → type_clause (names_of ag n) env c ≡ some bs → Placed ag n env c
        → Good ag W (stand_for e.params bs) (walk s un c e a)
    unfolding walk guarded_in Placed type_clause or_stuck Good names_of UnfoldGood
    walk_good fulfilled n env e a bs gd ok wa ty pl = tt
    walk_good (obligation b w t) n env e a bs gd ok wa ty pl = sg.obligation n env b w t e a bs ok wa ty pl
    walk_good (choice w t f) n env e a bs gd ok wa ty pl = sg.choice n env w t f e a bs (λ u. walk s un f e u) ok wa
        ty pl (λ qs u tyf wu. walk_good f n env e u qs gd ok wu tyf pl.2)
    walk_good (if x t f) n env e a bs gd ok wa ty pl =
        from_bind (has_type ag.parties env x truth) _ bs ty λ u tx q₀.
        from_bind (type_clause (names_of ag n) env t) _ bs q₀ λ ps p q.
        from_bind (type_clause (names_of ag n) env f) _ bs q λ qs p' q'.
        bool_typed ag.parties env e.values ok.values x u tx λ b eb.
        good_bind (stand_for e.params bs) (eval_bool e.values x) _ b eb
        (rw (← some_inj q', stand_++ e.params ps qs) (pick b (stand_for e.params ps) (stand_for e.params qs)
        (walk_good t n env e a ps (T-left (guarded_in m t) _ gd) ok wa p pl.0)
        (walk_good f n env e a qs (T-right (guarded_in m t) _ gd) ok wa p' pl.1)))
      where
        pick : (b : Bool) (P Q : List ℕ) → Good ag W P (walk s un t e a) → Good ag W Q (walk s un f e a)
            → Good ag W (P ++ Q) (or_stuck (elim b [ true ↦ some (walk s un t e a) | false ↦ some (walk s un f e a) ]))
        pick true P Q g h = left_good ag W P Q (walk s un t e a) g
        pick false P Q g h = right_good ag W P Q (walk s un f e a) h
    walk_good (join j t f) n env e a bs gd ok wa ty pl =
        from_bind (type_clause (names_of ag n) env t) _ bs ty λ ps p q.
        from_bind (type_clause (names_of ag n) env f) _ bs q λ qs p' q'.
        from_need (join_ok j (ps ++ qs)) _ bs q' λ j-ok r.
        rw (← some_inj r, stand_++ e.params ps qs)
        (joined_good ag W j (stand_for e.params ps) (stand_for e.params qs) (walk s un t e a) (walk s un f e a)
        (subst (λ l. T (join_ok j l)) (stand_++ e.params ps qs) (stand_join_ok j e.params (ps ++ qs) j-ok))
        (walk_good t n env e a ps (T-left (guarded_in m t) _ gd) ok wa p pl.0)
        (walk_good f n env e a qs (T-right (guarded_in m t) _ gd) ok wa p' pl.1))
    walk_good (instance k es cs) n env e a bs gd ok wa ty pl =
        from_bind (at (heads_in ag.templates) k) _ bs ty λ h p q.
        from_bind (have_types ag.parties env es h.values) _ bs q λ u te q₂.
        from_need (eqb (length cs) h.params && all (blame_ok (names_of ag n)) cs) _ bs q₂ λ t r.
        let ev = evals_typed ag.parties env e.values ok.values es h.values u te in
        let bl = blamed_all_ok ag n env e ok few cs (T-right (eqb (length cs) h.params) _ t) in
        good_bind (stand_for e.params bs) (evals e.values es) _ ev.0 ev.1
        (good_bind (stand_for e.params bs) (blamed_all e.params cs) _ (stand_for e.params cs) bl.0
        (rw (← some_inj r) (good_sub ag W (h.declared ++ stand_for e.params cs)
        (stand_for e.params (h.declared ++ cs)) (un k ev.0 (stand_for e.params cs) a)
        (stand_instance e.params h.declared cs (λ x i. omega (arith, hd k h p x i)))
        (ug k h ev.0 (stand_for e.params cs) a (ltb→lt k m gd) p ev.2
        (bl.2 ∙ eqb→eq (length cs) h.params (T-left (eqb (length cs) h.params) _ t)) bl.1 wa))))
    walk_good bad_clause n env e a bs gd ok wa ty pl = impossible cc
