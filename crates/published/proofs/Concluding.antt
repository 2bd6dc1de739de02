-- Fig. 9 to the letter gives the letter's residue one verdict, the forecast: a typed text has a verdict, and a text
-- and an outcome that correspond have the same.
use mathlib.Core.List.{List, [], ◌∷◌, ◌++◌}
use mathlib.Core.Option.{some}
use mathlib.Core.Path.{ap, ap₂, refl, subst, sym, ◌∙◌, ◌≡◌}
use Prim.Native.Nat.{ℕ, ◌≤◌}
use native.Mathlib.Omega.{arith}
use lib.Dec.{T}
use Rattle.csl.specs.Lists.{at}
use Rattle.csl.specs.Numbers.{later_of}
use Rattle.csl.specs.Syntax.{Agreement, Clause, Join, or, Template, Ty, Wait, choice, obligation}
use Rattle.csl.specs.Typing.{blame_ok, join_ok, names_of, then_sight, type_clause, type_wait}
use Rattle.csl.specs.Outcomes.{Sight, unit, Outcome, done, breach, an_obligation, joined}
use Rattle.csl.specs.Rules.{Window}
use Rattle.csl.specs.Table.{stand_for}
use Rattle.csl.specs.Demand3.{NotStuck}
use Rattle.laws.proofs.Options.{from_bind, from_need, some_inj}
use Rattle.laws.proofs.Integers.{later_from_lem}
use Rattle.soundness.proofs.Members.{Sub, in_right, stand_sub}
use Rattle.soundness.proofs.Good.{Good, Placed, SightOk, good_sub, joined_good, good_moves}
use Rattle.soundness.proofs.Walks.{Fair, blamed_ok, num_typed}
use Rattle.soundness.proofs.Following.{breach_good, from_wait}
use Rattle.published.specs.Fig6.{Due, due}
use Rattle.published.specs.Verdicts.{Joins}
use Rattle.published.specs.Fig8.{Activates, a_fulfilment, a_obligation, a_external_choice, a_composition}
use Rattle.published.specs.Fig8.{a_internal_true, a_internal_false, a_instantiation, sight_of}
use Rattle.published.specs.Fig9.{Ends, v_fulfilment, v_obligation, v_choice, v_internal_true, v_internal_false}
use Rattle.published.specs.Fig9.{v_composition, v_instantiation, Foretells, v_unit, v_units}
use Rattle.published.specs.Fig7.{put}
use Rattle.published.specs.Literal.{rewritten, Concludes, c_fulfilment, c_obligation, c_choice, c_internal_true}
use Rattle.published.specs.Literal.{c_internal_false, c_composition, c_instantiation}
use Rattle.published.proofs.Evaluations.{all_computed, evals_computed, num_derived, stands_computed}
use Rattle.published.proofs.Evaluations.{stands_derived}
use Rattle.published.proofs.Verdicts.{done_with, joins_computed, joins_derived, joins_moves, with_done}
use Rattle.published.proofs.Ending.{ends_moves}
use Rattle.published.proofs.Unfolding.{Beyond, beyond_joined, two_truths}
use Rattle.published.proofs.Rewriting.{one_window, same_date, same_window}
use Rattle.published.proofs.Sighted.{Text, closed, joins}
use Rattle.published.proofs.Substitution.{AllSmall, Small, all_put, closes, due_put, evaluates_put}
use Rattle.published.proofs.Substitution.{stand_all_put, stands_put}
use Rattle.published.proofs.Literal.{Shows, s_active, s_obligation, s_choice, s_joins, s_left, s_right}
use Rattle.published.proofs.Existence.{Rules, typed_gives}
use Rattle.published.proofs.Letter.{Typed, t_clause, t_joins}

-- Fig. 9 on a text with values in sight
abbrev pub Finishes : List Template → ℕ → Text → Outcome → Type 0
Finishes D τ (closed s c) ν = Ends D s τ c ν
Finishes D τ (joins j x y) ν = (ν₁ : Outcome) × (ν₂ : Outcome) × Finishes D τ x ν₁ × Finishes D τ y ν₂ × Joins j ν₁ ν₂ ν

-- ---- a typed text has a verdict
module _ (ag : Agreement) (mains : List ℕ) (fair : Fair ag mains) where
  abbrev From : ℕ → Type 0
  From t = ag.start ≤ t

  abbrev Verdict : ℕ → Text → List ℕ → Type 0
  Verdict τ x P = (ν : Outcome) × Finishes ag.templates τ x ν × Good ag From P ν

  joined_verdicts : (j : Join) (P Q : List ℕ) (p q : Outcome) → T (join_ok j (P ++ Q)) → Good ag From P p
      → Good ag From Q q → Joins j p q (joined j p q) × Good ag From (P ++ Q) (joined j p q)
  joined_verdicts j P Q p q ok g h =
      let k = joined_good ag From j P Q p q ok g h in
      ((joins_derived j p q (good_moves ag From (P ++ Q) (joined j p q) k)).2, k)

  -- the window of a typed wait
  has_window : {C : Type 0} (n : ℕ) (env : List Ty) (s : Sight) (τ : ℕ) (w : Wait) (vs : List Ty) → SightOk ag n env s
      → type_wait (names_of ag n) env w ≡ some vs → ((d : Window) → Due s.values τ w d → C) → C
  has_window n env s τ w vs ok tw k =
      from_wait ag n env w vs tw λ u₁ u₂ u₃ rt tc ta ti.
      num_typed ag.parties env s.values ok.values w.after u₂ ta λ x ex rx.
      num_typed ag.parties env s.values ok.values w.within u₃ ti λ y ey ry.
      k _ (due x y (num_derived s.values w.after x ex) (num_derived s.values w.within y ey))

  owed : (n : ℕ) (env : List Ty) (b : ℕ) (w : Wait) (c : Clause) (s : Sight) (τ : ℕ) (bs : List ℕ)
      → SightOk ag n env s → From τ → type_clause (names_of ag n) env (obligation b w c) ≡ some bs
      → Verdict τ (closed s (obligation b w c)) (stand_for s.params bs)
  unfolding type_clause names_of
  owed n env b w c s τ bs ok from ty =
      from_need (blame_ok (names_of ag n) b) _ bs ty λ bo q₁.
      from_bind (type_wait (names_of ag n) env w) _ bs q₁ λ vs tw q₂.
      from_bind (type_clause (names_of ag n) (then_sight env vs) c) _ bs q₂ λ ps p q₃.
      has_window n env s τ w vs ok tw λ d dd.
      blamed_ok ag n env s ok fair.few b bo λ who e st lt. (
        _,
        v_obligation d dd (stands_derived s.params b who e),
        breach_good ag From s.params b who (later_of τ d.last) ps bs st (some_inj q₃)
            (omega (arith, later_from_lem τ d.last, from)),
      )

  chosen : (n : ℕ) (env : List Ty) (w : Wait) (c f : Clause) (s : Sight) (τ : ℕ) (bs : List ℕ)
      → SightOk ag n env s → From τ → type_clause (names_of ag n) env (choice w c f) ≡ some bs
      → ((qs : List ℕ) (u : ℕ) → type_clause (names_of ag n) env f ≡ some qs → From u
      → Verdict u (closed s f) (stand_for s.params qs))
      → Verdict τ (closed s (choice w c f)) (stand_for s.params bs)
  unfolding type_clause Sub names_of
  chosen n env w c f s τ bs ok from ty else-ends =
      from_bind (type_wait (names_of ag n) env w) _ bs ty λ vs tw q₂.
      from_bind (type_clause (names_of ag n) (then_sight env vs) c) _ bs q₂ λ ps p q₃.
      from_bind (type_clause (names_of ag n) env f) _ bs q₃ λ qs p' q₄.
      has_window n env s τ w vs ok tw λ d dd.
      let g = else-ends qs (later_of τ d.last) p' (omega (arith, later_from_lem τ d.last, from)) in (
        g.0,
        v_choice d dd g.1,
        good_sub ag From (stand_for s.params qs) (stand_for s.params bs) g.0
            (stand_sub s.params qs bs (subst (λ l. Sub qs l) (some_inj q₄) (λ x i. in_right x ps qs i))) g.2,
      )

  ends_rules : Rules ag From Outcome (Good ag From) (Ends ag.templates)
  unfolding Good
  ends_rules = record {
    fine_sub = good_sub ag From;
    fulfilment = λ n env s τ bs ok ty. (done, v_fulfilment, tt);
    obligation = owed;
    choice = chosen;
    internal_true = λ s τ x t f r e p. v_internal_true e p;
    internal_false = λ s τ x t f r e p. v_internal_false e p;
    composition = λ s τ j t f P Q ok g h. let k = joined_verdicts j P Q g.0 h.0 ok g.2 h.2 in
        (joined j g.0 h.0, v_composition g.1 h.1 k.0, k.1);
    instantiation = λ s τ k es bs ps vs t r de db e p. v_instantiation de db e p;
  }

  pub text_finishes : {x : Text} {ps : List ℕ} (τ : ℕ) → Typed ag x ps → From τ → Verdict τ x ps
  text_finishes τ (t_clause {s = s} {c = c} n env bs ok ty) from = typed_gives ag From Outcome (Good ag From)
      (Ends ag.templates) mains fair ends_rules c n env s τ bs ok from ty
  text_finishes τ (t_joins {j = j} {ps = ps} {qs = qs} x y ok) from =
      let g = text_finishes τ x from in
      let h = text_finishes τ y from in
      let k = joined_verdicts j ps qs g.0 h.0 ok g.2 h.2 in
      (joined j g.0 h.0, (g.0, h.0, g.1, h.1, k.0), k.1)

-- ---- a text and an outcome that correspond have the same verdict
abbrev pub Ahead : Agreement → Outcome → Outcome → Type 0
Ahead ag = Beyond (Foretells ag)

ahead_joined : (ag : Agreement) {j : Join} {x y z p q ν : Outcome} → Joins j x y z → Ahead ag x p → Ahead ag y q
    → NotStuck p → NotStuck q → Joins j p q ν
    → Ahead ag z ν
ahead_joined ag = beyond_joined (Foretells ag) (λ j l r u v o f g k. v_units f g k)

finishes_moves : (D : List Template) (τ : ℕ) (x : Text) (ν : Outcome) → Finishes D τ x ν → NotStuck ν
finishes_moves D τ (closed s c) ν h = ends_moves D h
finishes_moves D τ (joins j x y) ν h = joins_moves h.4 (finishes_moves D τ x h.0 h.2)
    (finishes_moves D τ y h.1 h.3)

module _ (ag : Agreement) (bodies : (k : ℕ) (t : Template) → at ag.templates k ≡ some t
    → Placed ag t.head.params t.head.values t.body) where
  -- a clause that was not unfolded, and what activating made of it
  ahead_early : {s : Sight} {τ : ℕ} {c : Clause} {o ν : Outcome} (n : ℕ) (env : List Ty)
      → Ends ag.templates s τ c ν → Activates ag.templates s τ c o → Placed ag n env c → Ahead ag o ν
  unfolding Placed
  ahead_early n env v_fulfilment a_fulfilment pl = refl
  ahead_early n env (v_obligation d p y) a_obligation pl = v_unit pl.0 (v_obligation d p y)
  ahead_early n env (v_choice d p x) a_external_choice pl = v_unit pl.0 (v_choice d p x)
  ahead_early n env (v_internal_true d p) (a_internal_true d' p') pl = ahead_early n env p p' pl.0
  ahead_early n env (v_internal_true {s = s} {e = e} d p) (a_internal_false d' p') pl = two_truths s.values e d d'
  ahead_early n env (v_internal_false {s = s} {e = e} d p) (a_internal_true d' p') pl = two_truths s.values e d' d
  ahead_early n env (v_internal_false d p) (a_internal_false d' p') pl = ahead_early n env p p' pl.1
  ahead_early n env (v_composition p q i) (a_composition p' q' i') pl =
      ahead_joined ag i' (ahead_early n env p p' pl.0) (ahead_early n env q q' pl.1)
      (ends_moves ag.templates p) (ends_moves ag.templates q) i
  ahead_early {o = o} n env (v_instantiation {s = s} {τ = τ} {f = k} {ps = ps} {vs = vs} {t = t} de db e p)
      (a_instantiation {ps = ps'} {vs = vs'} {t = t'} de' db' e' p') pl =
      let a : vs' ≡ vs = some_inj (sym (evals_computed s.values de') ∙ evals_computed s.values de) in
      let b : ps' ≡ ps = some_inj (sym (all_computed s.params db') ∙ all_computed s.params db) in
      let c : t' ≡ t = some_inj (sym e' ∙ e) in
      ahead_early t.head.params t.head.values p
      (subst (λ z. Activates ag.templates (sight_of ps vs) τ z.body o) c
      (subst (λ z. Activates ag.templates (sight_of ps z) τ t'.body o) a
      (subst (λ z. Activates ag.templates (sight_of z vs') τ t'.body o) b p'))) (bodies k t e)

  pub shows_ahead : {τ : ℕ} {x : Text} {o : Outcome} (ν : Outcome) → Shows ag τ x o → Finishes ag.templates τ x ν
      → Ahead ag o ν
  unfolding Placed
  shows_ahead ν (s_active n env act pl) h = ahead_early n env h act pl
  shows_ahead {τ = τ} ν (s_obligation {s = s} {a = a} {w = w} d n env pl p t) (v_obligation {p = who} e q y) =
      let same = one_window s τ (rewritten w d τ) d e (same_window s.values w d τ) q in
      subst (λ u. Foretells ag (unit an_obligation w.place a s) (breach u (who ∷ [])))
      (same_date a τ d t ∙ ap (λ z. later_of τ z.last) same) (v_unit pl.0 (v_obligation d p y))
  shows_ahead {τ = τ} ν (s_choice {s = s} {a = a} {w = w} {f = f} d n env pl p t) (v_choice e q x) =
      let same = one_window s τ (rewritten w d τ) d e (same_window s.values w d τ) q in
      v_unit pl.0 (v_choice d p (subst (λ u. Ends ag.templates s u f ν)
      (sym (same_date a τ d t ∙ ap (λ z. later_of τ z.last) same)) x))
  shows_ahead {τ = τ} ν (s_joins {x = x} {y = y} p q i) h = ahead_joined ag i (shows_ahead h.0 p h.2)
      (shows_ahead h.1 q h.3) (finishes_moves ag.templates τ x h.0 h.2)
      (finishes_moves ag.templates τ y h.1 h.3) h.4
  shows_ahead {τ = τ} ν (s_left {x = x} {y = y} p) h =
      let right = finishes_moves ag.templates τ y h.1 h.3 in
      sym (joins_computed (finishes_moves ag.templates τ x h.0 h.2) right h.4)
      ∙ ap (λ v. joined or v h.1) (shows_ahead h.0 p h.2) ∙ done_with or h.1 right
  shows_ahead {τ = τ} ν (s_right {x = x} {y = y} q) h =
      let left = finishes_moves ag.templates τ x h.0 h.2 in
      sym (joins_computed left (finishes_moves ag.templates τ y h.1 h.3) h.4)
      ∙ ap (joined or h.0) (shows_ahead h.1 q h.3) ∙ with_done or h.0 left

-- ---- with everything put in
ends_put : (D : List Template) {s : Sight} {τ : ℕ} {c : Clause} {ν : Outcome} → Small s.params → Ends D s τ c ν
    → Concludes D τ (put s.values s.params c) ν
unfolding put
ends_put D h v_fulfilment = c_fulfilment
ends_put D h (v_obligation {s = s} d p y) = c_obligation d (due_put s.values p) (stands_put s.params h y)
ends_put D h (v_choice {s = s} d p x) = c_choice d (due_put s.values p) (ends_put D h x)
ends_put D h (v_internal_true {s = s} e x) = c_internal_true (evaluates_put s.values e) (ends_put D h x)
ends_put D h (v_internal_false {s = s} e x) = c_internal_false (evaluates_put s.values e) (ends_put D h x)
ends_put D h (v_composition x y i) = c_composition (ends_put D h x) (ends_put D h y) i
ends_put D h (v_instantiation {s = s} de db e x) = let r = stand_all_put s.params h db in
    c_instantiation (all_put s.values de) r.0 e (ends_put D r.1 x)

pub finishes_put : (D : List Template) (τ : ℕ) (x : Text) (ν : Outcome) → AllSmall x → Finishes D τ x ν
    → Concludes D τ (closes x) ν
finishes_put D τ (closed s c) ν h f = ends_put D h f
finishes_put D τ (joins j x y) ν h f = c_composition (finishes_put D τ x f.0 h.0 f.2)
    (finishes_put D τ y f.1 h.1 f.3) f.4

-- ---- at most one verdict
concludes_moves : (D : List Template) {τ : ℕ} {c : Clause} {ν : Outcome} → Concludes D τ c ν → NotStuck ν
unfolding NotStuck
concludes_moves D c_fulfilment = tt
concludes_moves D (c_obligation d p y) = tt
concludes_moves D (c_choice d p x) = concludes_moves D x
concludes_moves D (c_internal_true e x) = concludes_moves D x
concludes_moves D (c_internal_false e x) = concludes_moves D x
concludes_moves D (c_composition x y i) = joins_moves i (concludes_moves D x) (concludes_moves D y)
concludes_moves D (c_instantiation de db e x) = concludes_moves D x

pub concludes_once : (D : List Template) {τ : ℕ} {c : Clause} {ν μ : Outcome} → Concludes D τ c ν → Concludes D τ c μ
    → ν ≡ μ
concludes_once D c_fulfilment c_fulfilment = refl
concludes_once D (c_obligation {τ = τ} {w = w} d p y) (c_obligation e q z) = ap₂ (λ u b. breach u (b ∷ []))
    (ap (λ v. later_of τ v.last) (one_window (sight_of [] []) τ w d e p q))
    (some_inj (sym (stands_computed [] y) ∙ stands_computed [] z))
concludes_once D (c_choice {τ = τ} {w = w} {c₂ = f} {ν = ν} d p x) (c_choice e q y) = concludes_once D
    (subst (λ v. Concludes D (later_of τ v.last) f ν) (one_window (sight_of [] []) τ w d e p q) x) y
concludes_once D (c_internal_true d x) (c_internal_true e y) = concludes_once D x y
concludes_once D (c_internal_true {e = z} d x) (c_internal_false e y) = two_truths [] z d e
concludes_once D (c_internal_false {e = z} d x) (c_internal_true e y) = two_truths [] z e d
concludes_once D (c_internal_false d x) (c_internal_false e y) = concludes_once D x y
concludes_once D (c_composition {j = j} x y i) (c_composition u v k) =
    sym (joins_computed (concludes_moves D x) (concludes_moves D y) i)
    ∙ ap₂ (joined j) (concludes_once D x u) (concludes_once D y v)
    ∙ joins_computed (concludes_moves D u) (concludes_moves D v) k
concludes_once D (c_instantiation {τ = τ} {ps = ps} {vs = vs} {t = t} {ν = ν} de db e x)
    (c_instantiation {ps = ps'} {vs = vs'} {t = t'} de' db' e' y) =
    let a : vs ≡ vs' = some_inj (sym (evals_computed [] de) ∙ evals_computed [] de') in
    let b : ps ≡ ps' = some_inj (sym (all_computed [] db) ∙ all_computed [] db') in
    let c : t ≡ t' = some_inj (sym e ∙ e') in
    concludes_once D (subst (λ z. Concludes D τ (put vs' ps' z.body) ν) c
    (subst (λ z. Concludes D τ (put z ps' t.body) ν) a
    (subst (λ z. Concludes D τ (put vs z t.body) ν) b x))) y
