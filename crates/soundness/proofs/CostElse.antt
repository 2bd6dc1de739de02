-- "A choice activates its else at that time, and the else follows this same reading.": the walk does both in one go,
-- and gives the outcome and the cost of activating the clause first and following the reading with what then waits.
use mathlib.Core.Bool.{Bool, false, true}
use mathlib.Core.List.{List}
use mathlib.Core.Logic.{inl, inr}
use mathlib.Core.Option.{Option, none, some}
use mathlib.Core.Path.{ap, fun_ext, refl, subst, sym, ◌∙◌, ◌≡◌}
use Prim.Native.Nat.{◌+◌, ◌<◌, suc, zero, ℕ, ◌≤◌}
use native.Mathlib.Omega.{arith}
use lib.Dec.{T, ltb→lt}
use lib.ListN.{length}
use Rattle.csl.specs.Lists.{◌>>=◌, at}
use Rattle.csl.specs.Syntax.{Agreement, Clause, Template, Ty, Wait, bad_clause, choice, fulfilled, if, instance, join}
use Rattle.csl.specs.Syntax.{obligation}
use Rattle.csl.specs.Typing.{names_of, type_clause}
use Rattle.csl.specs.Guards.{guarded_in}
use Rattle.csl.specs.Values.{Val, eval_bool, evals}
use Rattle.csl.specs.Outcomes.{Outcome, Residue, Sight, a_choice, an_obligation, running, stuck, unit}
use Rattle.csl.specs.Rules.{Reading, activate, blamed_all, during, follow, following, outcomes}
use Rattle.csl.specs.Reckoning as Open
use Rattle.csl.specs.Reckoning.{Reckoning, StepOf, or_stops, walk, walk_in}
use Rattle.csl.specs.Cost.{Tally, cost_from, follow_cost, nothing_yet, one_more, tallies, total}
use Rattle.csl.specs.Places.{Found, clause_at}
use Rattle.csl.specs.Table.{stand_for}
use Rattle.csl.specs.Demand3.{needed, reached}
use Rattle.laws.proofs.Bools.{T-left, T-right}
use Rattle.soundness.proofs.Good.{Good, Placed, SightOk}
use Rattle.soundness.proofs.Walks.{Fair}
use Rattle.soundness.proofs.Activation.{activate_good, during_good, guarded_mono, typed_guarded}
use Rattle.soundness.proofs.Following.{ReadingOk, following_good}
use Rattle.soundness.proofs.Unfoldings.{more_unfoldings}
use Rattle.soundness.proofs.CostUnits.{Waits, chosen_waits, on_choice_lem, on_obligation_lem, on_unit, owed_waits}
use Rattle.soundness.proofs.CostUnits.{units_read}
use Rattle.soundness.proofs.CostStages.{Staged, done_staged, ended, join_staged, more_staged, stopped}
use Rattle.soundness.proofs.CostStages.{waiting}

module _ (ag : Agreement) (r : Reading) where
  abbrev ts : List Template
  ts = ag.templates

  abbrev goes : {A : Type 0} → Reckoning A → StepOf A
  goes g = Open.following g ts r

  -- what a walk gives by activating, beside what it gives by following
  abbrev Both : ((A : Type 0) → Reckoning A → StepOf A → A) → Type 0
  Both h = Staged ag r (h Tally tallies (Open.activating tallies)) (h Tally tallies (goes tallies))
      (h Outcome outcomes (Open.activating outcomes)) (h Outcome outcomes (goes outcomes))

  bind_staged : {X : Type 0} (m : Option X) (f : (A : Type 0) → Reckoning A → StepOf A → X → Option A)
      → ((z : X) → m ≡ some z → Both (λ A g s. or_stops g (f A g s z))) → Both (λ A g s. or_stops g (m >>= f A g s))
  unfolding ◌>>=◌ or_stops
  bind_staged none f k = stopped stuck stuck (inl refl)
  bind_staged (some z) f k = k z refl

  -- a clause that waits is the one at its unit's place
  unit_staged : (res : Residue) (y : Tally) (p : Outcome) → Open.follow tallies ag r res ≡ one_more y
      → follow ag r res ≡ p → Waits ag r y → Staged ag r (one_more (nothing_yet false)) (one_more y) (running res) p
  unfolding one_more nothing_yet
  unit_staged res y p e f w = subst (Staged ag r _ _ (running res)) f (waiting res (ap (λ z. z.at_once) e ∙ w.0)
      (record { is = w.0; same = ap suc w.1; more = sym (ap (λ z. z.further) e) }))

  owed_at : {A : Type 0} (g : Reckoning A) (b : ℕ) (w : Wait) (t : Clause) (x : Found) (e : Sight) (v : ℕ)
      → clause_at ag w.place ≡ some x → x.clause ≡ obligation b w t
      → Open.follow g ag r (unit an_obligation w.place v e) ≡ g.reaches ((goes g).on_obligation e v b w t)
  owed_at g b w t x e v here is = on_unit g ag r an_obligation w.place v e x here
      ∙ ap (λ c. walk_in g (goes g) ts (length ts) c e v) is ∙ on_obligation_lem g (goes g) ts (length ts) b w t e v

  -- the instances below m, walked as with all unfoldings
  module _ (m : ℕ) (un : (A : Type 0) → Reckoning A → StepOf A → ℕ → List Val → List ℕ → ℕ → A)
      (full : (A : Type 0) (g : Reckoning A) (f : Clause) (e : Sight) (v : ℕ) → T (guarded_in m f)
      → walk g (goes g) (un A g (goes g)) f e v ≡ walk_in g (goes g) ts (length ts) f e v)
      (inside : (k : ℕ) (vs : List Val) (ps : List ℕ) (v : ℕ) → k < m → Both (λ A g s. un A g s k vs ps v)) where
    chosen_at : (A : Type 0) (g : Reckoning A) (w : Wait) (t f : Clause) (x : Found) (e : Sight) (v : ℕ)
        → T (guarded_in m f) → clause_at ag w.place ≡ some x → x.clause ≡ choice w t f
        → Open.follow g ag r (unit a_choice w.place v e)
        ≡ g.reaches ((goes g).on_choice e v w t (λ z. walk g (goes g) (un A g (goes g)) f e z))
    chosen_at A g w t f x e v gd here is = on_unit g ag r a_choice w.place v e x here
        ∙ ap (λ c. walk_in g (goes g) ts (length ts) c e v) is ∙ on_choice_lem g (goes g) ts (length ts) w t f e v
        ∙ ap (λ z. g.reaches ((goes g).on_choice e v w t z)) (fun_ext (λ z. sym (full A g f e z gd)))

    walk_staged : (c : Clause) (n : ℕ) (env : List Ty) (e : Sight) (v : ℕ) → T (guarded_in m c) → Placed ag n env c
        → Both (λ A g s. walk g s (un A g s) c e v)
    unfolding walk guarded_in Placed Open.activating follow or_stops
    walk_staged fulfilled n env e v gd pl = done_staged ag r
    walk_staged (obligation b w t) n env e v gd pl = unit_staged (unit an_obligation w.place v e)
        ((goes tallies).on_obligation e v b w t) _ (owed_at tallies b w t _ e v pl.0 refl)
        (owed_at outcomes b w t _ e v pl.0 refl) (owed_waits ag r e v b w t)
    walk_staged (choice w t f) n env e v gd pl =
        let else : ℕ → Tally = λ z. walk tallies (goes tallies) (un Tally tallies (goes tallies)) f e z in
        unit_staged (unit a_choice w.place v e) ((goes tallies).on_choice e v w t else) _
        (chosen_at Tally tallies w t f _ e v gd pl.0 refl) (chosen_at Outcome outcomes w t f _ e v gd pl.0 refl)
        (chosen_waits ag r e v w t else)
    walk_staged (if b t f) n env e v gd pl = more_staged ag r (bind_staged (eval_bool e.values b) side (λ z _. pick z
        (walk_staged t n env e v (T-left (guarded_in m t) _ gd) pl.0)
        (walk_staged f n env e v (T-right (guarded_in m t) _ gd) pl.1)))
      where
        side : (A : Type 0) → Reckoning A → StepOf A → Bool → Option A
        side A g s z = elim z [ true ↦ some (walk g s (un A g s) t e v) | false ↦ some (walk g s (un A g s) f e v) ]

        pick : (z : Bool) → Both (λ A g s. walk g s (un A g s) t e v) → Both (λ A g s. walk g s (un A g s) f e v)
            → Both (λ A g s. or_stops g (side A g s z))
        pick true h k = h
        pick false h k = k
    walk_staged (join j t f) n env e v gd pl = more_staged ag r (join_staged ag r j
        (walk_staged t n env e v (T-left (guarded_in m t) _ gd) pl.0)
        (walk_staged f n env e v (T-right (guarded_in m t) _ gd) pl.1))
    walk_staged (instance k es bs) n env e v gd pl = more_staged ag r
        (bind_staged (evals e.values es)
        (λ A g s vs. blamed_all e.params bs >>= λ ps. some (un A g s k vs ps v)) λ vs _.
        bind_staged (blamed_all e.params bs) (λ A g s ps. some (un A g s k vs ps v)) λ ps _.
        inside k vs ps v (ltb→lt k m gd))
    walk_staged bad_clause n env e v gd pl = stopped stuck stuck (inl refl)

-- ---- through instances
module _ (ag : Agreement) (mains : List ℕ) (fair : Fair ag mains) (r : Reading) where
  guards : (k : ℕ) (t : Template) → at ag.templates k ≡ some t → T (guarded_in k t.body)
  guards k t e = (fair.templates k t e).guarded

  walk_in_staged : (m : ℕ) → m ≤ length ag.templates → (c : Clause) (n : ℕ) (env : List Ty) (e : Sight) (v : ℕ)
      → T (guarded_in m c) → Placed ag n env c → Both ag r (λ A g s. walk_in g s ag.templates m c e v)
  unfolding walk_in or_stops
  walk_in_staged zero le = walk_staged ag r 0 (λ A g s k vs ps u. g.stops)
      (λ A g. more_unfoldings g _ ag.templates guards 0 _ le) (λ k vs ps v lt. absurd (omega arith))
  walk_in_staged (suc m) le = walk_staged ag r (suc m)
      (λ A g s k vs ps u. or_stops g (at ag.templates k >>= body A g s vs ps u))
      (λ A g. more_unfoldings g _ ag.templates guards (suc m) _ le)
      (λ k vs ps v lt. bind_staged ag r (at ag.templates k) (λ A g s. body A g s vs ps v) λ t q.
      walk_in_staged m (omega arith) t.body t.head.params t.head.values
      (record { params = ps; values = vs }) v (guarded_mono k m t.body (omega arith) (guards k t q))
      (fair.templates k t q).placed)
    where
      body : (A : Type 0) → Reckoning A → StepOf A → List Val → List ℕ → ℕ → Template → Option A
      body A g s vs ps u t = some (walk_in g s ag.templates m t.body (record { params = ps; values = vs }) u)

  -- what a clause gives by activating, and by following in one go
  abbrev acted : Clause → Sight → ℕ → Outcome
  acted c e v = activate ag.templates c e v

  abbrev acted_tally : Clause → Sight → ℕ → Tally
  acted_tally c e v = Open.activate tallies ag.templates c e v

  abbrev gone : Clause → Sight → ℕ → Outcome
  gone c e v = during (following ag.templates r) ag.templates c e v

  abbrev gone_tally : Clause → Sight → ℕ → Tally
  gone_tally c e v = Open.during tallies (Open.following tallies ag.templates r) ag.templates c e v

  pub stages : (c : Clause) (n : ℕ) (env : List Ty) (e : Sight) (v : ℕ) → T (guarded_in (length ag.templates) c)
      → Placed ag n env c → Staged ag r (acted_tally c e v) (gone_tally c e v) (acted c e v) (gone c e v)
  unfolding activate following during Open.activate Open.during
  stages c n env e v gd pl = walk_in_staged (length ag.templates) (omega arith) c n env e v gd pl

  -- typing keeps both from being stuck
  staged_cost : (W : ℕ → Type 0) (P : List ℕ) {x y : Tally} {o p : Outcome} → Staged ag r x y o p → Good ag W P o
      → Good ag W P p → (p ≡ reached ag o r) × (total y + needed o ≡ x.activated + cost_from ag o r)
  unfolding Good reached needed cost_from follow_cost total
  staged_cost W P (ended c) g h = (refl, omega (arith, c.same, c.more))
  staged_cost W P (waiting res w c) g h = (
    refl,
    omega (arith, c.same, c.more, units_read ag r W res g.0 g.1),
  )
  staged_cost W P (stopped o p (inl e)) g h = absurd (subst (Good ag W P) e g)
  staged_cost W P (stopped o p (inr e)) g h = absurd (subst (Good ag W P) e h)

  -- of a typed clause: the outcome is the one that what waits reaches; "an else that follows the same reading is not
  -- counted again for that", so beside the units that wait it costs what is activated and what following them costs
  pub else_cost : ReadingOk ag r → (c : Clause) (n : ℕ) (env : List Ty) (e : Sight) (v : ℕ) (bs : List ℕ)
      → SightOk ag n env e → (ag.start ≤ v) × (v ≤ r.time) → type_clause (names_of ag n) env c ≡ some bs
      → Placed ag n env c → (gone c e v ≡ reached ag (acted c e v) r)
      × (total (gone_tally c e v) + needed (acted c e v) ≡ (acted_tally c e v).activated + cost_from ag (acted c e v) r)
  else_cost rok c n env e v bs ok when ty pl =
      let W : ℕ → Type 0 = λ t. (ag.start ≤ t) × (t ≤ r.time) in
      staged_cost W (stand_for e.params bs) (stages c n env e v (typed_guarded ag mains fair c n env bs ty) pl)
      (activate_good ag mains fair W c n env e v bs ok when ty pl)
      (during_good ag mains fair W (following ag.templates r) (following_good ag mains fair r rok) c n env e v bs ok
      when ty pl)
