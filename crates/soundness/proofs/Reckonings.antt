-- What each clause allows, the walk gives, whatever is reckoned: one induction over the open walk of `csl`.
use mathlib.Core.Bool.{Bool, false, true}
use mathlib.Core.List.{List, [], ◌++◌, ◌∷◌}
use mathlib.Core.Option.{Option, none, some}
use mathlib.Core.Path.{refl, ◌≡◌}
use Prim.Native.Nat.{suc, zero, ℕ}
use lib.Dec.{eqb}
use lib.IntN.{◌-ℤ◌, pos}
use lib.ListN.{length}
use Rattle.csl.specs.Lists.{◌>>=◌, at}
use Rattle.csl.specs.Numbers.{later_of}
use Rattle.csl.specs.Syntax.{Clause, Expr, Join, Template, Wait, bad_clause, choice, fulfilled, if, instance, join}
use Rattle.csl.specs.Syntax.{obligation}
use Rattle.csl.specs.Values.{Val, eval_bool, evals}
use Rattle.csl.specs.Outcomes.{Sight, Sort, a_choice, an_obligation}
use Rattle.csl.specs.Rules.{Reading, Timing, Window, blamed, blamed_all, early, late, on_time, timing, window}
use Rattle.csl.specs.Rules.{with_values}
use Rattle.csl.specs.Reckoning.{Reckoning, StepOf, activate, during, following, or_stops, taken, walk, walk_in}

module _ {A : Type 0} (g : Reckoning A) where
  -- what holds of `stops` and of what is found holds of a bind
  pub option_any : {X : Type 0} (F : A → Type 0) (m : Option X) (f : X → Option A) → F g.stops
      → ((x : X) → m ≡ some x → F (or_stops g (f x))) → F (or_stops g (m >>= f))
  unfolding or_stops ◌>>=◌
  option_any F none f s h = s
  option_any F (some x) f s h = h x refl

  -- P holds of a clause and of its unguarded parts; Q says what a clause may give
  pub record Keeps (s : StepOf A) (ts : List Template) (P : Clause → Type 0) (Q : Clause → A → Type 0) : Type 0 where
    pub elses : (w : Wait) (t f : Clause) → P (choice w t f) → P f
    pub sides : (x : Expr) (t f : Clause) → P (if x t f) → P t × P f
    pub parts : (j : Join) (t f : Clause) → P (join j t f) → P t × P f
    pub bodies : (k : ℕ) (t : Template) → at ts k ≡ some t → P t.body
    pub ended : Q fulfilled (g.reaches g.ends)
    pub stopped : (c : Clause) → Q c (g.reaches g.stops)
    pub owed : (b : ℕ) (w : Wait) (t : Clause) (e : Sight) (a : ℕ) → P (obligation b w t)
        → Q (obligation b w t) (g.reaches (s.on_obligation e a b w t))
    pub chosen : (w : Wait) (t f : Clause) (e : Sight) (a : ℕ) (h : ℕ → A) → P (choice w t f)
        → ((u : ℕ) → Q f (h u)) → Q (choice w t f) (g.reaches (s.on_choice e a w t h))
    pub first : (x : Expr) (t f : Clause) (r : A) → Q t r → Q (if x t f) (g.reaches r)
    pub second : (x : Expr) (t f : Clause) (r : A) → Q f r → Q (if x t f) (g.reaches r)
    pub joint : (j : Join) (t f : Clause) (l r : A) → Q t l → Q f r → Q (join j t f) (g.reaches (g.joins j l r))
    pub named : (k : ℕ) (es : List Expr) (bs : List ℕ) (t : Template) (r : A) → at ts k ≡ some t → Q t.body r
        → Q (instance k es bs) (g.reaches r)

  module _ (s : StepOf A) (ts : List Template) (P : Clause → Type 0) (Q : Clause → A → Type 0)
      (k : Keeps s ts P Q) where
    walk_keeps : (un : ℕ → List Val → List ℕ → ℕ → A)
        → ((i : ℕ) (vs : List Val) (ps : List ℕ) (u : ℕ) (es : List Expr) (bs : List ℕ)
        → Q (instance i es bs) (g.reaches (un i vs ps u)))
        → (c : Clause) (e : Sight) (a : ℕ) → P c → Q c (walk g s un c e a)
    unfolding walk or_stops
    walk_keeps un h fulfilled e a p = k.ended
    walk_keeps un h (obligation b w t) e a p = k.owed b w t e a p
    walk_keeps un h (choice w t f) e a p = k.chosen w t f e a (λ u. walk g s un f e u) p
        (λ u. walk_keeps un h f e u (k.elses w t f p))
    walk_keeps un h (if x t f) e a p =
        let q = k.sides x t f p in
        option_any (λ r. Q (if x t f) (g.reaches r)) (eval_bool e.values x) _ (k.stopped (if x t f))
        (λ b _. pick b (k.first x t f _ (walk_keeps un h t e a q.0))
        (k.second x t f _ (walk_keeps un h f e a q.1)))
      where
        pick : (b : Bool) → Q (if x t f) (g.reaches (walk g s un t e a))
            → Q (if x t f) (g.reaches (walk g s un f e a))
            → Q (if x t f) (g.reaches (or_stops g (elim b [
              | true ↦ some (walk g s un t e a)
              | false ↦ some (walk g s un f e a)
            ])))
        pick true y z = y
        pick false y z = z
    walk_keeps un h (join j t f) e a p =
        let q = k.parts j t f p in
        k.joint j t f _ _ (walk_keeps un h t e a q.0) (walk_keeps un h f e a q.1)
    walk_keeps un h (instance i es bs) e a p =
        let F : A → Type 0 = λ r. Q (instance i es bs) (g.reaches r) in
        let stop = k.stopped (instance i es bs) in
        option_any F (evals e.values es) _ stop λ vs _.
        option_any F (blamed_all e.params bs) _ stop λ ps _. h i vs ps a es bs
    walk_keeps un h bad_clause e a p = k.stopped bad_clause

    walk_in_keeps : (n : ℕ) (c : Clause) (e : Sight) (a : ℕ) → P c → Q c (walk_in g s ts n c e a)
    unfolding walk_in or_stops
    walk_in_keeps zero = walk_keeps _ (λ i vs ps u es bs. k.stopped (instance i es bs))
    walk_in_keeps (suc n) = walk_keeps _ (λ i vs ps u es bs.
        option_any (λ r. Q (instance i es bs) (g.reaches r)) (at ts i) _ (k.stopped (instance i es bs)) λ t eq.
        k.named i es bs t _ eq (walk_in_keeps n t.body (record { params = ps; values = vs }) u (k.bodies i t eq)))

    -- through every instance
    pub during_keeps : (c : Clause) (e : Sight) (a : ℕ) → P c → Q c (during g s ts c e a)
    unfolding during
    during_keeps = walk_in_keeps (length ts)

  -- ---- what an obligation and a choice come to when a reading is followed: stuck, breached, waiting, the `then`
  -- activated, or the else
  module _ (ts : List Template) (r : Reading) (F : A → Type 0) (stop : F g.stops) where
    taken_any : (e : Sight) (w : Wait) (v : Window) (t : Clause) (x : A) → F x
        → ((e' : Sight) (u : ℕ) → F (g.becomes (activate g ts t e' u))) → F (taken g ts r e w v t x)
    unfolding taken or_stops
    taken_any e w v t x fx act = wanted (eqb w.wanted r.type)
      where
        then : A
        then = g.becomes (activate g ts t (with_values e r.values (v.last -ℤ pos r.time)) r.time)

        choose : (b : Bool) → F (or_stops g (elim b [ false ↦ some x | true ↦ some then ]))
        choose true = act (with_values e r.values (v.last -ℤ pos r.time)) r.time
        choose false = fx

        wanted : (b : Bool) → F (elim b [
          | false ↦ x
          | true ↦ or_stops g (eval_bool (e.values ++ r.values) w.condition >>= λ b. elim b [
            | false ↦ some x
            | true ↦ some then
          ])
        ])
        wanted false = fx
        wanted true = option_any F (eval_bool (e.values ++ r.values) w.condition) _ stop (λ b _. choose b)

    timed_any : (k : Sort) (e : Sight) (a : ℕ) (w : Wait) (t : Clause) (over : Window → Option A)
        → ((v : Window) → F (or_stops g (over v))) → F (g.waits k w.place a e)
        → ((e' : Sight) (u : ℕ) → F (g.becomes (activate g ts t e' u)))
        → F (or_stops g (window e a w >>= λ v. elim (timing v r.time) [
          | late ↦ over v
          | on_time ↦ some (taken g ts r e w v t (g.waits k w.place a e))
          | early ↦ some (g.waits k w.place a e)
        ]))
    unfolding or_stops
    timed_any k e a w t over ends wait act = option_any F (window e a w) _ stop λ v _. go v (timing v r.time)
      where
        go : (v : Window) (l : Timing) → F (or_stops g (elim l [
          | late ↦ over v
          | on_time ↦ some (taken g ts r e w v t (g.waits k w.place a e))
          | early ↦ some (g.waits k w.place a e)
        ]))
        go v late = ends v
        go v on_time = taken_any e w v t (g.waits k w.place a e) wait act
        go v early = wait

    pub owed_any : (e : Sight) (a b : ℕ) (w : Wait) (t : Clause) → ((u p : ℕ) → F (g.breaks u (p ∷ [])))
        → F (g.waits an_obligation w.place a e) → ((e' : Sight) (u : ℕ) → F (g.becomes (activate g ts t e' u)))
        → F ((following g ts r).on_obligation e a b w t)
    unfolding following or_stops
    owed_any e a b w t broken = timed_any an_obligation e a w t _
        (λ v. option_any F (blamed e.params b) _ stop λ p _. broken (later_of a v.last) p)

    pub chosen_any : (e : Sight) (a : ℕ) (w : Wait) (t : Clause) (h : ℕ → A) → ((u : ℕ) → F (g.becomes (h u)))
        → F (g.waits a_choice w.place a e) → ((e' : Sight) (u : ℕ) → F (g.becomes (activate g ts t e' u)))
        → F ((following g ts r).on_choice e a w t h)
    unfolding following or_stops
    chosen_any e a w t h else = timed_any a_choice e a w t _ (λ v. else (later_of a v.last))
