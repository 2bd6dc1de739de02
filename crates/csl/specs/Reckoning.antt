-- Paper 01, "Following a reading": activating, following (CSL Fig. 8) and forecasting (CSL Fig. 9).
-- The three are one walk over a clause; they differ in what an obligation and a choice become.
-- What is reckoned on the way is left open: `Rules` reckons the outcome, `Cost` what a reading costs. Each decision is
-- taken once, here.
use Rattle.std.specs.Prelude.{true, false, List, [], ◌∷◌, ◌++◌, ℕ, zero, suc, eqb, pos, ◌-ℤ◌, length}
use Rattle.std.proofs.Math.Option.{Option, some}
use Rattle.csl.specs.Lists.{◌>>=◌, at}
use Rattle.csl.specs.Numbers.{later_of}
use Rattle.csl.specs.Syntax.{Join, Wait, Clause, fulfilled, obligation, choice, if, join, instance, bad_clause}
use Rattle.csl.specs.Syntax.{Template, Agreement}
use Rattle.csl.specs.Values.{Val, eval_bool, evals}
use Rattle.csl.specs.Outcomes.{Sight, Sort, an_obligation, a_choice, Residue, unit, both, or_other}
use Rattle.csl.specs.Places.{clause_at}
use Rattle.csl.specs.Windows.{blamed, blamed_all, Window, window, Reading, early, on_time, late, timing, with_values}

-- what is reckoned of a clause: that it is fulfilled, breached, waits, is joined of its sides, is stuck
pub record Reckoning (A : Type 0) : Type 0 where
  pub ends : A
  pub breaks : ℕ → List ℕ → A
  pub waits : Sort → ℕ → ℕ → Sight → A
  pub joins : Join → A → A → A
  pub stops : A
  -- of a clause that is activated, or a unit of the table that is read: given what comes of it
  pub reaches : A → A
  -- of a wait that this reading ends: given what its `then` or its else comes to
  pub becomes : A → A

-- what an obligation and a choice become; for a choice the step is handed what its else does at a time
pub record StepOf (A : Type 0) : Type 0 where
  pub on_obligation : Sight → ℕ → ℕ → Wait → Clause → A
  pub on_choice : Sight → ℕ → Wait → Clause → (ℕ → A) → A

module _ {A : Type 0} (g : Reckoning A) where
  unfoldable pub or_stops : Option A → A
  unfolding or_other
  or_stops x = or_other g.stops x

  -- ---- the walk over a clause activated at time A
  -- CSL Fig. 8: fulfilment, internal choice, conjunction, disjunction, instantiation
  module _ (s : StepOf A) (instantiate : ℕ → List Val → List ℕ → ℕ → A) where
    unfoldable pub walk : Clause → Sight → ℕ → A
    walk fulfilled e a = g.reaches g.ends
    walk (obligation b w t) e a = g.reaches (s.on_obligation e a b w t)
    walk (choice w t f) e a = g.reaches (s.on_choice e a w t (λ u. walk f e u))
    walk (if c t f) e a = g.reaches (or_stops (eval_bool e.values c >>= λ b. elim b [
      | true ↦ some (walk t e a)
      | false ↦ some (walk f e a)
    ]))
    walk (join j t f) e a = g.reaches (g.joins j (walk t e a) (walk f e a))
    walk (instance k es bs) e a = g.reaches (or_stops
        (evals e.values es >>= λ vs. blamed_all e.params bs >>= λ ps. some (instantiate k vs ps a)))
    walk bad_clause e a = g.reaches g.stops

  -- "Activating an instance activates the template's body with the values given."; n bounds how many instances may
  -- stand in one another
  unfoldable pub walk_in : StepOf A → List Template → ℕ → Clause → Sight → ℕ → A
  walk_in s ts zero c e a = walk s (λ k vs ps u. g.stops) c e a
  walk_in s ts (suc n) c e a = walk s
      (λ k vs ps u. or_stops (at ts k >>= λ t. some (walk_in s ts n t.body (record { params = ps; values = vs }) u)))
      c e a

  -- as many as there are templates: a longer chain would name one twice and so have no end
  unfoldable pub during : StepOf A → List Template → Clause → Sight → ℕ → A
  during s ts c e a = walk_in s ts (length ts) c e a

  -- ---- activating: "an obligation or choice waits"
  unfoldable pub activating : StepOf A
  activating = record {
    on_obligation = λ e a b w t. g.waits an_obligation w.place a e;
    on_choice = λ e a w t f. g.waits a_choice w.place a e;
  }

  unfoldable pub activate : List Template → Clause → Sight → ℕ → A
  activate ts c e a = during activating ts c e a

  -- ---- following a reading
  -- 2, in an open window: "The reading type is the wanted one [..] and where is true: `then` is activated at T,
  -- remaining time last − T. It does not see this reading again."; 3. "Otherwise it waits on."
  unfoldable pub taken : List Template → Reading → Sight → Wait → Window → Clause → A → A
  taken ts r e w v t waiting = elim (eqb w.wanted r.type) [
    | false ↦ waiting
    | true ↦ or_stops (eval_bool (e.values ++ r.values) w.condition >>= λ b. elim b [
      | false ↦ some waiting
      | true ↦ some (g.becomes (activate ts t (with_values e r.values (v.last -ℤ pos r.time)) r.time))
    ])
  ]

  -- 1, late: "an obligation is breached at the later of A and last, by its blame. A choice activates its else at that
  -- time, and the else follows this same reading."
  unfoldable pub following : List Template → Reading → StepOf A
  following ts r = record {
    on_obligation = λ e a b w t. or_stops (window e a w >>= λ v. elim (timing v r.time) [
      | late ↦ blamed e.params b >>= (λ p. some (g.breaks (later_of a v.last) (p ∷ [])))
      | on_time ↦ some (taken ts r e w v t (g.waits an_obligation w.place a e))
      | early ↦ some (g.waits an_obligation w.place a e)
    ]);
    on_choice = λ e a w t f. or_stops (window e a w >>= λ v. elim (timing v r.time) [
      | late ↦ some (g.becomes (f (later_of a v.last)))
      | on_time ↦ some (taken ts r e w v t (g.waits a_choice w.place a e))
      | early ↦ some (g.waits a_choice w.place a e)
    ]);
  }

  -- ---- forecasting: "an obligation gives its breach at the later of A and last; a choice gives what its else,
  -- activated at that time, gives"
  unfoldable pub forecasting : StepOf A
  forecasting = record {
    on_obligation = λ e a b w t. or_stops
        (window e a w >>= λ v. blamed e.params b >>= λ p. some (g.breaks (later_of a v.last) (p ∷ [])));
    on_choice = λ e a w t f. or_stops (window e a w >>= λ v. some (g.becomes (f (later_of a v.last))));
  }

  -- ---- "A reading at time T reaches every waiting unit, and both sides of an `and` may use the same one."
  -- a waiting unit is read as its own clause is reached, a join of the table by itself
  unfoldable pub across : StepOf A → Agreement → Residue → A
  across s a (unit k p t e) = or_stops (clause_at a p >>= λ c. some (during s a.templates c.clause e t))
  across s a (both j l r) = g.reaches (g.joins j (across s a l) (across s a r))

  unfoldable pub follow : Agreement → Reading → Residue → A
  follow a r res = across (following a.templates r) a res

-- what a proof by computation unfolds
unfoldable pub computes : Unit {0}
unfolding or_stops walk walk_in during activating activate taken following forecasting across follow
computes = tt
