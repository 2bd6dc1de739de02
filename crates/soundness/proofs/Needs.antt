-- Paper 02, No. 7: activating a clause gives no more than the clause needs and following a reading never increases what
-- a residue needs, since a body needs at most the units that its template declares, which an instance of it needs.
use mathlib.Core.Bool.{Bool, false, true}
use mathlib.Core.List.{List, [], ◌++◌, ◌∷◌}
use mathlib.Core.Option.{none, some}
use mathlib.Core.Path.{ap, subst, ◌≡◌}
use Prim.Native.Nat.{suc, zero, ℕ, ◌+◌, ◌≤◌}
use native.Mathlib.Omega.{arith}
use lib.Dec.{T, leb→le}
use Rattle.csl.specs.Lists.{all, at}
use Rattle.csl.specs.Parties.{is_same_set}
use Rattle.csl.specs.Syntax.{Agreement, Clause, Join, Template, Ty, Wait, and, bad_clause, choice, fulfilled, if}
use Rattle.csl.specs.Syntax.{instance, join, obligation, or}
use Rattle.csl.specs.Widths.{or_zero}
use Rattle.csl.specs.Outcomes.{Outcome, Residue, Sight, Sort, a_choice, an_obligation, both, breach, done, earlier}
use Rattle.csl.specs.Outcomes.{join_both, join_either, joined, later, running, stuck, unit, units}
use Rattle.csl.specs.Rules as Rules
use Rattle.csl.specs.Rules.{Reading, outcomes}
use Rattle.csl.specs.Reckoning.{StepOf, activate, activating, across, during, follow, following, or_stops}
use Rattle.csl.specs.Places.{Found, clause_at}
use Rattle.csl.specs.Table.{is_sort}
use Rattle.csl.specs.Sizes.{body_fits, clause_need, units_of}
use Rattle.csl.specs.Needs.{outcome_need, residue_need}
use Rattle.laws.proofs.Bools.{T-left, T-right}
use Rattle.laws.proofs.Options.{none_some, some_inj}
use Rattle.soundness.proofs.Good.{Ok, Placed}
use Rattle.soundness.proofs.Walks.{Fair}
use Rattle.soundness.proofs.ReadBack.{found_placed}
use Rattle.soundness.proofs.Forecasts.{times}
use Rattle.soundness.proofs.Reckonings.{Keeps, chosen_any, during_keeps, option_any, owed_any}

-- ---- an instance needs what its template declares, which is no less than its body's need
declared_at : (us : List ℕ) (ts : List Template) (k : ℕ) (t : Template) → T (all (body_fits us) ts)
    → at ts k ≡ some t → clause_need us t.body ≤ or_zero (at (units_of ts) k)
unfolding all at body_fits units_of or_zero
declared_at us [] k t h e = none_some e
declared_at us (s ∷ ts) zero t h e = subst (λ z. clause_need us z.body ≤ or_zero s.head.units) (some_inj e)
    (leb→le (clause_need us s.body) (or_zero s.head.units) (T-left (body_fits us s) _ h))
declared_at us (s ∷ ts) (suc k) t h e = declared_at us ts k t (T-right (body_fits us s) _ h) e

abbrev need : Agreement → Clause → ℕ
need a c = clause_need (units_of a.templates) c

module _ (a : Agreement) where
  -- ---- a join needs 1 and both its sides
  joined_need : (j : Join) (l r : Outcome) → outcome_need a (joined j l r) ≤ 1 + outcome_need a l + outcome_need a r
  unfolding joined join_both join_either earlier later outcome_need residue_need
  joined_need and done r = omega arith
  joined_need and (breach t ps) done = omega arith
  joined_need and (breach t ps) (breach u qs) = times t u (breach t ps) (breach u qs) (breach t (ps ++ qs))
      (λ o. outcome_need a o ≤ 1) (λ _. omega arith) (λ _. omega arith) (λ _. omega arith)
  joined_need and (breach t ps) (running r) = omega arith
  joined_need and (breach t ps) stuck = omega arith
  joined_need and (running l) done = omega arith
  joined_need and (running l) (breach u qs) = omega arith
  joined_need and (running l) (running r) = omega arith
  joined_need and (running l) stuck = omega arith
  joined_need and stuck r = omega arith
  joined_need or done done = omega arith
  joined_need or done (breach u qs) = omega arith
  joined_need or done (running r) = omega arith
  joined_need or done stuck = omega arith
  joined_need or (breach t ps) done = omega arith
  joined_need or (breach t ps) (breach u qs) = times t u (breach u qs) (breach t ps) _
      (λ o. outcome_need a o ≤ 1) (λ _. omega arith) (λ _. omega arith) (λ _. same (is_same_set ps qs))
    where
      same : (b : Bool) → outcome_need a (elim b [ true ↦ breach t ps | false ↦ stuck ]) ≤ 1
      same true = omega arith
      same false = omega arith
  joined_need or (breach t ps) (running r) = omega arith
  joined_need or (breach t ps) stuck = omega arith
  joined_need or (running l) done = omega arith
  joined_need or (running l) (breach u qs) = omega arith
  joined_need or (running l) (running r) = omega arith
  joined_need or (running l) stuck = omega arith
  joined_need or stuck r = omega arith

  -- ---- a unit needs what its clause does
  unit_need : (p : ℕ) (f : Found) → clause_at a p ≡ some f → (s : Sort) (t : ℕ) (e : Sight)
      → residue_need a (unit s p t e) ≡ need a f.clause
  unfolding residue_need
  unit_need p f q s t e = ap (λ o. elim o [ none ↦ 0 | some g ↦ need a g.clause ]) q

  -- no residue that stands at its places has more units than it needs
  pub units_need : (W : ℕ → Type 0) (res : Residue) (ps : List ℕ) → Ok a W res ps → units res ≤ residue_need a res
  unfolding Ok units residue_need clause_need is_sort
  units_need W (unit s p t e) ps ok =
      omega (arith, unit_need p ok.found ok.is_at s t e, waits s ok.found.clause ok.sorted)
    where
      waits : (s : Sort) (c : Clause) → T (is_sort s c) → 1 ≤ need a c
      waits s fulfilled h = absurd h
      waits s (obligation b w t) h = omega arith
      waits s (choice w t f) h = omega arith
      waits s (if x t f) h = absurd h
      waits s (join j t f) h = absurd h
      waits s (instance k es bs) h = absurd h
      waits s bad_clause h = absurd h
  units_need W (both j l r) ps ok = omega (arith, units_need W l ok.0 ok.2, units_need W r ok.1 ok.3)

module _ (a : Agreement) (mains : List ℕ) (fair : Fair a mains)
    (fit : T (all (body_fits (units_of a.templates)) a.templates)) where
  abbrev ts : List Template
  ts = a.templates

  -- a clause whose waits are found at their places
  abbrev Stands : Clause → Type 0
  Stands c = (n : ℕ) × (env : List Ty) × Placed a n env c

  -- an outcome that needs no more than the clause does
  abbrev Within : Clause → Outcome → Type 0
  Within c o = outcome_need a o ≤ need a c

  -- ---- a walk gives no more than the clause needs, if its step does at obligations and choices
  module _ (s : StepOf Outcome)
      (owed : (b : ℕ) (w : Wait) (t : Clause) (e : Sight) (u : ℕ) → Stands (obligation b w t)
      → Within (obligation b w t) (s.on_obligation e u b w t))
      (chosen : (w : Wait) (t f : Clause) (e : Sight) (u : ℕ) (h : ℕ → Outcome) → Stands (choice w t f)
      → ((v : ℕ) → Within f (h v)) → Within (choice w t f) (s.on_choice e u w t h)) where
    step_keeps : Keeps outcomes s ts Stands Within
    unfolding clause_need outcome_need Placed
    step_keeps = record {
      elses = λ w t f p. (p.0, p.1, p.2.2);
      sides = λ x t f p. ((p.0, p.1, p.2.0), (p.0, p.1, p.2.1));
      parts = λ j t f p. ((p.0, p.1, p.2.0), (p.0, p.1, p.2.1));
      bodies = λ k t e. (t.head.params, t.head.values, (fair.templates k t e).placed);
      ended = omega arith;
      stopped = λ c. omega arith;
      owed = owed;
      chosen = chosen;
      first = λ x t f r q. omega arith;
      second = λ x t f r q. omega arith;
      joint = λ j t f l r p q. omega (arith, joined_need a j l r);
      named = λ k es bs t r e q. omega (arith, declared_at (units_of ts) ts k t fit e);
    }

    during_need : (c : Clause) (e : Sight) (u : ℕ) → Stands c → Within c (during outcomes s ts c e u)
    during_need = during_keeps outcomes s ts Stands Within step_keeps

  -- ---- a wait needs what its clause does
  owed_need : (b : ℕ) (w : Wait) (t : Clause) (e : Sight) (u : ℕ) → Stands (obligation b w t)
      → Within (obligation b w t) (running (unit an_obligation w.place u e))
  unfolding outcome_need Placed
  owed_need b w t e u p = omega (arith, unit_need a w.place _ p.2.0 an_obligation u e)

  choice_need : (w : Wait) (t f : Clause) (e : Sight) (u : ℕ) → Stands (choice w t f)
      → Within (choice w t f) (running (unit a_choice w.place u e))
  unfolding outcome_need Placed
  choice_need w t f e u p = omega (arith, unit_need a w.place _ p.2.0 a_choice u e)

  -- ---- activating a clause gives an outcome of at most the clause's need
  activated : (c : Clause) (e : Sight) (u : ℕ) → Stands c → Within c (activate outcomes ts c e u)
  unfolding activate activating
  activated = during_need (activating outcomes) owed_need (λ w t f e u h p k. choice_need w t f e u p)

  pub activate_need : (c : Clause) (n : ℕ) (env : List Ty) (e : Sight) (u : ℕ) → Placed a n env c
      → outcome_need a (Rules.activate ts c e u) ≤ need a c
  unfolding Rules.activate activate
  activate_need c n env e u p = activated c e u (n, env, p)

  -- ---- following a reading
  module _ (r : Reading) where
    owed_follows : (b : ℕ) (w : Wait) (t : Clause) (e : Sight) (u : ℕ) → Stands (obligation b w t)
        → Within (obligation b w t) ((following outcomes ts r).on_obligation e u b w t)
    unfolding outcome_need clause_need Placed
    owed_follows b w t e u p = owed_any outcomes ts r (Within (obligation b w t)) (omega arith) e u b w t
        (λ v q. omega arith) (owed_need b w t e u p)
        (λ e' v. omega (arith, activated t e' v (p.0, _, p.2.1)))

    choice_follows : (w : Wait) (t f : Clause) (e : Sight) (u : ℕ) (h : ℕ → Outcome) → Stands (choice w t f)
        → ((v : ℕ) → Within f (h v)) → Within (choice w t f) ((following outcomes ts r).on_choice e u w t h)
    unfolding outcome_need clause_need Placed
    choice_follows w t f e u h p k = chosen_any outcomes ts r (Within (choice w t f)) (omega arith) e u w t h
        (λ v. omega (arith, k v)) (choice_need w t f e u p)
        (λ e' v. omega (arith, activated t e' v (p.0, _, p.2.1)))

    -- following any reading never increases a residue's need
    pub follow_need : (res : Residue) → outcome_need a (Rules.follow a r res) ≤ residue_need a res
    unfolding Rules.follow follow across outcome_need residue_need or_stops
    follow_need (unit k p t e) = option_any outcomes (λ o. outcome_need a o ≤ residue_need a (unit k p t e))
        (clause_at a p) _ (omega arith) λ f eq. omega (
          arith,
          unit_need a p f eq k t e,
          during_need (following outcomes ts r) owed_follows choice_follows f.clause e t
              (f.params, f.sight, (found_placed a mains fair p f eq).0),
        )
    follow_need (both j l m) = omega (
      arith,
      joined_need a j (Rules.follow a r l) (Rules.follow a r m),
      follow_need l,
      follow_need m,
    )
