-- Paper 02, No. 9: "one for each unit of the table read, which is every unit in use": what a reading costs on a running
-- table is its units, and what is activated further.
use mathlib.Core.Bool.{false}
use mathlib.Core.List.{List}
use mathlib.Core.Option.{some}
use mathlib.Core.Path.{ap, refl, ◌∙◌, ◌≡◌}
use Prim.Native.Nat.{suc, zero, ℕ, ◌≤◌}
use native.Mathlib.Omega.{arith}
use lib.Dec.{T}
use lib.ListN.{length}
use Rattle.csl.specs.Syntax.{Agreement, Clause, Template, Wait, bad_clause, choice, fulfilled, if, instance, join}
use Rattle.csl.specs.Syntax.{obligation}
use Rattle.csl.specs.Outcomes.{Residue, Sight, Sort, both, unit, units}
use Rattle.csl.specs.Rules.{Reading}
use Rattle.csl.specs.Reckoning.{Reckoning, StepOf, across, during, follow, following, or_stops, walk, walk_in}
use Rattle.csl.specs.Cost.{Tally, all_further, follow_cost, nothing_yet, one_more, tallies, tally_join, total}
use Rattle.csl.specs.Places.{Found, clause_at}
use Rattle.csl.specs.Table.{is_sort}
use Rattle.laws.proofs.Options.{some_bind}
use Rattle.soundness.proofs.Good.{Ok}
use Rattle.soundness.proofs.Reckonings.{chosen_any, owed_any}

-- ---- a waiting clause, whatever is reckoned
module _ {A : Type 0} (g : Reckoning A) where
  pub on_obligation_lem : (s : StepOf A) (ts : List Template) (n b : ℕ) (w : Wait) (t : Clause) (e : Sight) (u : ℕ)
      → walk_in g s ts n (obligation b w t) e u ≡ g.reaches (s.on_obligation e u b w t)
  unfolding walk_in walk
  on_obligation_lem s ts zero b w t e u = refl
  on_obligation_lem s ts (suc n) b w t e u = refl

  pub on_choice_lem : (s : StepOf A) (ts : List Template) (n : ℕ) (w : Wait) (t f : Clause) (e : Sight) (u : ℕ)
      → walk_in g s ts n (choice w t f) e u ≡ g.reaches (s.on_choice e u w t (λ v. walk_in g s ts n f e v))
  unfolding walk_in walk
  on_choice_lem s ts zero w t f e u = refl
  on_choice_lem s ts (suc n) w t f e u = refl

  -- a unit is read as the clause at its place
  pub on_unit : (ag : Agreement) (r : Reading) (k : Sort) (p u : ℕ) (e : Sight) (x : Found) → clause_at ag p ≡ some x
      → follow g ag r (unit k p u e)
      ≡ walk_in g (following g ag.templates r) ag.templates (length ag.templates) x.clause e u
  unfolding follow across during or_stops
  on_unit ag r k p u e x h = ap (or_stops g) (some_bind (clause_at ag p) _ x h)

module _ (ag : Agreement) (r : Reading) where
  -- what is not yet counted of a wait: all that it activates is further
  abbrev pub Waits : Tally → Type 0
  Waits x = (x.at_once ≡ false) × (x.activated ≡ 0)

  pub owed_waits : (e : Sight) (u b : ℕ) (w : Wait) (t : Clause)
      → Waits ((following tallies ag.templates r).on_obligation e u b w t)
  unfolding nothing_yet all_further
  owed_waits e u b w t = owed_any tallies ag.templates r Waits (refl, refl) e u b w t (λ v q. (refl, refl))
      (refl, refl) (λ e' v. (refl, refl))

  pub chosen_waits : (e : Sight) (u : ℕ) (w : Wait) (t : Clause) (h : ℕ → Tally)
      → Waits ((following tallies ag.templates r).on_choice e u w t h)
  unfolding nothing_yet all_further
  chosen_waits e u w t h = chosen_any tallies ag.templates r Waits (refl, refl) e u w t h (λ v. (refl, refl))
      (refl, refl) (λ e' v. (refl, refl))

  pub units_read : (W : ℕ → Type 0) (res : Residue) (ps : List ℕ) → Ok ag W res ps
      → (follow tallies ag r res).activated ≡ units res
  unfolding Ok units follow across tally_join one_more is_sort
  units_read W (unit k p u e) ps ok = ap (λ z. z.activated) (on_unit tallies ag r k p u e ok.found ok.is_at)
      ∙ one k ok.found.clause ok.sorted
    where
      one : (k : Sort) (c : Clause) → T (is_sort k c) → (walk_in tallies (following tallies ag.templates r)
          ag.templates (length ag.templates) c e u).activated ≡ 1
      one k fulfilled h = absurd h
      one k (obligation b w t) h = ap (λ z. z.activated) (on_obligation_lem tallies _ ag.templates _ b w t e u)
          ∙ ap suc (owed_waits e u b w t).1
      one k (choice w t f) h = ap (λ z. z.activated) (on_choice_lem tallies _ ag.templates _ w t f e u)
          ∙ ap suc (chosen_waits e u w t _).1
      one k (if x t f) h = absurd h
      one k (join j t f) h = absurd h
      one k (instance i es bs) h = absurd h
      one k bad_clause h = absurd h
  units_read W (both j l m) ps ok = omega
      (arith, units_read W l ok.0 ok.2, units_read W m ok.1 ok.3)

  pub units_cost : (W : ℕ → Type 0) (res : Residue) (ps : List ℕ) → Ok ag W res ps → units res ≤ follow_cost ag r res
  unfolding follow_cost total
  units_cost W res ps ok = omega (arith, units_read W res ps ok)
