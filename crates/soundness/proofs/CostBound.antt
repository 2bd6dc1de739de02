-- Paper 02, No. 9: "It is at most 65,792 for each unit read, so at most 8,421,376 a reading."
-- 65,792 is 257 times 256: a clause that is reached counts one and its `then` at most 256, and a waiting unit reaches
-- no more clauses than its width, which is at most 256.
use mathlib.Core.Bool.{Bool, false, true}
use mathlib.Core.List.{List}
use mathlib.Core.Option.{some}
use mathlib.Core.Path.{◌≡◌}
use Prim.Native.Nat.{◌*◌, ◌+◌, ℕ, ◌≤◌}
use native.Mathlib.Omega.{arith}
use lib.Dec.{T}
use lib.IntN.{ℤ}
use Rattle.csl.specs.Syntax.{Agreement, Clause, Join, bad_clause, choice, fulfilled, if, instance, join, obligation}
use Rattle.csl.specs.Guards.{guarded_from}
use Rattle.csl.specs.Widths.{narrow_all, thens_narrow, width}
use Rattle.csl.specs.Outcomes.{Outcome, Residue, Sight, both, breach, done, running, stuck, unit, units}
use Rattle.csl.specs.Rules.{Reading}
use Rattle.csl.specs.Reckoning.{across, activate, activating, during, follow, following, or_stops}
use Rattle.csl.specs.Cost.{Tally, all_further, both_at_once, cost_from, cost_of, follow_cost, nothing_yet, one_more}
use Rattle.csl.specs.Cost.{tallies}
use Rattle.csl.specs.Cost.{tally_join, total}
use Rattle.csl.specs.Places.{clause_at}
use Rattle.csl.specs.Run.{Fit, fit, fit_of, unfit}
use Rattle.csl.specs.Table.{Run, run_of}
use Rattle.csl.specs.Demand3.{needed}
use Rattle.soundness.proofs.Checked.{Passed, fair}
use Rattle.soundness.proofs.ReadBack.{run_of_good}
use Rattle.soundness.proofs.Reckonings.{Keeps, chosen_any, during_keeps, option_any, owed_any}
use Rattle.soundness.proofs.CostWidths.{Narrow, at_narrow, bodies_narrow, body_width, chosen_narrow, owed_narrow}
use Rattle.soundness.proofs.CostWidths.{sides_narrow, widths}

one_wide : (ws : List ℕ) (c : Clause) → 1 ≤ width ws c
unfolding width
one_wide ws fulfilled = omega arith
one_wide ws (obligation b w t) = omega arith
one_wide ws (choice w t f) = omega arith
one_wide ws (if x t f) = omega arith
one_wide ws (join j t f) = omega arith
one_wide ws (instance k es bs) = omega arith
one_wide ws bad_clause = omega arith

-- a join counts no more than its sides
join_total : (j : Join) (l r : Tally) → total (tally_join j l r) ≤ total l + total r
unfolding total tally_join
join_total j l r = go (both_at_once j l.at_once r.at_once)
  where
    go : (b : Bool) → l.activated + r.activated + (elim b [ true ↦ 0 | false ↦ l.further + r.further ])
        ≤ l.activated + l.further + (r.activated + r.further)
    go true = omega arith
    go false = omega arith

module _ (a : Agreement) (gd : T (guarded_from 0 a.templates)) (nw : T (narrow_all a)) where
  abbrev ws : List ℕ
  ws = widths a nw

  -- ---- activating a clause reaches at most its width
  activating_keeps : Keeps tallies (activating tallies) a.templates (λ c. Unit {0}) (λ c x. total x ≤ width ws c)
  unfolding activating width total nothing_yet one_more
  activating_keeps = record {
    elses = λ w t f p. tt;
    sides = λ x t f p. (tt, tt);
    parts = λ j t f p. (tt, tt);
    bodies = λ k t e. tt;
    ended = omega arith;
    stopped = λ c. omega (arith, one_wide ws c);
    owed = λ b w t e u p. omega arith;
    chosen = λ w t f e u h p k. omega arith;
    first = λ x t f r q. omega arith;
    second = λ x t f r q. omega arith;
    joint = λ j t f l r p q. omega (arith, join_total j l r);
    named = λ k es bs t r e q. omega (arith, body_width a.templates k t gd e);
  }

  activate_cost : (c : Clause) (e : Sight) (u : ℕ) → total (activate tallies a.templates c e u) ≤ width ws c
  unfolding activate
  activate_cost c e u = during_keeps tallies (activating tallies) a.templates _ _ activating_keeps c e u tt

  -- ---- following one reaches at most its width, with a `then` of at most 256 at each
  following_keeps : (d : Reading) → Keeps tallies (following tallies a.templates d) a.templates (Narrow ws)
      (λ c x. total x ≤ 257 * width ws c)
  unfolding width thens_narrow total nothing_yet one_more all_further
  following_keeps d = record {
    elses = λ w t f p. (chosen_narrow ws w t f p).1;
    sides = λ x t f p. sides_narrow ws t f p.wide p.thens;
    parts = λ j t f p. sides_narrow ws t f p.wide p.thens;
    bodies = bodies_narrow a nw;
    ended = omega arith;
    stopped = λ c. omega (arith, one_wide ws c);
    owed = λ b w t e u p.
        let h : total ((following tallies a.templates d).on_obligation e u b w t) ≤ 256 =
        owed_any tallies a.templates d (λ x. total x ≤ 256) (omega arith) e u b w t (λ v q. omega arith)
        (omega arith) (λ e' v. omega (arith, activate_cost t e' v, (owed_narrow ws b w t p).wide)) in
        omega arith;
    chosen = λ w t f e u h p k.
        let x : total ((following tallies a.templates d).on_choice e u w t h) ≤ 256 + 257 * width ws f =
        chosen_any tallies a.templates d (λ x. total x ≤ 256 + 257 * width ws f) (omega arith) e u w t h
        (λ v. omega (arith, k v)) (omega arith)
        (λ e' v. omega (arith, activate_cost t e' v, (chosen_narrow ws w t f p).0.wide)) in
        omega arith;
    first = λ x t f r q. omega arith;
    second = λ x t f r q. omega arith;
    joint = λ j t f l r p q. omega (arith, join_total j l r);
    named = λ k es bs t r e q. omega (arith, body_width a.templates k t gd e);
  }

  -- "at most 65,792 for each unit read"
  residue_cost : (d : Reading) (res : Residue) → follow_cost a d res ≤ 65_792 * units res
  unfolding follow_cost follow across units or_stops total nothing_yet one_more
  residue_cost d (unit k p t e) = option_any tallies (λ x. total x ≤ 65_792 * 1) (clause_at a p) _ (omega arith)
      λ f eq.
      let n = at_narrow a nw p f eq in
      let h : total (during tallies (following tallies a.templates d) a.templates f.clause e t)
      ≤ 257 * width ws f.clause =
      during_keeps tallies (following tallies a.templates d) a.templates _ _ (following_keeps d) f.clause e t
      n in
      omega (arith, n.wide)
  residue_cost d (both j l r) = omega (
    arith,
    residue_cost d l,
    residue_cost d r,
    join_total j (follow tallies a d l) (follow tallies a d r),
  )

-- ---- of an accepted agreement
module _ (bytes : List ℕ) (a : Agreement) (mains : List ℕ) (p : Passed bytes a mains) where
  pub cost_of_units : (d : Reading) (res : Residue) → follow_cost a d res ≤ 65_792 * units res
  cost_of_units = residue_cost a p.guarded p.narrow

  outcome_cost : (o : Outcome) (d : Reading) → cost_from a o d ≤ 65_792 * needed o
  unfolding cost_from needed
  outcome_cost done d = omega arith
  outcome_cost (breach t ps) d = omega arith
  outcome_cost (running res) d = cost_of_units d res
  outcome_cost stuck d = omega arith

  pub run_cost : (q : Run) (reading : List ℕ) → cost_of a q reading ≤ 65_792 * needed q.outcome
  unfolding cost_of
  run_cost q reading = go (fit_of a q.last_time reading)
    where
      go : (x : Fit) → (elim x [ unfit n ↦ 0 | fit d ↦ cost_from a q.outcome d ]) ≤ 65_792 * needed q.outcome
      go (unfit n) = omega arith
      go (fit d) = outcome_cost q.outcome d

  -- on every well-typed table, reached by readings or made by hand
  pub cost_bound : (cells : List ℤ) (q : Run) (reading : List ℕ) → run_of a mains cells ≡ some q
      → (cost_of a q reading ≤ 65_792 * needed q.outcome) × (cost_of a q reading ≤ 8_421_376)
  cost_bound cells q reading e =
      let h = run_cost q reading in
      (h, omega (arith, (run_of_good a mains cells q (fair bytes a mains p) e).small))
