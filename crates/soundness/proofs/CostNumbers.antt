-- Paper 02, No. 9: "On a fulfilled or breached table, and on a refusal other than 11, the count is 0; on 11 it is the
-- refused reading's, and not zero": what a reading costs beside its number.
use mathlib.Core.Bool.{Bool, false, true}
use mathlib.Core.List.{List}
use mathlib.Core.Logic.{inl, inr, ◌≢◌, ◌⊎◌}
use mathlib.Core.Path.{refl, subst, sym, ◌≡◌}
use Prim.Native.Nat.{ℕ, ◌≤◌}
use native.Mathlib.Omega.{arith}
use Rattle.csl.specs.Syntax.{Agreement}
use Rattle.csl.specs.Outcomes.{Outcome, Residue, both, breach, done, running, stuck, unit, units}
use Rattle.csl.specs.Rules.{Reading, follow}
use Rattle.csl.specs.Cost.{cost_from, cost_of}
use Rattle.csl.specs.Run.{Fit, Stepped, fit, fit_of, followed, kept, read_at, step, too_many, unfit}
use Rattle.csl.specs.Table.{Run}
use Rattle.csl.specs.Demand3.{IsBreach}
use Rattle.soundness.proofs.Good.{Good}
use Rattle.soundness.proofs.Runs.{Inv, Since, fit_cases, run_at, stepped}
use Rattle.soundness.proofs.CostUnits.{units_cost}

-- ---- a table on which nothing waits
module _ (a : Agreement) (q : Run) (bytes : List ℕ) where
  ended_cost : ((d : Reading) → cost_from a q.outcome d ≡ 0) → cost_of a q bytes ≡ 0
  unfolding cost_of
  ended_cost h = go (fit_of a q.last_time bytes)
    where
      go : (x : Fit) → ◌≡◌ {A = ℕ} (elim x [ unfit n ↦ 0 | fit d ↦ cost_from a q.outcome d ]) 0
      go (unfit n) = refl
      go (fit d) = h d

  pub cost_fulfilled : q.outcome ≡ done → cost_of a q bytes ≡ 0
  unfolding cost_from
  cost_fulfilled e = ended_cost (λ d. rw e refl)

  pub cost_breached : IsBreach q.outcome → cost_of a q bytes ≡ 0
  unfolding cost_from IsBreach
  cost_breached b = ended_cost (go q.outcome b)
    where
      go : (o : Outcome) → IsBreach o → (d : Reading) → cost_from a o d ≡ 0
      go done h d = refl
      go (breach t ps) h d = refl
      go (running res) h d = absurd h
      go stuck h d = refl

-- ---- a refusal
kept_number : (b c : Run) → (kept b c).number ≢ 0 → (kept b c).number ≢ 11 → ⊥
unfolding kept
kept_number b c = go (too_many c.outcome)
  where
    by : Bool → Stepped
    by x = elim x [ true ↦ stepped 11 b | false ↦ stepped 0 c ]

    go : (x : Bool) → (by x).number ≢ 0 → (by x).number ≢ 11 → ⊥
    go true p q = q refl
    go false p q = p refl

one_unit : (res : Residue) → 1 ≤ units res
unfolding units
one_unit (unit s p a e) = omega arith
one_unit (both j l r) = omega arith

module _ (a : Agreement) (mains : List ℕ) where
  -- a number and a cost
  abbrev Told : ℕ → ℕ → Type 0
  Told n c = (n ≢ 0 → n ≢ 11 → c ≡ 0) × (n ≡ 11 → 1 ≤ c)

  followed_told : (t m : ℕ) (o : Outcome) (d : Reading) → Good a (Since a t) mains o
      → Told (followed a (run_at t m o) d).number (cost_from a o d)
  unfolding followed cost_from Good
  followed_told t m done d g = (λ p q. refl, λ e. absurd (omega arith))
  followed_told t m (breach u ps) d g = (λ p q. refl, λ e. absurd (omega arith))
  followed_told t m (running res) d g = (
    λ p q. absurd (kept_number _ (read_at (run_at t m (running res)) d.time (follow a d res)) p q),
    λ e. omega (arith, one_unit res, units_cost a d (Since a t) res g.0 g.1),
  )
  followed_told t m stuck d g = absurd g

  by : Run → Fit → Stepped
  by q x = elim x [ unfit n ↦ stepped n q | fit d ↦ followed a q d ]

  costing : Run → Fit → ℕ
  costing q x = elim x [ unfit n ↦ 0 | fit d ↦ cost_from a q.outcome d ]

  pub cost_refused : (q : Run) (bytes : List ℕ) → Inv a mains q.last_time q.last_moved q.outcome
      → ((step a q bytes).number ≢ 0 → (step a q bytes).number ≢ 11 → cost_of a q bytes ≡ 0)
      × ((step a q bytes).number ≡ 11 → 1 ≤ cost_of a q bytes)
  unfolding step cost_of by costing
  cost_refused q bytes i = fit_cases a q.last_time bytes
      (λ n w f e. on (unfit n) e (λ p q. refl, λ z. absurd (neither n w z)))
      (λ d f lt e. on (unfit 10) e (λ p q. refl, λ z. absurd (omega arith)))
      (λ w d rw' td f le e. on (fit d) e (followed_told q.last_time q.last_moved q.outcome d i.good))
    where
      on : (x : Fit) → fit_of a q.last_time bytes ≡ x → Told (by q x).number (costing q x)
          → Told (by q (fit_of a q.last_time bytes)).number (costing q (fit_of a q.last_time bytes))
      on x e h = subst (λ x. Told (by q x).number (costing q x)) (sym e) h

      neither : (n : ℕ) → (n ≡ 8) ⊎ (n ≡ 9) → n ≡ 11 → ⊥
      neither n (inl p) z = omega arith
      neither n (inr p) z = omega arith
