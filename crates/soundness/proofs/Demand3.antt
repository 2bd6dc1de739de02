-- What demand 3 rests on: a run of an accepted, started agreement keeps to the invariant through every list of
-- readings,
-- and what it does with one more reading, whatever its bytes. Main theorems: `start_inv`, `after_inv`, `step_taken`,
-- `step_eleven`, `step_shows`, `step_stays`, `step_moves`.
use mathlib.Core.Bool.{Bool, false, not, true}
use mathlib.Core.List.{List, [], ◌∷◌}
use mathlib.Core.Logic.{inl, inr, ◌↔◌, ◌≢◌, ◌⊎◌}
use mathlib.Core.Option.{Option, none, some}
use mathlib.Core.Path.{ap, refl, subst, sym, ◌∙◌, ◌≡◌}
use Prim.Native.Nat.{◌<◌, ◌^◌, suc, zero, ℕ, ◌≤◌}
use native.Mathlib.Omega.{arith}
use lib.Dec.{T, ltb→lt, nltb→le}
use lib.IntN.{pos}
use lib.ListN.{drop, length}
use Rattle.csl.specs.Lists.{◌>>=◌, all, at}
use Rattle.csl.specs.Parties.{subset}
use Rattle.csl.specs.Syntax.{Agreement, Clause, Join, Template, and, bad_clause, choice, fulfilled, if, instance, join}
use Rattle.csl.specs.Syntax.{obligation, or}
use Rattle.csl.specs.Check.{accepted, checked}
use Rattle.csl.specs.Values.{Val, eval_bool, evals}
use Rattle.csl.specs.Outcomes.{Outcome, Sight, breach, done, join_both, join_either, joined, or_stuck, running, stuck}
use Rattle.csl.specs.Rules.{Reading, activate, activating, blamed_all, during, walk, walk_in}
use Rattle.csl.specs.Run.{Stepped, kept, started, step, too_many}
use Rattle.csl.specs.Table.{Run, head_cells, nat_cells, padded, stand_for, table_of}
use Rattle.csl.specs.Demand3.{AllBytes, Bytes, IsBreach, NotStuck, Unaltered, fitting, needed, reached, run_after}
use Rattle.csl.specs.Marks.{time_in}
use Rattle.laws.proofs.Options.{some_none, some_inj}
use Rattle.soundness.proofs.Members.{In, Sub, stand_in}
use Rattle.soundness.proofs.Evaluation.{HaveTy}
use Rattle.soundness.proofs.Good.{Good, good_sub}
use Rattle.soundness.proofs.Walks.{blamed_constant, stands_blamed}
use Rattle.soundness.proofs.Activation.{activate_good}
use Rattle.soundness.proofs.Readings.{fitting_time, start_lt}
use Rattle.soundness.proofs.Runs.{CaseOf, InvOf, Since, taken, breach_ok, case_of, backward, few_mains, final}
use Rattle.soundness.proofs.Runs.{is_fair}
use Rattle.soundness.proofs.Runs.{is_passed, many, misfit, not_stuck, reached_good, run_at, step_inv, stepped}
use Rattle.soundness.proofs.Runs.{too_many_is}
use Rattle.soundness.proofs.Moved.{moved_no, moved_yes}

-- ---- one more reading
module _ (a : Agreement) (q : Run) (r : List ℕ) where
  abbrev next : Stepped
  next = step a q r

  -- the reading fits, is not earlier than the last, and what it reaches needs so many units
  abbrev Fits : (ℕ → Type 0) → Type 0
  Fits P = (d : Reading) × (fitting a r ≡ some d) × (q.last_time ≤ d.time) × P (needed (reached a q.outcome d))

  same_reading : (d d' : Reading) → fitting a r ≡ some d → fitting a r ≡ some d' → d ≡ d'
  same_reading d d' e f = some_inj (sym e ∙ f)

  -- a reading is one reading
  fits_only : (P : ℕ → Type 0) (d : Reading) → fitting a r ≡ some d → Fits P
      → (q.last_time ≤ d.time) × P (needed (reached a q.outcome d))
  fits_only P d f h = subst (λ x. (q.last_time ≤ x.time) × P (needed (reached a q.outcome x)))
      (same_reading h.0 d h.1 f) (h.2, h.3)

  numbered : (k n : ℕ) (p : Run) → next ≡ stepped n p → next.number ≡ k → n ≡ k
  numbered k n p e z = sym (ap (λ s. s.number) e) ∙ z

  -- 8 and 9 are neither 0 nor 11
  eight_or_nine : (n k : ℕ) → (n ≡ 8) ⊎ (n ≡ 9) → n ≡ k → (k ≡ 0) ⊎ (k ≡ 11) → ⊥
  eight_or_nine n k (inl p) q (inl s) = omega arith
  eight_or_nine n k (inl p) q (inr s) = omega arith
  eight_or_nine n k (inr p) q (inl s) = omega arith
  eight_or_nine n k (inr p) q (inr s) = omega arith

  -- 0 if and only if it fits, is not earlier and needs at most 128 units
  pub step_taken : CaseOf a q r → (next.number ≡ 0) ↔ Fits (λ n. n ≤ 128)
  step_taken (misfit n w f e) = (
    λ z. absurd (eight_or_nine n 0 w (numbered 0 n _ e z) (inl refl)),
    λ h. some_none f h.1,
  )
  step_taken (backward d f lt e) = (
    λ z. let q : ◌≡◌ {A = ℕ} 10 0 = numbered 0 10 _ e z in absurd (omega arith),
    λ h. let t = fits_only (λ n. n ≤ 128) d f h in absurd (omega (arith, t.0)),
  )
  step_taken (many d f le nd e) = (
    λ z. let q : ◌≡◌ {A = ℕ} 11 0 = numbered 0 11 _ e z in absurd (omega arith),
    λ h. let t = fits_only (λ n. n ≤ 128) d f h in absurd (omega (arith, t.1)),
  )
  step_taken (taken d f le nd nb ok lt e) = (λ z. (d, f, le, nd), λ h. ap (λ s. s.number) e)
  step_taken (final d f le ib nd e) = (λ z. (d, f, le, nd), λ h. ap (λ s. s.number) e)

  -- 11 if and only if it fits, is not earlier and needs more
  pub step_eleven : CaseOf a q r → (next.number ≡ 11) ↔ Fits (λ n. 128 < n)
  step_eleven (misfit n w f e) = (
    λ z. absurd (eight_or_nine n 11 w (numbered 11 n _ e z) (inr refl)),
    λ h. some_none f h.1,
  )
  step_eleven (backward d f lt e) = (
    λ z. let q : ◌≡◌ {A = ℕ} 10 11 = numbered 11 10 _ e z in absurd (omega arith),
    λ h. let t = fits_only (λ n. 128 < n) d f h in absurd (omega (arith, t.0)),
  )
  step_eleven (many d f le nd e) = (λ z. (d, f, le, nd), λ h. ap (λ s. s.number) e)
  step_eleven (taken d f le nd nb ok lt e) = (
    λ z. let q : ◌≡◌ {A = ℕ} 0 11 = numbered 11 0 _ e z in absurd (omega arith),
    λ h. let t = fits_only (λ n. 128 < n) d f h in absurd (omega (arith, t.1)),
  )
  step_eleven (final d f le ib nd e) = (
    λ z. let q : ◌≡◌ {A = ℕ} 0 11 = numbered 11 0 _ e z in absurd (omega arith),
    λ h. let t = fits_only (λ n. 128 < n) d f h in absurd (omega (arith, t.1)),
  )

  -- a refusal changes nothing
  pub step_refused : CaseOf a q r → next.number ≢ 0 → next.run ≡ q
  step_refused (misfit n w f e) nz = ap (λ s. s.run) e
  step_refused (backward d f lt e) nz = ap (λ s. s.run) e
  step_refused (many d f le nd e) nz = ap (λ s. s.run) e
  step_refused (taken d f le nd nb ok lt e) nz = absurd (nz (ap (λ s. s.number) e))
  step_refused (final d f le ib nd e) nz = ap (λ s. s.run) e

  -- nor does anything after a breach
  pub step_final : CaseOf a q r → IsBreach q.outcome → next.run ≡ q
  step_final (misfit n w f e) b = ap (λ s. s.run) e
  step_final (backward d f lt e) b = ap (λ s. s.run) e
  step_final (many d f le nd e) b = ap (λ s. s.run) e
  step_final (taken d f le nd nb ok lt e) b = absurd (nb b)
  step_final (final d f le ib nd e) b = ap (λ s. s.run) e

  -- ---- when it last moved
  unmoved : {p : Run} → p ≡ q → Unaltered (table_of q) (table_of p)
  unfolding Unaltered
  unmoved e = (ap (λ p. at (table_of p) 0) (sym e), ap (λ p. drop 8 (table_of p)) (sym e))

  -- where neither a unit cell nor the state cell holds another number it stays
  pub step_stays : CaseOf a q r → Unaltered (table_of q) (table_of next.run)
      → next.run.last_moved ≡ q.last_moved
  step_stays (misfit n w f e) u = ap (λ s. s.run.last_moved) e
  step_stays (backward d f lt e) u = ap (λ s. s.run.last_moved) e
  step_stays (many d f le nd e) u = ap (λ s. s.run.last_moved) e
  step_stays (taken d f le nd nb ok lt e) u = ap (λ s. s.run.last_moved) e
      ∙ moved_no q.last_time q.last_moved q.outcome d.time (reached a q.outcome d)
      (subst (λ s. Unaltered (table_of q) (table_of s.run)) e u)
  step_stays (final d f le ib nd e) u = ap (λ s. s.run.last_moved) e

  -- and where one does it is the reading's time
  pub step_moves : CaseOf a q r → (Unaltered (table_of q) (table_of next.run) → ⊥)
      → next.run.last_moved ≡ time_in r
  step_moves (misfit n w f e) h = absurd (h (unmoved (ap (λ s. s.run) e)))
  step_moves (backward d f lt e) h = absurd (h (unmoved (ap (λ s. s.run) e)))
  step_moves (many d f le nd e) h = absurd (h (unmoved (ap (λ s. s.run) e)))
  step_moves (taken d f le nd nb ok lt e) h = ap (λ s. s.run.last_moved) e
      ∙ moved_yes q.last_time q.last_moved q.outcome d.time (reached a q.outcome d)
      (subst (λ s. Unaltered (table_of q) (table_of s.run) → ⊥) e h) ∙ fitting_time a r d f
  step_moves (final d f le ib nd e) h = absurd (h (unmoved (ap (λ s. s.run) e)))

-- its cell
pub moved_cell_lem : (q : Run) → NotStuck q.outcome → at (table_of q) 5 ≡ some (pos q.last_moved)
moved_cell_lem q = go q.last_time q.last_moved q.outcome
  where
    go : (t m : ℕ) (o : Outcome) → NotStuck o → at (table_of (run_at t m o)) 5 ≡ some (pos m)
    go t m done ns = unfold table_of padded head_cells nat_cells at in refl
    go t m (breach u ps) ns = unfold table_of padded head_cells nat_cells at in refl
    go t m (running res) ns = unfold table_of padded head_cells nat_cells at in refl
    go t m stuck ns = unfold NotStuck in absurd ns

-- ---- a start shows no breach: what is activated waits or is fulfilled
Unbreached : Outcome → Type 0
Unbreached o = IsBreach o → ⊥

joined_unbreached : (j : Join) (l r : Outcome) → Unbreached l → Unbreached r → Unbreached (joined j l r)
unfolding Unbreached IsBreach joined join_both join_either
joined_unbreached and done r h g = g
joined_unbreached and (breach t ps) r h g = absurd (h tt)
joined_unbreached and (running l) done h g = λ b. b
joined_unbreached and (running l) (breach u qs) h g = absurd (g tt)
joined_unbreached and (running l) (running r) h g = λ b. b
joined_unbreached and (running l) stuck h g = λ b. b
joined_unbreached and stuck r h g = λ b. b
joined_unbreached or done done h g = λ b. b
joined_unbreached or done (breach u qs) h g = λ b. b
joined_unbreached or done (running r) h g = λ b. b
joined_unbreached or done stuck h g = λ b. b
joined_unbreached or (breach t ps) r h g = absurd (h tt)
joined_unbreached or (running l) done h g = λ b. b
joined_unbreached or (running l) (breach u qs) h g = λ b. b
joined_unbreached or (running l) (running r) h g = λ b. b
joined_unbreached or (running l) stuck h g = λ b. b
joined_unbreached or stuck r h g = λ b. b

unbreached_bind : {A : Type 0} (m : Option A) (f : A → Option Outcome) → ((x : A) → Unbreached (or_stuck (f x)))
    → Unbreached (or_stuck (m >>= f))
unfolding ◌>>=◌ or_stuck Unbreached IsBreach
unbreached_bind none f h = λ b. b
unbreached_bind (some x) f h = h x

module _ (un : ℕ → List Val → List ℕ → ℕ → Outcome)
    (uq : (k : ℕ) (vs : List Val) (ps : List ℕ) (a : ℕ) → Unbreached (un k vs ps a)) where
  walk_unbreached : (c : Clause) (e : Sight) (a : ℕ) → Unbreached (walk activating un c e a)
  unfolding walk activating or_stuck Unbreached IsBreach
  walk_unbreached fulfilled e a = λ b. b
  walk_unbreached (obligation b w t) e a = λ b. b
  walk_unbreached (choice w t f) e a = λ b. b
  walk_unbreached (if x t f) e a = unbreached_bind (eval_bool e.values x) _
      (side (walk_unbreached t e a) (walk_unbreached f e a))
    where
      side : Unbreached (walk activating un t e a) → Unbreached (walk activating un f e a) → (b : Bool)
          → Unbreached (or_stuck (elim b [
            | true ↦ some (walk activating un t e a)
            | false ↦ some (walk activating un f e a)
          ]))
      side h g true = h
      side h g false = g
  walk_unbreached (join j t f) e a = joined_unbreached j (walk activating un t e a) (walk activating un f e a)
      (walk_unbreached t e a) (walk_unbreached f e a)
  walk_unbreached (instance k es bs) e a = unbreached_bind (evals e.values es) _ λ vs. unbreached_bind
      (blamed_all e.params bs) _ λ ps. uq k vs ps a
  walk_unbreached bad_clause e a = λ b. b

walk_in_unbreached : (ts : List Template) (n : ℕ) (c : Clause) (e : Sight) (a : ℕ)
    → Unbreached (walk_in activating ts n c e a)
unfolding walk_in Unbreached IsBreach or_stuck
walk_in_unbreached ts zero = walk_unbreached _ (λ k vs ps a b. b)
walk_in_unbreached ts (suc n) = walk_unbreached _
    (λ k vs ps a. unbreached_bind (at ts k) _
    (λ t. walk_in_unbreached ts n t.body (record { params = ps; values = vs }) a))

-- ---- a checked agreement
module _ (bytes : List ℕ) (a : Agreement) (mains : List ℕ) (ck : checked bytes ≡ accepted a mains) where
  abbrev Sound : Run → Type 0
  Sound q = InvOf bytes a mains ck q

  -- a breach that a reading makes: by some parties, all the main clause's, at a time from the start to that reading
  pub step_shows : (q : Run) (r : List ℕ) → Sound q → (IsBreach q.outcome → ⊥) → (t : ℕ) (ps : List ℕ)
      → (step a q r).run.outcome ≡ breach t ps
      → (d : Reading) × (fitting a r ≡ some d) × (ps ≢ []) × T (subset ps mains) × (a.start ≤ t) × (t ≤ d.time)
  unfolding IsBreach
  step_shows q r i nb t ps b = go (case_of a q r
      (not_stuck a mains q.last_time q.outcome i.good))
    where
      unmoved : (n : ℕ) → step a q r ≡ stepped n q → ⊥
      unmoved n e = nb (subst IsBreach (sym (sym (ap (λ s. s.run.outcome) e) ∙ b)) tt)

      go : CaseOf a q r
          → (d : Reading) × (fitting a r ≡ some d) × (ps ≢ []) × T (subset ps mains) × (a.start ≤ t) × (t ≤ d.time)
      go (misfit n w f e) = absurd (unmoved n e)
      go (backward d f lt e) = absurd (unmoved 10 e)
      go (many d f le nd e) = absurd (unmoved 11 e)
      go (taken d f le nd nb' ok lt e) =
          let reaches : reached a q.outcome d ≡ breach t ps = sym (ap (λ s. s.run.outcome) e) ∙ b in
          let k = breach_ok a mains d.time t ps
          (subst (Good a (Since a d.time) mains) reaches
          (reached_good bytes a mains ck q.last_time q.last_moved q.outcome d le ok nb i)) in
          (d, f, k.0, k.1, k.2, k.3)
      go (final d f le ib nd e) = absurd (nb ib)

  -- ---- the start
  abbrev pub first : Outcome
  first = activate a.templates a.main (record { params = []; values = [] }) a.start

  mains_stand : Sub (stand_for [] mains) mains
  unfolding Sub
  mains_stand x i = let r = stand_in [] mains x i in
      subst (λ z. In z mains) (sym (r.2 ∙ stands_blamed [] r.0 r.0
      (blamed_constant [] r.0 (omega (arith, few_mains bytes a mains ck r.0 r.1))))) r.1

  pub first_good : Good a (Since a a.start) mains first
  unfolding HaveTy all
  first_good = good_sub a (Since a a.start) (stand_for [] mains) mains first mains_stand
      (activate_good a mains (is_fair bytes a mains ck) (Since a a.start) a.main 0 []
      (record { params = []; values = [] }) a.start mains
      (record { count = refl; few_params = omega arith; range = tt; values = tt }) (omega arith, omega arith)
      (is_fair bytes a mains ck).main (is_fair bytes a mains ck).main_placed)

  abbrev begun : Run
  begun = run_at a.start a.start first

  choose : Bool → Stepped
  choose b = elim b [ true ↦ stepped 11 begun | false ↦ stepped 0 begun ]

  -- whatever its number
  pub started_run : (started a).run ≡ begun
  unfolding started kept choose
  started_run = go (too_many first)
    where
      go : (b : Bool) → (choose b).run ≡ begun
      go true = refl
      go false = refl

  pub start_small : needed first ≤ 128 → (started a).number ≡ 0
  unfolding started kept choose
  start_small h = go (too_many first) refl
    where
      go : (b : Bool) → too_many first ≡ b → (choose b).number ≡ 0
      go true e = absurd (omega (arith, ltb→lt 128 (needed first) (subst T (sym e ∙ too_many_is first) tt)))
      go false e = refl

  pub start_inv_soon : a.start < 2 ^ 32 → (started a).number ≡ 0 → Sound (started a).run
  unfolding started kept choose
  start_inv_soon soon h = go (too_many first) refl h
    where
      go : (b : Bool) → too_many first ≡ b → (choose b).number ≡ 0 → Sound (choose b).run
      go true e q = absurd (omega arith)
      go false e q = record {
        from = omega arith;
        to = omega arith;
        fits = soon;
        good = first_good;
        small = nltb→le 128 (needed first) (subst (λ b. T (not b)) (sym e ∙ too_many_is first) tt);
      }

  pub start_inv : Bytes bytes → (started a).number ≡ 0 → Sound (started a).run
  start_inv hb = start_inv_soon (start_lt bytes a hb (is_passed bytes a mains ck).decodes)

  first_unbreached : Unbreached first
  unfolding activate during
  first_unbreached = walk_in_unbreached a.templates (length a.templates) a.main _ a.start

  pub start_unbreached : IsBreach (started a).run.outcome → ⊥
  unfolding Unbreached
  start_unbreached = subst (λ q. IsBreach q.outcome → ⊥) (sym started_run) first_unbreached

  pub start_moved : (started a).run.last_moved ≡ a.start
  start_moved = ap (λ q. q.last_moved) started_run

  -- ---- every list of readings, whatever their bytes
  pub after_inv : (q : Run) (rs : List (List ℕ)) → AllBytes rs → Sound q → Sound (run_after a q rs)
  unfolding run_after AllBytes
  after_inv q [] h i = i
  after_inv q (r ∷ rs) h i = after_inv (step a q r).run rs h.1
      (step_inv bytes a mains ck q r h.0 i)
