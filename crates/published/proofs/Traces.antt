-- Along a run by paper 01's rules the letter has a trace over the readings that the run took, and it shows the run's
-- outcome: each reading gives the typed text a residue that corresponds.
use mathlib.Core.List.{List, [], ◌∷◌}
use mathlib.Core.Path.{refl, subst, sym, ◌∙◌, ◌≡◌}
use Prim.Native.Nat.{ℕ, ◌≤◌}
use native.Mathlib.Omega.{arith}
use lib.Dec.{ltb, ltb→lt, lt→ltb}
use Rattle.csl.specs.Lists.{all}
use Rattle.csl.specs.Syntax.{Clause, Agreement}
use Rattle.csl.specs.Check.{accepted, checked}
use Rattle.csl.specs.Outcomes.{Outcome, done, breach, running, stuck}
use Rattle.csl.specs.Rules.{Reading}
use Rattle.laws.proofs.Clash.{impossible}
use Rattle.soundness.proofs.Members.{all_in, in_all}
use Rattle.soundness.proofs.Evaluation.{HaveTy}
use Rattle.soundness.proofs.Walks.{Fair}
use Rattle.soundness.proofs.Following.{ReadingOk}
use Rattle.soundness.proofs.Runs.{is_fair}
use Rattle.published.specs.Fig8.{Activates, Steps, to_breach, to_clause, to_fulfilled, fulfilled_stays}
use Rattle.published.specs.Fig8.{breached_stays, sight_of}
use Rattle.published.specs.Runs.{Runs, run_ends, run_misfit, run_backward, run_over, run_step, taken}
use Rattle.published.specs.Literal.{Concludes, Residual, clause, breached, Trace, trace_ends, trace_step}
use Rattle.published.specs.Literal.{trace_final, SameVerdict}
use Rattle.published.proofs.Residues.{fitting_ok}
use Rattle.published.proofs.Sighted.{Text, closed}
use Rattle.published.proofs.Substitution.{AllSmall, closes, closes_all, put_nothing, to_letter}
use Rattle.published.proofs.Literal.{Alive, Shown, literal_step, s_active, shows_alive, steps_then}
use Rattle.published.proofs.Concluding.{Ahead, concludes_once, finishes_put, shows_ahead, text_finishes}
use Rattle.published.proofs.Letter.{Sound, Typed, t_clause, t_joins, text_gives}

-- a step from what is not breached stands at the reading's time
steps_at : (ag : Agreement) {ε : Reading} {τ u : ℕ} {o q : Outcome} → Steps ag ε τ o u q → Alive o → u ≡ ε.time
steps_at ag (to_breach f) h = refl
steps_at ag (to_clause f) h = refl
steps_at ag (to_fulfilled f) h = refl
steps_at ag fulfilled_stays h = refl
steps_at ag breached_stays h = absurd h

-- a breach is final
steps_final : (ag : Agreement) {ε : Reading} {τ u t : ℕ} {o q : Outcome} (B : List ℕ) → Steps ag ε τ o u q
    → o ≡ breach t B → (u ≡ τ) × (q ≡ breach t B)
steps_final ag B (to_breach f) e = impossible cc
steps_final ag B (to_clause f) e = impossible cc
steps_final ag B (to_fulfilled f) e = impossible cc
steps_final ag B fulfilled_stays e = impossible cc
steps_final ag B breached_stays e = (refl, e)

runs_final : (ag : Agreement) {bs : List (List ℕ)} {t u v : ℕ} {o q : Outcome} (B : List ℕ) → Runs ag t o bs u q
    → o ≡ breach v B → (u ≡ t) × (q ≡ breach v B)
runs_final ag B run_ends e = (refl, e)
runs_final ag B (run_misfit f k) e = runs_final ag B k e
runs_final ag B (run_backward ε f l k) e = runs_final ag B k e
runs_final ag B (run_over ε f l s n k) e = runs_final ag B k e
runs_final ag B (run_step ε f l s n k) e = let x = steps_final ag B s e in let y = runs_final ag B k x.1 in
    (y.0 ∙ x.0, y.1)

module _ (a : Agreement) (mains : List ℕ) (fair : Fair a mains) where
  -- a text that is typed
  abbrev pub Standing : Residual Text → Type 0
  Standing (clause x) = (ps : List ℕ) × Typed a x ps
  Standing (breached t B) = Unit {0}

  standing : (ε : Reading) (rok : ReadingOk a ε) (P : List ℕ) (r : Residual Text) → Sound a mains fair ε rok P r
      → Standing r
  standing ε rok P (clause x) h = (h.0, h.1)
  standing ε rok P (breached t B) h = tt

  -- its parties are below 16, so below 128
  pub typed_small : {x : Text} {ps : List ℕ} → Typed a x ps → AllSmall x
  typed_small (t_clause {s = s} n env bs ok ty) = in_all (λ p. ltb p 128) s.params
      (λ p i. lt→ltb p 128 (omega (
        arith,
        ltb→lt p a.parties
            (all_in (λ x. ltb x a.parties) s.params ok.range p i),
        fair.few,
      )))
  typed_small (t_joins x y ok) = (typed_small x, typed_small y)

  pub along : {bs : List (List ℕ)} {t u : ℕ} {o q : Outcome} (k : Runs a t o bs u q) → a.start ≤ t
      → (r : Residual Text) → Standing r → Shown a t r o
      → (r' : Residual Text) × Trace a.templates t (closes_all r) (taken k) u (closes_all r') × Shown a u r' q
      × Standing r'
  unfolding taken
  along run_ends from r st h = (r, trace_ends, h, st)
  along (run_misfit f k) from r st h = along k from r st h
  along (run_backward ε f l k) from r st h = along k from r st h
  along (run_over ε f l s n k) from r st h = along k from r st h
  along (run_step {τ = t} {τ₁ = t₁} {τ' = u} {o₁ = o₁} {b = b} ε f le s n k) from (clause x) st h =
      let rok = fitting_ok a b ε f in
      let g = text_gives a mains fair ε rok t st.1 (from, le) in
      let now = steps_at a s (shows_alive a h) in
      let shown = literal_step a ε (λ k t e. (fair.templates k t e).placed) o₁ g.1 h le
      (steps_then a ε (λ k t e. (fair.templates k t e).placed) s (shows_alive a h)) in
      let rest = along k (omega arith) g.0 (standing ε rok st.0 g.0 g.2)
      (subst (λ z. Shown a z g.0 o₁) (sym now) shown) in (
        rest.0,
        trace_step le (to_letter a.templates ε (typed_small st.1) g.1)
            (subst (λ z. Trace a.templates z (closes_all g.0) (taken k) u (closes_all rest.0)) now rest.1),
        rest.2,
        rest.3,
      )
  along (run_step {τ = t} ε f le s n k) from (breached v B) st h =
      let x = steps_final a B s h in
      let y = runs_final a B k x.1 in (
        breached v B,
        subst (λ z. Trace a.templates t (breached v B) (ε ∷ taken k) z (breached v B))
            (sym (y.0 ∙ x.0)) trace_final,
        y.1,
        tt,
      )

-- what corresponds has the same verdict
pub same_verdict : (a : Agreement) (u : ℕ) (r : Residual Text) (o : Outcome) → Shown a u r o
    → SameVerdict (closes_all r) o
unfolding SameVerdict
same_verdict a u (breached t B) o h = h
same_verdict a u (clause x) o h = alive o (shows_alive a h)
  where
    alive : (o : Outcome) → Alive o → SameVerdict (closes_all (clause x)) o
    alive done h = tt
    alive (breach t B) h = h
    alive (running r) h = tt
    alive stuck h = h

-- of an accepted agreement, from its start
module _ (bytes : List ℕ) (a : Agreement) (mains : List ℕ) (ck : checked bytes ≡ accepted a mains) where
  abbrev checks : Fair a mains
  checks = is_fair bytes a mains ck

  pub letter_run : {bs : List (List ℕ)} {u : ℕ} {first last : Outcome}
      → Activates a.templates (sight_of [] []) a.start a.main first → (k : Runs a a.start first bs u last)
      → (r : Residual Text) × Trace a.templates a.start (clause a.main) (taken k) u (closes_all r)
      × Shown a u r last × Standing a mains checks r
  unfolding HaveTy all
  letter_run {u = u} act k =
      let begun = t_clause 0 [] mains (record {
        count = refl;
        few_params = omega arith;
        range = tt;
        values = tt;
      }) checks.main in
      let trace = along a mains checks k (omega arith) (clause (closed (sight_of [] []) a.main)) (_, begun)
      (s_active 0 [] act checks.main_placed) in (
        trace.0,
        subst (λ c. Trace a.templates a.start (clause c) (taken k) u (closes_all trace.0))
            (put_nothing a.main) trace.1,
        trace.2,
        trace.3,
      )

  -- the one verdict of what is left, by Fig. 9 to the letter
  pub letter_ends : (u : ℕ) → a.start ≤ u → (r : Residual Text) (o : Outcome) → Standing a mains checks r
      → Shown a u r o → (c : Clause) → closes_all r ≡ clause c
      → (ν : Outcome) × Concludes a.templates u c ν × ((μ : Outcome) → Concludes a.templates u c μ → μ ≡ ν)
      × Ahead a o ν
  letter_ends u from (breached t B) o st h c e = impossible cc
  letter_ends u from (clause x) o st h c e =
      let v = text_finishes a mains checks u st.1 from in
      let same : closes x ≡ c = cc in
      let concluded = subst (λ z. Concludes a.templates u z v.0) same
      (finishes_put a.templates u x v.0 (typed_small a mains checks st.1) v.1) in (
        v.0,
        concluded,
        (λ μ m. concludes_once a.templates m concluded),
        shows_ahead a (λ k t e. (checks.templates k t e).placed) v.0 h v.1,
      )
