-- Paper 02, No. 7: "Show that no residue reached from a sized agreement's start passes the main clause's need, so 11
-- never occurs from there": activating the main clause gives no more than its need, no reading gives more than was
-- needed before it, and no residue has more units than it needs.
use mathlib.Core.Bool.{true, ◌&&◌}
use mathlib.Core.List.{List, [], ◌∷◌}
use mathlib.Core.Logic.{◌≢◌}
use mathlib.Core.Path.{subst, sym, ◌≡◌}
use Prim.Native.Nat.{ℕ, ◌≤◌}
use native.Mathlib.Omega.{arith}
use lib.Dec.{T, leb, leb→le}
use Rattle.csl.specs.Lists.{all}
use Rattle.csl.specs.Syntax.{Agreement}
use Rattle.csl.specs.Sizes.{body_fits, fits, main_need, sized, units_of}
use Rattle.csl.specs.Check.{accepted, checked}
use Rattle.csl.specs.Outcomes.{Outcome, breach, done, running, stuck}
use Rattle.csl.specs.Needs.{outcome_need}
use Rattle.csl.specs.Rules.{Reading}
use Rattle.csl.specs.Run.{Stepped, started, step}
use Rattle.csl.specs.Table.{Run}
use Rattle.csl.specs.Demand3.{AllBytes, Bytes, IsBreach, needed, reached, run_after}
use Rattle.laws.proofs.Bools.{T-left, T-right, elim_true}
use Rattle.soundness.proofs.Good.{Good}
use Rattle.soundness.proofs.Readings.{fitting_ok}
use Rattle.soundness.proofs.Following.{ReadingOk}
use Rattle.soundness.proofs.Runs.{CaseOf, Inv, InvOf, Since, backward, case_of, final, is_fair, is_passed, many}
use Rattle.soundness.proofs.Runs.{misfit, not_stuck, reached_good, step_inv, taken}
use Rattle.soundness.proofs.Demand3.{after_inv, first, first_good, start_inv, start_small, started_run, step_eleven}
use Rattle.soundness.proofs.Needs.{activate_need, follow_need, units_need}

module _ (bytes : List ℕ) (a : Agreement) (mains : List ℕ) (ck : checked bytes ≡ accepted a mains)
    (sz : sized a ≡ true) where
  -- ---- 15 does not apply
  fitted : T (leb (main_need a) 128 && all (body_fits (units_of a.templates)) a.templates)
  unfolding fits
  fitted = subst T (elim_true (sized a) _ true sz) (is_passed bytes a mains ck).fits

  bodies_fit : T (all (body_fits (units_of a.templates)) a.templates)
  bodies_fit = T-right (leb (main_need a) 128) _ fitted

  pub main_small : main_need a ≤ 128
  main_small = leb→le (main_need a) 128 (T-left (leb (main_need a) 128) _ fitted)

  -- ---- an outcome: its units, and what one more reading reaches
  good_units : (W : ℕ → Type 0) (o : Outcome) → Good a W mains o → needed o ≤ outcome_need a o
  unfolding Good needed outcome_need
  good_units W done g = omega arith
  good_units W (breach t ps) g = omega arith
  good_units W (running r) g = units_need a W r g.0 g.1
  good_units W stuck g = absurd g

  reached_need : (o : Outcome) (d : Reading) → outcome_need a (reached a o d) ≤ outcome_need a o
  unfolding reached outcome_need
  reached_need done d = omega arith
  reached_need (breach t ps) d = omega arith
  reached_need (running r) d = follow_need a mains (is_fair bytes a mains ck) bodies_fit d r
  reached_need stuck d = omega arith

  reached_units : (t m : ℕ) (o : Outcome) (d : Reading) → t ≤ d.time → ReadingOk a d → Inv a mains t m o
      → needed (reached a o d) ≤ outcome_need a o
  unfolding reached needed outcome_need IsBreach
  reached_units t m done d le ok i = omega arith
  reached_units t m (breach u ps) d le ok i = omega arith
  reached_units t m (running r) d le ok i = omega (
    arith,
    good_units (Since a d.time) (reached a (running r) d)
        (reached_good bytes a mains ck t m (running r) d le ok (λ b. b) i),
    reached_need (running r) d,
  )
  reached_units t m stuck d le ok i = omega arith

  -- ---- a run
  abbrev Sound : Run → Type 0
  Sound q = InvOf bytes a mains ck q

  case_at : (q : Run) (r : List ℕ) → Sound q → CaseOf a q r
  case_at q r i = case_of a q r (not_stuck a mains q.last_time q.outcome i.good)

  -- what a step leads to needs no more than what it began with
  abbrev Falls : Run → Stepped → Type 0
  Falls q s = outcome_need a s.run.outcome ≤ outcome_need a q.outcome

  step_falls : (q : Run) (r : List ℕ) → Sound q → Falls q (step a q r)
  step_falls q r i = go (case_at q r i)
    where
      go : CaseOf a q r → Falls q (step a q r)
      go (misfit n w f e) = subst (Falls q) (sym e) (omega arith)
      go (backward d f lt e) = subst (Falls q) (sym e) (omega arith)
      go (many d f le nd e) = subst (Falls q) (sym e) (omega arith)
      go (taken d f le nd nb ok lt e) = subst (Falls q) (sym e) (reached_need q.outcome d)
      go (final d f le ib nd e) = subst (Falls q) (sym e) (omega arith)

  not_eleven : (q : Run) (r : List ℕ) → Sound q → outcome_need a q.outcome ≤ main_need a → (step a q r).number ≢ 11
  not_eleven q r i h z =
      let x = (step_eleven a q r (case_at q r i)).0 z in
      absurd (omega (
        arith,
        x.3,
        reached_units q.last_time q.last_moved q.outcome x.0 x.2 (fitting_ok a r x.0 x.1) i,
        main_small,
      ))

  run_need : (q : Run) (rs : List (List ℕ)) → AllBytes rs → Sound q
      → outcome_need a (run_after a q rs).outcome ≤ outcome_need a q.outcome
  unfolding run_after AllBytes
  run_need q [] h i = omega arith
  run_need q (r ∷ rs) h i = omega (
    arith,
    run_need (step a q r).run rs h.1 (step_inv bytes a mains ck q r h.0 i),
    step_falls q r i,
  )

  -- ---- the start
  first_need : outcome_need a (first bytes a mains ck) ≤ main_need a
  unfolding main_need
  first_need =
      let fair = is_fair bytes a mains ck in
      activate_need a mains fair bodies_fit a.main 0 [] (record { params = []; values = [] }) a.start fair.main_placed

  -- "so 11 never occurs from there": not at the start
  pub start_fits : (started a).number ≡ 0
  start_fits = start_small bytes a mains ck (omega (
    arith,
    good_units (Since a a.start) (first bytes a mains ck) (first_good bytes a mains ck),
    first_need,
    main_small,
  ))

  -- ---- after every list of readings
  module _ (hb : Bytes bytes) (rs : List (List ℕ)) (hr : AllBytes rs) where
    abbrev now : Run
    now = run_after a (started a).run rs

    begun_sound : Sound (started a).run
    begun_sound = start_inv bytes a mains ck hb start_fits

    now_sound : Sound now
    now_sound = after_inv bytes a mains ck (started a).run rs hr begun_sound

    -- "no residue reached from a sized agreement's start passes the main clause's need"
    pub need_after : outcome_need a now.outcome ≤ main_need a
    need_after =
        let begins : outcome_need a (started a).run.outcome ≤ main_need a
        = subst (λ q. outcome_need a q.outcome ≤ main_need a) (sym (started_run bytes a mains ck)) first_need in
        omega (arith, run_need (started a).run rs hr begun_sound, begins)

    -- nor has it more units than it needs
    pub units_after : needed now.outcome ≤ outcome_need a now.outcome
    units_after = good_units (Since a now.last_time) now.outcome now_sound.good

    -- one more reading never increases the need
    pub need_falls : (r : List ℕ) → outcome_need a (step a now r).run.outcome ≤ outcome_need a now.outcome
    need_falls r = step_falls now r now_sound

    -- nor is its number 11
    pub never_eleven : (r : List ℕ) → (step a now r).number ≢ 11
    never_eleven r = not_eleven now r now_sound need_after
