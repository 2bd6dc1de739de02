-- What an accepted mark makes of a run and its forecast (`mark_next`), and every list of them: paper 01, "Following a
-- reading".
-- Main theorems: `never`, `not_yet`, `at_once_lem`, `until`, `given`, `frozen`.
use mathlib.Core.List.{List, [], ◌∷◌}
use mathlib.Core.Logic.{inl, inr, ◌≢◌, ◌⊎◌}
use mathlib.Core.Option.{none, some}
use mathlib.Core.Path.{ap, ap₂, refl, subst, sym, ◌∙◌, ◌≡◌}
use Prim.Native.Nat.{◌<◌, suc, zero, ℕ, ◌≤◌}
use native.Mathlib.Omega.{arith}
use lib.Dec.{T}
use lib.IntN.{ℤ}
use Rattle.csl.specs.Lists.{at}
use Rattle.csl.specs.Parties.{bits_of, members, subset}
use Rattle.csl.specs.Syntax.{Agreement}
use Rattle.csl.specs.Check.{accepted, checked, refused}
use Rattle.csl.specs.Outcomes.{Outcome, Residue, breach, done, running, stuck}
use Rattle.csl.specs.Rules.{Reading, follow, forecast}
use Rattle.csl.specs.Run.{Stepped, step}
use Rattle.csl.specs.Table.{Run, head_cells, nat_cells, padded, run_of, table_of}
use Rattle.csl.specs.Entries.{Forecast, breach_at, forecast_of, forecast_run, no_breach, no_forecast}
use Rattle.csl.specs.Entries.{shown, told_of, untold}
use Rattle.csl.specs.Demand3.{AllBytes, Bytes, IsBreach, reached, run_after, told_by}
use Rattle.csl.specs.Marks.{AllTimes, Breached, ForecastFits, IsMark, time_in}
use Rattle.laws.proofs.Options.{some_inj}
use Rattle.laws.proofs.Clash.{impossible}
use Rattle.soundness.proofs.Members.{In, Sub, subset→sub, sub→subset}
use Rattle.soundness.proofs.Good.{Good}
use Rattle.soundness.proofs.Bits.{bits_back, bits_pos, in_members, members_in, same_bits}
use Rattle.soundness.proofs.Readings.{fitting_time}
use Rattle.soundness.proofs.Following.{ReadingOk}
use Rattle.soundness.proofs.Runs.{Alike, CaseOf, Inv, InvOf, Since, taken, breached, case_of, backward}
use Rattle.soundness.proofs.Runs.{few_mains, final, is_fair, many, misfit, not_stuck}
use Rattle.soundness.proofs.Runs.{moved_to, reached_good, read_to, reads, run_at, same, step_inv}
use Rattle.soundness.proofs.Moved.{moved_breach}
use Rattle.soundness.proofs.Demand3.{step_final}
use Rattle.soundness.proofs.Forecasts.{ForecastOk, NotBefore, forecast_ok}
use Rattle.soundness.proofs.Keeps.{Kept, SameForecast, breaks, forecast_kept, fulfils, stuck_after, stuck_before}
use Rattle.soundness.proofs.Keeps.{waits}

-- ---- a run that is not breached, and its forecast
unfoldable pub Stays : Agreement → Forecast → Run → Type 0
Stays a f q = (IsBreach q.outcome → ⊥) × (shown (forecast_run a q) ≡ f)

-- accepted marks, one after another
unfoldable pub Marks : Agreement → Run → List (List ℕ) → Type 0
Marks a q [] = Unit {0}
Marks a q (m ∷ ms) = IsMark a m × ((step a q m).number ≡ 0) × Marks a (step a q m).run ms

-- ---- a forecast f, and the run after an accepted mark: it stays, or the run is breached as foretold
pub data Next (a : Agreement) (f : Forecast) (time : ℕ) (q : Run) : Type 0 where
  -- not later than the forecast time: no breach, and the forecast stays as it was
  stays : ((t b : ℕ) → f ≡ breach_at t b → time ≤ t) → (IsBreach q.outcome → ⊥) → shown (forecast_run a q) ≡ f
      → Next a f time q
  -- not earlier: a breach at the forecast time, by some of the forecast's parties; of a later mark by all of them
  broken : (t b : ℕ) (qs : List ℕ) → f ≡ breach_at t b → t ≤ time → q ≡ run_at time time (breach t qs) → 0 < bits_of qs
      → T (subset (members (bits_of qs)) (members b)) → (t < time → bits_of qs ≡ b) → Next a f time q

-- the time and the parties of a forecast
breach_inj : {t u b c : ℕ} → breach_at t b ≡ breach_at u c → (t ≡ u) × (b ≡ c)
breach_inj e = (cc, cc)

pub none_breach : {t b : ℕ} → no_breach ≡ breach_at t b → ⊥
none_breach e = impossible cc

-- at the very forecast minute: a breach at that time, by some of the forecast's parties
pub record AtOnce (t b : ℕ) (q : Run) : Type 0 where
  pub parties : List ℕ
  pub is : q ≡ run_at t t (breach t parties)
  pub named : 0 < bits_of parties
  pub among : T (subset (members (bits_of parties)) (members b))

-- ---- the state cell of a run's table
pub table_state : (now m : ℕ) (o : Outcome) → Breached (table_of (run_at now m o)) → IsBreach o
unfolding Breached table_of padded head_cells nat_cells at IsBreach
table_state now m done b = impossible cc
table_state now m (breach t ps) b = tt
table_state now m (running r) b = impossible cc
table_state now m stuck b = impossible cc

pub breach_state : (q : Run) → IsBreach q.outcome → Breached (table_of q)
breach_state q = go q.last_time q.last_moved q.outcome
  where
    go : (now m : ℕ) (o : Outcome) → IsBreach o → Breached (table_of (run_at now m o))
    go now m done b = unfold IsBreach in absurd b
    go now m (breach t ps) b = unfold Breached table_of padded head_cells nat_cells at in refl
    go now m (running r) b = unfold IsBreach in absurd b
    go now m stuck b = unfold IsBreach in absurd b

-- ---- of a checked agreement
module _ (bytes : List ℕ) (a : Agreement) (mains : List ℕ) (ck : checked bytes ≡ accepted a mains) where
  abbrev Sound : Run → Type 0
  Sound q = InvOf bytes a mains ck q

  waits_next : (f : Outcome) (res : Residue) (time m : ℕ) → NotBefore time f → SameForecast f (forecast a res)
      → Next a (shown f) time (run_at time m (running res))
  unfolding NotBefore SameForecast shown forecast_run IsBreach bits_of
  waits_next done res time m n h = stays (λ t b e. absurd (none_breach e)) (λ b. b) (ap shown h)
  waits_next (breach t ps) res time m n h = stays (λ u b e. omega (arith, (breach_inj e).0)) (λ b. b)
      (ap shown h.1 ∙ ap (breach_at t) (same_bits 16 0 h.0 ps h.3 h.2))
  waits_next (running s) res time m n h = absurd h
  waits_next stuck res time m n h = absurd h

  -- what is kept of a forecast that is not stuck, by an outcome that is not; the run moves with a breach
  kept_next : (f o : Outcome) (time m : ℕ) → Kept a time f o → ForecastOk a mains f → Good a (Since a time) mains o
      → ((t : ℕ) (ps : List ℕ) → o ≡ breach t ps → m ≡ time) → Next a (shown f) time (run_at time m o)
  unfolding ForecastOk Good shown forecast_run IsBreach bits_of members Sub
  kept_next f o time m fulfils k g mv = stays (λ t b e. absurd (none_breach e)) (λ b. b) refl
  kept_next f o time m (waits f' res n h) k g mv = waits_next f' res time m n h
  kept_next f o time m (breaks t ps qs le sub eq) k g mv =
      let few : (x : ℕ) → In x qs → x < 16 = λ x i. few_mains bytes a mains ck x (g.2 x i) in
      broken t (bits_of ps) qs refl le (ap (λ k. run_at time k (breach t qs)) (mv t qs refl))
      (bits_pos 16 0 qs g.0 g.1 (omega arith) (omega (arith, few g.0 g.1)))
      (sub→subset (members (bits_of qs)) (members (bits_of ps))
      (λ x i. let j = members_in 16 0 qs x i in
      in_members 16 0 ps x (sub x j) (omega arith) (omega (arith, few x j))))
      (λ lt. ap bits_of (eq lt))
  kept_next f o time m (stuck_before o') k g mv = absurd k
  kept_next f o time m (stuck_after f') k g mv = absurd g

  reached_next : (now m : ℕ) (o : Outcome) (d : Reading) → Inv a mains now m o → (IsBreach o → ⊥) → d.type ≡ 0
      → now ≤ d.time → ReadingOk a d
      → Next a (shown (forecast_run a (run_at now m o))) d.time (read_to now m o d.time (reached a o d))
  unfolding reached forecast_run shown IsBreach Good
  reached_next now m done d i nb mark le ok = stays (λ t b e. absurd (none_breach e)) (λ b. b) refl
  reached_next now m (breach t ps) d i nb mark le ok = absurd (nb tt)
  reached_next now m (running res) d i nb mark le ok =
      kept_next (forecast a res) (follow a d res) d.time (moved_to now m (running res) d.time (follow a d res))
      (forecast_kept a mains (is_fair bytes a mains ck) d mark now le res i.good.0 i.good.1)
      (forecast_ok a mains (is_fair bytes a mains ck) now res i.good.0 i.good.1 i.good.2)
      (reached_good bytes a mains ck now m (running res) d le ok nb i)
      (λ t ps e. ap (moved_to now m (running res) d.time) e ∙ moved_breach now m res d.time t ps)
  reached_next now m stuck d i nb mark le ok = absurd i.good

  case_at : (q : Run) (bs : List ℕ) → Sound q → CaseOf a q bs
  case_at q bs i = case_of a q bs (not_stuck a mains q.last_time q.outcome i.good)

  -- ---- one accepted mark
  mark_next : (f : Forecast) (q : Run) (m : List ℕ) → Sound q → Stays a f q → IsMark a m → (step a q m).number ≡ 0
      → Next a f (time_in m) (step a q m).run
  unfolding IsMark Stays
  mark_next f q m i s mk z = go (case_at q m i)
    where
      go : CaseOf a q m → Next a f (time_in m) (step a q m).run
      go (misfit n w g e) = impossible cc
      go (backward d g lt e) = let n : ◌≡◌ {A = ℕ} 10 0 = sym (ap (λ s. s.number) e) ∙ z in absurd (omega arith)
      go (many d g le nd e) = let n : ◌≡◌ {A = ℕ} 11 0 = sym (ap (λ s. s.number) e) ∙ z in absurd (omega arith)
      go (taken d g le nd nb ok lt e) =
          let type : d.type ≡ 0 = ap (λ x. x.type) (some_inj (sym g ∙ mk.1)) ∙ mk.2 in
          subst (λ f. Next a f (time_in m) (step a q m).run) s.1
          (subst (Next a (shown (forecast_run a q)) (time_in m)) (sym (ap (λ s. s.run) e))
          (subst (λ t. Next a (shown (forecast_run a q)) t
          (read_to q.last_time q.last_moved q.outcome d.time (reached a q.outcome d)))
          (fitting_time a m d g) (reached_next q.last_time q.last_moved q.outcome d i nb type le ok)))
      go (final d g le ib nd e) = absurd (s.0 ib)

  -- ---- every list of accepted marks
  -- after a breach none alters the run
  pub frozen : (q : Run) (ms : List (List ℕ)) → Sound q → IsBreach q.outcome → run_after a q ms ≡ q
  unfolding run_after
  frozen q [] i b = refl
  frozen q (m ∷ ms) i b = ap (λ r. run_after a r ms) (step_final a q m (case_at q m i) b)
      ∙ frozen q ms i b

  next_fine : (q : Run) (m : List ℕ) → Bytes m → Sound q → Sound (step a q m).run
  next_fine q m h i = step_inv bytes a mains ck q m h i

  -- the run after accepted marks: not breached, with the forecast as it was, or what a breach as foretold gives; C is
  -- what is known of the marks' times
  ends : (f : Forecast) (C : ℕ → Type 0) (R : Run → Type 0)
      → ((time t b : ℕ) (qs : List ℕ) → C time → f ≡ breach_at t b → t ≤ time → 0 < bits_of qs
      → T (subset (members (bits_of qs)) (members b)) → (t < time → bits_of qs ≡ b)
      → R (run_at time time (breach t qs)))
      → (q : Run) (ms : List (List ℕ)) → AllBytes ms → Sound q → Stays a f q → Marks a q ms → AllTimes C ms
      → Stays a f (run_after a q ms) ⊎ R (run_after a q ms)
  unfolding AllBytes run_after Marks AllTimes Stays
  ends f C R k q [] h i s mk c = inl s
  ends f C R k q (m ∷ ms) h i s mk c = go (mark_next f q m i s mk.0 mk.1)
      (λ s'. ends f C R k (step a q m).run ms h.1 (next_fine q m h.0 i) s' mk.2 c.1)
    where
      go : Next a f (time_in m) (step a q m).run
          → (Stays a f (step a q m).run → Stays a f (run_after a (step a q m).run ms) ⊎ R
          (run_after a (step a q m).run ms))
          → Stays a f (run_after a (step a q m).run ms) ⊎ R (run_after a (step a q m).run ms)
      go (stays n nb e) ih = ih (nb, e)
      go (broken t b qs e le is pos sub all) ih = inr
          (subst R (sym (frozen (step a q m).run ms (next_fine q m h.0 i)
          (subst (λ r. IsBreach r.outcome) (sym is) (unfold IsBreach in tt)) ∙ is))
          (k (time_in m) t b qs c.0 e le pos sub all))

  all_any : (ms : List (List ℕ)) → AllTimes (λ _. Unit {0}) ms
  unfolding AllTimes
  all_any [] = tt
  all_any (m ∷ ms) = (tt, all_any ms)

  only : {A : Type 0} → A ⊎ ⊥ → A
  only (inl x) = x
  only (inr x) = absurd x

  module _ (q : Run) (ms : List (List ℕ)) (h : AllBytes ms) (i : Sound q) (mk : Marks a q ms) where
    -- "with forecast none, no mark breaches"
    pub never : Stays a no_breach q → Stays a no_breach (run_after a q ms)
    never s = only (ends no_breach (λ _. Unit {0}) (λ _. ⊥) (λ time t b qs c e le pos sub all. none_breach e) q ms h i
        s mk (all_any ms))

    -- while they are earlier than the forecast time, none breaches
    pub not_yet : (t b : ℕ) → Stays a (breach_at t b) q → AllTimes (λ time. time < t) ms
        → Stays a (breach_at t b) (run_after a q ms)
    not_yet t b s c = only (ends (breach_at t b) (λ time. time < t) (λ _. ⊥)
        (λ time u b' qs lt e le pos sub all. omega (arith, (breach_inj e).0)) q ms h i s mk c)

    -- none later than the forecast time: no breach, or one at that time by some of the forecast's parties
    pub at_once_lem : (t b : ℕ) → Stays a (breach_at t b) q → AllTimes (λ time. time ≤ t) ms
        → Stays a (breach_at t b) (run_after a q ms) ⊎ AtOnce t b (run_after a q ms)
    at_once_lem t b s c = ends (breach_at t b) (λ time. time ≤ t) (AtOnce t b) at q ms h i s mk c
      where
        at : (time u b' : ℕ) (qs : List ℕ) → time ≤ t → breach_at t b ≡ breach_at u b' → u ≤ time → 0 < bits_of qs
            → T (subset (members (bits_of qs)) (members b')) → (u < time → bits_of qs ≡ b')
            → AtOnce t b (run_at time time (breach u qs))
        at time u b' qs c e le pos sub all =
            let same = breach_inj e in
            let now : time ≡ t = omega (arith, same.0) in
            record {
              parties = qs;
              is = ap₂ (λ x y. run_at x x (breach y qs)) now (sym same.0);
              named = pos;
              among = subst (λ z. T (subset (members (bits_of qs)) (members z))) (sym same.1) sub;
            }

    -- as long as nothing is breached the forecast stays
    pub until : (f : Forecast) → Stays a f q → (IsBreach (run_after a q ms).outcome → ⊥) → Stays a f (run_after a q ms)
    unfolding IsBreach
    until f s nb = go (ends f (λ _. Unit {0}) (λ r. IsBreach r.outcome) (λ time t b qs c e le pos sub all. tt) q ms
        h i s mk (all_any ms))
      where
        go : Stays a f (run_after a q ms) ⊎ IsBreach (run_after a q ms).outcome → Stays a f (run_after a q ms)
        go (inl x) = x
        go (inr x) = absurd (nb x)

  -- "An accepted mark later than a forecast time gives just that breach"
  pub given : (t b : ℕ) (q : Run) (m : List ℕ) → Sound q → Stays a (breach_at t b) q → IsMark a m
      → (step a q m).number ≡ 0 → t < time_in m
      → (qs : List ℕ) × ((step a q m).run ≡ run_at (time_in m) (time_in m) (breach t qs)) × (bits_of qs ≡ b)
  given t b q m i s mk z lt = go (mark_next (breach_at t b) q m i s mk z)
    where
      go : Next a (breach_at t b) (time_in m) (step a q m).run
          → (qs : List ℕ) × ((step a q m).run ≡ run_at (time_in m) (time_in m) (breach t qs)) × (bits_of qs ≡ b)
      go (stays n nb e) = let c = n t b refl in absurd (omega arith)
      go (broken u c qs e le is pos sub all) = let same = breach_inj e in (
        qs,
        is ∙ ap (λ v. run_at (time_in m) (time_in m) (breach v qs)) (sym same.0),
        all (omega (arith, same.0)) ∙ sym same.1,
      )

  pub forecast_is : (cells : List ℤ) (q : Run) → run_of a mains cells ≡ some q
      → forecast_of bytes cells ≡ shown (forecast_run a q)
  unfolding forecast_of
  forecast_is cells q e =
      ap (λ c. elim c [
        | refused n ↦ no_forecast
        | accepted a ps ↦ elim (run_of a ps cells) [ none ↦ no_forecast | some x ↦ shown (forecast_run a x) ]
      ]) ck
      ∙ ap (λ o. elim o [ none ↦ no_forecast | some x ↦ shown (forecast_run a x) ]) e

  pub run_ok : (now m : ℕ) (o : Outcome) → Inv a mains now m o
      → ForecastOk a mains (forecast_run a (run_at now m o))
  unfolding forecast_run ForecastOk Good In
  run_ok now m done i = tt
  run_ok now m (breach t ps) i = let g = i.good in
      ((λ e. subst (λ l. In g.0 l) e g.1), sub→subset ps mains g.2, g.3.0)
  run_ok now m (running res) i = forecast_ok a mains (is_fair bytes a mains ck) now res i.good.0 i.good.1
      i.good.2
  run_ok now m stuck i = i.good

  pub fits : (o : Outcome) → ForecastOk a mains o → ForecastFits a mains (shown o)
  unfolding ForecastOk ForecastFits shown Sub In bits_of members
  fits done k = tt
  fits (breach t []) k = absurd (k.0 refl)
  fits (breach t (p ∷ ps)) k =
      let sub = subset→sub (p ∷ ps) mains k.1 in (
        bits_pos 16 0 (p ∷ ps) p (inl refl) (omega arith)
            (omega (arith, few_mains bytes a mains ck p (sub p (inl refl)))),
        sub→subset _ mains (λ x h. sub x (members_in 16 0 (p ∷ ps) x h)),
        k.2,
      )
  fits (running r) k = k
  fits stuck k = k

  -- the forecast of a run's table
  pub forecast_shows : (q : Run) → Sound q → forecast_of bytes (table_of q) ≡ shown (forecast_run a q)
  forecast_shows q i =
      let x = reads a mains (few_mains bytes a mains ck) q.last_time q.last_moved q.outcome i in
      forecast_is (table_of q) (run_at q.last_time q.last_moved x.0) x.1
      ∙ alike x.0 q.outcome x.2
    where
      alike : (x o : Outcome) → Alike x o
          → shown (forecast_run a (run_at q.last_time q.last_moved x)) ≡ shown
          (forecast_run a (run_at q.last_time q.last_moved o))
      alike x o (same o') = refl
      alike x o (breached t ps) = unfold forecast_run shown bits_of members in ap (breach_at t) (bits_back 16 0 ps)

  -- what a call tells of the table that a step leaves is what the step tells of its run
  pub told_shows : (x : Stepped) → Sound x.run → told_of bytes x.number (table_of x.run) ≡ told_by a x
  unfolding told_of told_by
  told_shows x i = go x.number
    where
      go : (n : ℕ) → told_of bytes n (table_of x.run)
          ≡ elim n [ zero ↦ shown (forecast_run a x.run) | suc k ↦ untold ]
      go zero = forecast_shows x.run i
      go (suc n) = refl

-- what a step tells: of 0 the forecast of its run, of a refusal nothing
module _ (a : Agreement) (x : Stepped) where
  pub told_zero : x.number ≡ 0 → told_by a x ≡ shown (forecast_run a x.run)
  unfolding told_by
  told_zero z = rw z refl

  pub told_more : x.number ≢ 0 → told_by a x ≡ untold
  unfolding told_by
  told_more nz = go x.number refl
    where
      go : (n : ℕ) → x.number ≡ n → (elim n [ zero ↦ shown (forecast_run a x.run) | suc k ↦ untold ]) ≡ untold
      go zero e = absurd (nz e)
      go (suc n) e = refl
