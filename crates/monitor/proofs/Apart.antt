-- No two answers of an entry mean the same: each can be told from what it means.
-- And whatever is lent, none or a breach by some party is told, or nothing with a refusal: `no_forecast` never occurs.
use mathlib.Core.Path.{◌≡◌, refl, sym, ap, ap₂, subst}
use mathlib.Core.Bool.{Bool, true, false}
use mathlib.Core.List.{List, [], ◌∷◌}
use mathlib.Core.Logic.{inl, inr, ◌⊎◌}
use Rattle.std.specs.Prelude as std
use Rattle.std.specs.Prelude.{Result, Ok, Err}
use Prim.Native.Nat.{ℕ, zero, suc, ◌<◌}
use native.Mathlib.Omega.{arith}
use lib.Dec.{eqb}
use lib.IntN.{ℤ}
use lib.ListN.{get_or}
use Rattle.csl.specs.Syntax.{Agreement}
use Rattle.csl.specs.Decode.{agreement_of}
use Rattle.csl.specs.Check.{CheckAnswer, accepted, checked}
use Rattle.csl.specs.Run.{Stepped, started, step}
use Rattle.csl.specs.Table.{Run, table_of}
use Rattle.csl.specs.Entries as entries
use Rattle.csl.specs.Entries.{Answer, Forecast, ReadingAnswer, StartAnswer, answered, forecast_of, forecast_run}
use Rattle.csl.specs.Entries.{reading_of, refusal, start_of, told_of, written}
use Rattle.csl.specs.Preview.{no_outcome, onto, preview_of}
use Rattle.csl.specs.Early.{mark_of}
use Rattle.csl.specs.Demand3.{Bytes}
use Rattle.csl.specs.Marks.{ForecastFits}
use Rattle.soundness.proofs.Runs.{InvOf, is_fair, reading_is, start_is, step_inv}
use Rattle.soundness.proofs.Demand3.{start_inv}
use Rattle.soundness.proofs.ReadBack.{run_of_good}
use Rattle.soundness.proofs.Marks.{fits, forecast_shows, run_ok}
use Rattle.monitor.specs.declared.BreachAhead.{BreachAhead}
use Rattle.monitor.specs.declared.Refusal.{Refusal}
use Rattle.monitor.specs.declared.Refusal.TheVariants.{AgreementLength, AgreementForm, AgreementTyping}
use Rattle.monitor.specs.declared.Refusal.TheVariants.{AgreementGuards, AgreementWidth, AgreementSize, TableLength}
use Rattle.monitor.specs.declared.Refusal.TheVariants.{TableContent, ReadingForm, ReadingTyping, ReadingTime}
use Rattle.monitor.specs.declared.Refusal.TheVariants.{Units}
use Rattle.monitor.specs.Answers.{Checked, Started, TakenOrRefused, ahead_told, number_of, check_answer, start_answer}
use Rattle.monitor.specs.Answers.{taken_answer}
use Rattle.monitor.proofs.Previews.{by_second}
use Rattle.monitor.proofs.Opens.{by_run, by_table}

-- in the order of their numbers, 1 to 15; 12 to 14 are no refusal's
abbrev refusals : List Refusal
refusals = AgreementLength ∷ AgreementForm ∷ AgreementTyping ∷ AgreementGuards ∷ AgreementWidth ∷ TableLength
    ∷ TableContent ∷ ReadingForm ∷ ReadingTyping ∷ ReadingTime ∷ Units ∷ Units ∷ Units ∷ Units ∷ AgreementSize ∷ []

-- what a number says: 0 is success, and n + 1 the refusal that has n before it
abbrev pub told : {A : Type 0} → A → (Refusal → A) → ℕ → A
told success refused zero = success
told success refused (suc n) = refused (get_or refusals n Units)

pub number_told : {A : Type 0} (success : A) (refused : Refusal → A) (r : Refusal)
    → told success refused (number_of r) ≡ refused r
number_told success refused AgreementLength = refl
number_told success refused AgreementForm = refl
number_told success refused AgreementTyping = refl
number_told success refused AgreementGuards = refl
number_told success refused AgreementWidth = refl
number_told success refused AgreementSize = refl
number_told success refused TableLength = refl
number_told success refused TableContent = refl
number_told success refused ReadingForm = refl
number_told success refused ReadingTyping = refl
number_told success refused ReadingTime = refl
number_told success refused Units = refl

abbrev pub checked_by : CheckAnswer → Checked
checked_by a = told (Ok a.parties) Err a.number

pub check_told : (r : Checked) → checked_by (check_answer r) ≡ r
check_told (Ok parties) = refl
check_told (Err r) = number_told (Ok 0) Err r

-- the breach that a forecast tells, or none
abbrev pub ahead_by : Forecast → std.Option BreachAhead
ahead_by entries.no_breach = std.None
ahead_by (entries.breach_at t b) = std.Some (record { time = t; parties = b })
ahead_by entries.untold = std.None
ahead_by entries.no_forecast = std.None

pub ahead_apart : (x : std.Option BreachAhead) → ahead_by (ahead_told x) ≡ x
ahead_apart std.None = refl
ahead_apart (std.Some b) = refl

abbrev pub started_by : StartAnswer → Started
started_by a = told (Ok (ahead_by a.forecast)) Err a.number

pub start_told : (r : Started) (table : List ℤ) → started_by (start_answer r table) ≡ r
start_told (Ok ahead) table = ap Ok (ahead_apart ahead)
start_told (Err r) table = number_told (Ok std.None) Err r

abbrev pub accepted_by : std.Option BreachAhead → Bool → ℕ → TakenOrRefused
accepted_by ahead early cost = Ok (record { early = early; cost = cost; ahead = ahead })

abbrev pub refused_by : ℕ → Refusal → TakenOrRefused
refused_by cost why = Err (record { why = why; cost = cost })

abbrev pub taken_by : ReadingAnswer → TakenOrRefused
taken_by a = told (accepted_by (ahead_by a.forecast) (eqb a.early 1) a.cost) (refused_by a.cost) a.number

marked : (early : Bool) → eqb (mark_of early) 1 ≡ early
unfolding mark_of
marked true = refl
marked false = refl

pub reading_told : (r : TakenOrRefused) (table : List ℤ) → taken_by (taken_answer r table) ≡ r
reading_told (Ok a) table = ap₂ (λ ahead early. accepted_by ahead early a.cost) (ahead_apart a.ahead) (marked a.early)
reading_told (Err r) table = number_told (accepted_by std.None (eqb 0 1) r.cost) (refused_by r.cost) r.why

-- ---- what can be told
abbrev pub Plain : ℕ → Forecast → Type 0
Plain n entries.no_breach = n ≡ 0
Plain n (entries.breach_at t b) = (n ≡ 0) × (0 < b)
Plain n entries.untold = 0 < n
Plain n entries.no_forecast = ⊥

fits_plain : (a : Agreement) (mains : List ℕ) (f : Forecast) → ForecastFits a mains f → Plain 0 f
unfolding ForecastFits
fits_plain a mains entries.no_breach h = refl
fits_plain a mains (entries.breach_at t b) h = (refl, h.0)
fits_plain a mains entries.untold h = absurd h
fits_plain a mains entries.no_forecast h = h

-- with a refusal nothing is told
refused_plain : (s : List ℕ) (n : ℕ) (left : List ℤ) → 0 < n → Plain n (told_of s n left)
unfolding told_of
refused_plain s zero left more = absurd (omega (arith, more))
refused_plain s (suc n) left more = omega arith

module _ (s : List ℕ) (a : Agreement) (mains : List ℕ) (ck : checked s ≡ accepted a mains) where
  -- a run that is as it should be has a forecast
  run_plain : (q : Run) → InvOf s a mains ck q → Plain 0 (forecast_of s (table_of q))
  run_plain q i = subst (Plain 0) (sym (forecast_shows s a mains ck q i))
      (fits_plain a mains _ (fits s a mains ck (forecast_run a q) (run_ok s a mains ck _ _ q.outcome i)))

  step_plain : (x : Stepped) (cells : List ℤ) → InvOf s a mains ck x.run ⊎ (0 < x.number)
      → let y = written cells x in Plain y.number (told_of s y.number y.table)
  unfolding written refusal told_of
  step_plain x cells i = go x.number refl i
    where
      go : (n : ℕ) → x.number ≡ n → InvOf s a mains ck x.run ⊎ (0 < n)
          → let y : Answer = elim n [
            | zero ↦ record { number = 0; table = table_of x.run }
            | suc k ↦ record { number = x.number; table = cells }
          ] in Plain y.number (told_of s y.number y.table)
      go zero e (inl j) = run_plain x.run j
      go zero e (inr more) = absurd (omega (arith, more))
      go (suc n) e j = refused_plain s x.number cells (omega (arith, e))

-- whatever is lent
pub start_plain : (s : List ℕ) (us : List ℤ) → Bytes s → Plain (start_of s us).number (start_of s us).forecast
unfolding start_of
start_plain s us hs = by_table s us
    (λ n more other x. rw x.start (refused_plain s n us more))
    (λ mains ck l.
    let a = agreement_of s in
    rw (start_is s a mains ck us l) (step_plain s a mains ck (started a) us
    (by_zero (started a).number (λ z. start_inv s a mains ck hs z))))
  where
    by_zero : {A : Type 0} (n : ℕ) → (n ≡ 0 → A) → A ⊎ (0 < n)
    by_zero zero f = inl (f refl)
    by_zero (suc n) f = inr (omega arith)

pub reading_plain : (s : List ℕ) (us : List ℤ) (bytes : List ℕ) → Bytes bytes
    → Plain (reading_of s us bytes).number (reading_of s us bytes).forecast
unfolding reading_of answered
reading_plain s us bytes h = by_run s us
    (λ n more other reads. rw (reads bytes) (refused_plain s n us more))
    (λ mains q ck l e.
    let a = agreement_of s in
    let i = run_of_good a mains us q (is_fair s a mains ck) e in
    rw (reading_is s a mains ck us q bytes l e) (step_plain s a mains ck (step a q bytes) us
    (inl (step_inv s a mains ck q bytes h i))))

pub preview_plain : (s : List ℕ) (us vs : List ℤ) (bytes : List ℕ) → Bytes bytes
    → Plain (preview_of s us vs bytes).number (preview_of s us vs bytes).forecast
unfolding no_outcome onto
preview_plain s us vs bytes h = by_second s us vs bytes (λ n more e. rw e more)
    (λ l e. rw e (reading_plain s us bytes h))
