-- Laws for joined answers: what a start and a reading do, with the forecast of the table that they leave; a refusal
-- tells none.
use mathlib.Core.Path.{◌≡◌, refl, sym, ap, ◌∙◌}
use mathlib.Core.List.{List}
use Rattle.std.specs.Prelude.{Option, Ok, Err}
use Prim.Native.Nat.{ℕ, suc}
use lib.IntN.{ℤ}
use Rattle.csl.specs.Entries.{Answer, Forecast, ReadAnswer, ReadingAnswer, StartAnswer, begun_of, forecast_of, read_of}
use Rattle.csl.specs.Entries.{reading_of, start_of, told_of, untold}
use Rattle.monitor.specs.declared.BreachAhead.{BreachAhead}
use Rattle.monitor.specs.declared.Followed.{Followed}
use Rattle.monitor.specs.declared.Refusal.{Refusal}
use Rattle.monitor.specs.declared.Refusal.TheVariants.{AgreementLength, AgreementForm, AgreementTyping}
use Rattle.monitor.specs.declared.Refusal.TheVariants.{AgreementGuards, AgreementWidth, AgreementSize, TableLength}
use Rattle.monitor.specs.declared.Refusal.TheVariants.{TableContent, ReadingForm, ReadingTyping, ReadingTime}
use Rattle.monitor.specs.declared.Refusal.TheVariants.{Units}
use Rattle.monitor.specs.declared.Refused.{Refused}
use Rattle.monitor.specs.Answers.{Started, TakenOrRefused, ahead_told, number_of, start_answer, taken_answer}
use Rattle.monitor.specs.Steps.{read_answer}
use Rattle.bridge.proofs.Refusals.{answer}

-- no refusal's number is 0
pub some_number : (r : Refusal) → (k : ℕ) × (number_of r ≡ suc k)
some_number AgreementLength = (0, refl)
some_number AgreementForm = (1, refl)
some_number AgreementTyping = (2, refl)
some_number AgreementGuards = (3, refl)
some_number AgreementWidth = (4, refl)
some_number AgreementSize = (14, refl)
some_number TableLength = (5, refl)
some_number TableContent = (6, refl)
some_number ReadingForm = (7, refl)
some_number ReadingTyping = (8, refl)
some_number ReadingTime = (9, refl)
some_number Units = (10, refl)

no_zero : (s : List ℕ) (left : List ℤ) (r : Refusal) → told_of s (number_of r) left ≡ untold
unfolding told_of
no_zero s left r = rw (some_number r).1 refl

-- the forecast f with what a call did
abbrev begun_with : Forecast → Answer → StartAnswer
begun_with f x = record { number = x.number; forecast = f; table = x.table }

abbrev read_with : Forecast → ReadAnswer → ReadingAnswer
read_with f x = record { number = x.number; forecast = f; early = x.early; cost = x.cost; table = x.table }

module _ (s : List ℕ) (us left : List ℤ) where
  -- ---- a start
  start_with : (f : Forecast) (x : Answer) → x ≡ begun_of s us → told_of s x.number x.table ≡ f
      → begun_with f x ≡ start_of s us
  unfolding start_of
  start_with f x e g = ap (λ y. begun_with y x) (sym g) ∙ ap (λ y. begun_with (told_of s y.number y.table) y) e

  pub start_ok : (ahead : Option BreachAhead) → answer 0 left ≡ begun_of s us
      → ahead_told ahead ≡ forecast_of s left → start_answer (Ok ahead) left ≡ start_of s us
  unfolding told_of
  start_ok ahead e f = start_with (ahead_told ahead) _ e (sym f)

  pub start_err : (r : Refusal) → answer (number_of r) left ≡ begun_of s us → start_answer (Err r) left ≡ start_of s us
  start_err r e = start_with untold _ e (no_zero s left r)

  -- ---- a reading
  module _ (bytes : List ℕ) where
    reading_with : (f : Forecast) (x : ReadAnswer) → x ≡ read_of s us bytes → told_of s x.number x.table ≡ f
        → read_with f x ≡ reading_of s us bytes
    unfolding reading_of
    reading_with f x e g = ap (λ y. read_with y x) (sym g) ∙ ap (λ y. read_with (told_of s y.number y.table) y) e

    pub reading_ok : (a : Followed) (ahead : Option BreachAhead) → read_answer (Ok a) left ≡ read_of s us bytes
        → ahead_told ahead ≡ forecast_of s left
        → taken_answer (Ok (record { early = a.early; cost = a.cost; ahead = ahead })) left ≡ reading_of s us bytes
    unfolding told_of
    reading_ok a ahead e f = reading_with (ahead_told ahead) _ e (sym f)

    pub reading_err : (r : Refused) → read_answer (Err r) left ≡ read_of s us bytes
        → taken_answer (Err r) left ≡ reading_of s us bytes
    reading_err r e = reading_with untold _ e (no_zero s left r.why)

-- ---- what a reading's answer says without the forecast
abbrev pub part : ReadingAnswer → ReadAnswer
part x = record { number = x.number; early = x.early; cost = x.cost; table = x.table }

pub part_of : (s : List ℕ) (us : List ℤ) (bytes : List ℕ) {x : ReadingAnswer} → x ≡ reading_of s us bytes
    → part x ≡ read_of s us bytes
unfolding reading_of
part_of s us bytes e = ap part e

-- ---- the table in an answer is the one that is left
pub begun_table : (r : Started) (us : List ℤ) → (start_answer r us).table ≡ us
begun_table (Ok ahead) us = refl
begun_table (Err w) us = refl

pub table_in : (r : TakenOrRefused) (us : List ℤ) → (taken_answer r us).table ≡ us
table_in (Ok a) us = refl
table_in (Err w) us = refl
