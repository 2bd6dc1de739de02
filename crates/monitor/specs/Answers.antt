-- What the entries' answers say: paper 01's number, and the values, for each case.
use Rattle.std.specs.Prelude.{List, ℕ, ℤ, Option, Some, None, Result, Ok, Err}
use Rattle.csl.specs.Check.{CheckAnswer}
use Rattle.csl.specs.Entries as entries
use Rattle.csl.specs.Entries.{StartAnswer, ReadingAnswer}
use Rattle.csl.specs.Early.{mark_of}
use Rattle.monitor.specs.declared.Refusal.{Refusal}
use Rattle.monitor.specs.declared.Refusal.TheVariants.{AgreementLength, AgreementForm, AgreementTyping}
use Rattle.monitor.specs.declared.Refusal.TheVariants.{AgreementGuards, AgreementWidth, AgreementSize, TableLength}
use Rattle.monitor.specs.declared.Refusal.TheVariants.{TableContent, ReadingForm, ReadingTyping, ReadingTime}
use Rattle.monitor.specs.declared.Refusal.TheVariants.{Units}
use Rattle.monitor.specs.declared.Taken.{Taken}
use Rattle.monitor.specs.declared.Refused.{Refused}
use Rattle.monitor.specs.declared.BreachAhead.{BreachAhead}

-- what each entry answers: the main clause's parties by bit; that a run has begun, with the breach ahead, if there is
-- one; of a reading whether it came too early, what it cost, and the breach ahead. Or a refusal, of a reading with its
-- cost
abbrev pub Checked : Type 0
Checked = Result ℕ Refusal

abbrev pub Started : Type 0
Started = Result (Option BreachAhead) Refusal

abbrev pub TakenOrRefused : Type 0
TakenOrRefused = Result Taken Refused

-- "Refusal table"; 15 is of paper 02, No. 7
abbrev pub number_of : Refusal → ℕ
number_of AgreementLength = 1
number_of AgreementForm = 2
number_of AgreementTyping = 3
number_of AgreementGuards = 4
number_of AgreementWidth = 5
number_of AgreementSize = 15
number_of TableLength = 6
number_of TableContent = 7
number_of ReadingForm = 8
number_of ReadingTyping = 9
number_of ReadingTime = 10
number_of Units = 11

-- check: "Success returns 0; check also returns the main clause's parties"; a refusal's other results are zero
abbrev pub check_answer : Checked → CheckAnswer
check_answer (Ok parties) = record { number = 0; parties = parties }
check_answer (Err r) = record { number = number_of r; parties = 0 }

-- paper 02, No. 2: "the forecast of the table they leave"
abbrev pub ahead_told : Option BreachAhead → entries.Forecast
ahead_told None = entries.no_breach
ahead_told (Some b) = entries.breach_at b.time b.parties

-- start: a number, the forecast, and the table afterwards; "a refusal gives zeros for it"
abbrev pub start_answer : Started → List ℤ → StartAnswer
start_answer (Ok ahead) table = record { number = 0; forecast = ahead_told ahead; table = table }
start_answer (Err r) table = record { number = number_of r; forecast = entries.untold; table = table }

-- a reading; paper 02, Nos. 8 and 9: with the mark "early", and what it costs
abbrev pub taken_answer : TakenOrRefused → List ℤ → ReadingAnswer
taken_answer (Ok a) table = record {
  number = 0;
  forecast = ahead_told a.ahead;
  early = mark_of a.early;
  cost = a.cost;
  table = table;
}
taken_answer (Err r) table = record {
  number = number_of r.why;
  forecast = entries.untold;
  early = 0;
  cost = r.cost;
  table = table;
}
