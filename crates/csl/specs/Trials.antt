-- Paper 01, "Pond trials": P1 to P15 by computation, as one claim over a list.
-- What the entries and the run show is, in every number and cell, what stands beside it.
-- The two are equal by computing, so no comparison is to be believed.
use Rattle.std.specs.Prelude.{Bool, List, [], ◌∷◌, ◌++◌, ℕ, zero, suc, ℤ, pos, negsuc}
use Rattle.std.proofs.Math.Option.{Option}
use Prim.Native.String.{String}
use Rattle.csl.specs.Lists as Lists
use Rattle.csl.specs.Numbers as Numbers
use Rattle.csl.specs.Bytes as Bytes
use Rattle.csl.specs.Parties as Parties
use Rattle.csl.specs.Decode as Decode
use Rattle.csl.specs.Typing as Typing
use Rattle.csl.specs.Guards as Guards
use Rattle.csl.specs.Widths as Widths
use Rattle.csl.specs.Sizes as Sizes
use Rattle.csl.specs.Check as Check
use Rattle.csl.specs.Values as Values
use Rattle.csl.specs.Outcomes as Outcomes
use Rattle.csl.specs.Rules as Rules
use Rattle.csl.specs.Places as Places
use Rattle.csl.specs.Needs as Needs
use Rattle.csl.specs.Run as Run
use Rattle.csl.specs.Early as Early
use Rattle.csl.specs.Cost as Cost
use Rattle.csl.specs.Table as Table
use Rattle.csl.specs.Entries as Entries
use Rattle.csl.specs.Build as Build
use Rattle.csl.specs.Syntax.{Agreement}
use Rattle.csl.specs.Check.{CheckAnswer, CheckResult, refused, accepted, checked}
use Rattle.csl.specs.Values.{Val}
use Rattle.csl.specs.Outcomes.{Outcome}
use Rattle.csl.specs.Run.{Stepped, started, step}
use Rattle.csl.specs.Table.{Run, table_of}
use Rattle.csl.specs.Early.{came_early, mark_of}
use Rattle.csl.specs.Entries.{StartAnswer, ReadingAnswer, Forecast, no_breach, breach_at, untold, start_of}
use Rattle.csl.specs.Entries.{reading_of}
use Rattle.csl.specs.Demand3 as Demand3
use Rattle.csl.specs.Demand3.{told_by}
use Rattle.csl.specs.Build.{lit, yes', op, nothing, owes, simply, may, all', any', inst, template_with, agreement}
use Rattle.csl.specs.Build.{reading, mark, sample, zeros, unit_of, join_unit, running_table, fulfilled_table}
use Rattle.csl.specs.Build.{breached_table}

-- everything that the trials compute with
unfoldable pub computes : Unit {0}
unfolding Lists.computes Numbers.computes Bytes.computes Parties.computes Decode.computes Typing.computes
    Guards.computes Widths.computes Sizes.computes Check.computes Values.computes Outcomes.computes Rules.computes
    Places.computes Needs.computes Run.computes Early.computes Cost.computes Table.computes Entries.computes
    Demand3.told_by Build.computes
computes = tt

-- ---- a trial: what is computed, and what it must be
pub data Seen : Type 0 where
  -- the entries' answers
  checks : CheckAnswer → Seen
  answers : ReadingAnswer → Seen
  forecasts : Forecast → Seen
  -- a step of the run with what it would become if only time went on, the run that a table shows, a definition alone
  steps : Stepped → Outcome → Seen
  reads : Option Run → Seen
  becomes : Outcome → Seen
  decides : CheckResult → Seen
  evaluates : Option Val → Seen
  holds : Bool → Seen
  counts : ℕ → Seen

pub record Trial : Type 0 where
  pub name : String
  pub shown : List Seen
  pub expected : List Seen

-- a number, a forecast, a mark and a table
unfoldable pub marks : ℕ → Forecast → ℕ → List ℤ → ReadingAnswer
marks n f early cells = record { number = n; forecast = f; early = early; cost = 0; table = cells }

-- without what a reading costs, of which `Costs` has trials of its own
unfoldable pub uncosted : ReadingAnswer → ReadingAnswer
uncosted a = marks a.number a.forecast a.early a.table

-- accepted with a forecast, and refused
unfoldable pub gives : Forecast → List ℤ → Seen
gives f cells = answers (marks 0 f 0 cells)

unfoldable pub denies : ℕ → List ℤ → Seen
denies n cells = answers (marks n untold 0 cells)

-- cells alone
unfoldable pub cells : List ℤ → Seen
cells us = denies 0 us

-- a start's answer, which has no mark
unfoldable pub unmarked : StartAnswer → ReadingAnswer
unmarked a = marks a.number a.forecast 0 a.table

-- ---- an agreement started and given readings
-- by the entries, on the table that the one before left
unfoldable pub by_entries : List ℕ → ReadingAnswer → List (List ℕ) → List Seen
by_entries bytes a [] = answers (uncosted a) ∷ []
by_entries bytes a (r ∷ rs) = answers (uncosted a) ∷ by_entries bytes (reading_of bytes a.table r) rs

-- by the rules: no table is read
unfoldable pub by_rules : Agreement → ℕ → Stepped → List (List ℕ) → List Seen
by_rules ag early s [] = answers (marks s.number (told_by ag s) early (table_of s.run)) ∷ []
by_rules ag early s (r ∷ rs) = answers (marks s.number (told_by ag s) early (table_of s.run)) ∷ by_rules ag
    (mark_of (came_early ag s.run r)) (step ag s.run r) rs

unfoldable pub rules_of : CheckResult → List (List ℕ) → List Seen
rules_of (refused n) rs = []
rules_of (accepted ag ps) rs = by_rules ag 0 (started ag) rs

-- ---- a moment: a number, a mark, the table with them, and the forecast told
pub record Moment : Type 0 where
  pub number : ℕ
  pub early : ℕ
  pub table : List ℤ
  pub forecast : Forecast

unfoldable pub of_moments : List Moment → List Seen
of_moments [] = []
of_moments (m ∷ ms) = answers (marks m.number m.forecast m.early m.table) ∷ of_moments ms

unfoldable pub follows : String → List ℕ → List (List ℕ) → List Moment → Trial
follows n bytes rs ms = record {
  name = n;
  shown = by_entries bytes (unmarked (start_of bytes zeros)) rs ++ rules_of
      (checked bytes) rs;
  expected = of_moments ms ++ of_moments ms;
}

-- running: the last reading time, when it last moved, the units, and the forecast breach
unfoldable pub live : ℕ → ℕ → List (List ℤ) → ℕ → ℕ → Moment
live now moved us t b = record {
  number = 0;
  early = 0;
  table = running_table now moved us;
  forecast = breach_at t b;
}

unfoldable pub fulfils : ℕ → ℕ → Moment
fulfils now moved = record { number = 0; early = 0; table = fulfilled_table now moved; forecast = no_breach }

unfoldable pub breaches : ℕ → ℕ → ℕ → ℕ → Moment
breaches now moved t b = record {
  number = 0;
  early = 0;
  table = breached_table now moved t b;
  forecast = breach_at t b;
}

-- the table of the moment before, with a number; no forecast is told
unfoldable pub refusing : ℕ → Moment → Moment
refusing n m = record { number = n; early = 0; table = m.table; forecast = untold }

-- an obligation and a choice that wait since A, with nothing in sight
unfoldable pub owed : ℕ → ℕ → List ℤ
owed p a = unit_of 17 p a [] []

unfoldable pub chosen : ℕ → ℕ → List ℤ
chosen p a = unit_of 18 p a [] []

-- ---- P1 to P15
-- one obligation of party 0 at place 17 that waits, with the forecast of the sample
unfoldable pub unmet : ℕ → Moment
unmet now = live now 100 (owed 17 100 ∷ []) 160 1

unfoldable pub p1to4 : Trial
p1to4 = follows "P1 to P4 and the transcript's refused reading" sample
    (reading 110 (pos 240) ∷ reading 105 (pos 250) ∷ mark 160 ∷ reading 160 (pos 250) ∷ [])
    (unmet 100 ∷ unmet 110 ∷ refusing 10 (unmet 110) ∷ unmet 160 ∷ fulfils 160 160 ∷ [])

unfoldable pub p5and6 : Trial
p5and6 = follows "P5 and P6" sample (mark 161 ∷ reading 161 (pos 250) ∷ [])
    (unmet 100 ∷ breaches 161 161 160 1 ∷ breaches 161 161 160 1 ∷ [])

unfoldable pub p7 : Trial
p7 = follows "P7" (agreement [] (simply 0 (negsuc 4))) (mark 100 ∷ [])
    (live 100 100 (owed 17 100 ∷ []) 100 1 ∷ breaches 100 100 100 1 ∷ [])

-- two obligations joined, from place 17 on
unfoldable pub pair : ℕ → List (List ℤ)
pair s = join_unit s ∷ owed 21 100 ∷ owed 52 100 ∷ []

unfoldable pub p8 : Trial
p8 = follows "P8" (agreement [] (all' (simply 0 (pos 60)) (simply 1 (pos 60)))) (mark 161 ∷ [])
    (live 100 100 (pair 20) 160 3 ∷ breaches 161 161 160 3 ∷ [])

unfoldable pub p9 : Trial
p9 = follows "P9" (agreement [] (all' (simply 0 (pos 60)) (simply 1 (pos 50)))) (mark 161 ∷ [])
    (live 100 100 (pair 20) 150 2 ∷ breaches 161 161 150 2 ∷ [])

unfoldable pub p10 : Trial
p10 = follows "P10" (agreement [] (all' (simply 0 (pos 60)) (simply 1 (pos 50)))) (reading 120 (pos 1) ∷ [])
    (live 100 100 (pair 20) 150 2 ∷ fulfils 120 120 ∷ [])

unfoldable pub p11 : Trial
p11 = follows "P11" (agreement [] (any' (simply 0 (pos 50)) (simply 0 (pos 60)))) (mark 155 ∷ mark 161 ∷ [])
    (live 100 100 (pair 21) 160 1 ∷ live 155 155 (owed 52 100 ∷ []) 160 1 ∷ breaches 161 161 160 1 ∷ [])

unfoldable pub choosing : List ℕ
choosing = agreement [] (may yes' (pos 0) (pos 50) nothing (simply 1 (pos 20)))

unfoldable pub p12a : Trial
p12a = follows "P12, a reading" choosing (reading 165 (pos 1) ∷ [])
    (live 100 100 (chosen 17 100 ∷ []) 170 2 ∷ fulfils 165 165 ∷ [])

unfoldable pub p12b : Trial
p12b = follows "P12, a mark" choosing (mark 171 ∷ [])
    (live 100 100 (chosen 17 100 ∷ []) 170 2 ∷ breaches 171 171 170 2 ∷ [])

-- an obligation whose `where` is an equation of two numbers
unfoldable pub asks : List ℕ → ℤ → List ℕ
asks e z = agreement [] (owes 0 (op 43 e (lit z)) (pos 0) (pos 60) nothing)

unfoldable pub p13 : Trial
p13 = follows "P13" (asks (op 40 (lit (negsuc 6)) (lit (pos 2))) (negsuc 3)) (reading 110 (pos 1) ∷ [])
    (unmet 100 ∷ fulfils 110 110 ∷ [])

unfoldable pub p14 : Trial
p14 = follows "P14" (asks (op 37 (lit (pos 1_000_000_000)) (lit (pos 1))) (pos 1_000_000_000))
    (reading 110 (pos 1) ∷ []) (unmet 100 ∷ fulfils 110 110 ∷ [])

unfoldable pub self : List ℕ
self = inst 0 [] []

unfoldable pub doubling : List ℕ
doubling = agreement (template_with [] 0 1 (owes 0 yes' (pos 0) (pos 60) (all' self self)) ∷ []) self

-- as often doubled as there were readings
unfoldable pub doubled : ℕ → ℕ → List (List ℤ)
doubled a zero = owed 25 a ∷ []
doubled a (suc n) = join_unit 20 ∷ (doubled a n ++ doubled a n)

unfoldable pub p15 : Trial
p15 = follows "P15" doubling (reading 101 (pos 0) ∷ reading 102 (pos 0) ∷ reading 103 (pos 0) ∷ reading 104 (pos 0)
    ∷ reading 105 (pos 0) ∷ reading 106 (pos 0) ∷ reading 107 (pos 0) ∷ [])
    (live 100 100 (doubled 100 0) 160 1
    ∷ live 101 101 (doubled 101 1) 161 1
    ∷ live 102 102 (doubled 102 2) 162 1
    ∷ live 103 103 (doubled 103 3) 163 1
    ∷ live 104 104 (doubled 104 4) 164 1
    ∷ live 105 105 (doubled 105 5) 165 1
    ∷ live 106 106 (doubled 106 6) 166 1
    ∷ refusing 11 (live 106 106 (doubled 106 6) 166 1) ∷ [])

unfoldable pub trials : List Trial
trials = p1to4 ∷ p5and6 ∷ p7 ∷ p8 ∷ p9 ∷ p10 ∷ p11 ∷ p12a ∷ p12b ∷ p13 ∷ p14 ∷ p15 ∷ []

-- what a proof by computation unfolds
unfoldable pub harness : Unit {0}
unfolding computes marks uncosted gives denies cells unmarked by_entries by_rules rules_of of_moments follows live
    fulfils breaches refusing owed chosen
harness = tt
