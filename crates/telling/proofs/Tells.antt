-- The lines that a start and a reading tell are those of the definitions, by what the entries' answers say.
use mathlib.Core.Path.{◌≡◌, ap, ◌∙◌}
use mathlib.Core.Bool.{not}
use mathlib.Core.List.{List, [], ◌∷◌}
use Prim.Native.Nat.{ℕ, ◌^◌, ◌≤◌, ◌<◌}
use native.Mathlib.Omega.{arith}
use lib.Dec.{eqb}
use lib.IntN.{ℤ}
use lib.ListN.{length}
use Rattle.std.proofs.Common.{Option, Result, is_some}
use Rattle.csl.specs.Entries.{Forecast, StartAnswer, ReadingAnswer, start_of, reading_of}
use Rattle.lines.specs.Text.{fields}
use Rattle.lines.specs.Lines.{answer_fields, start_time, start_line, reading_time, reading_line}
use Rattle.lines.specs.Shown.{shown_time, shown_says}
use Rattle.telling.specs.declared.Verdict.{Verdict}
use Rattle.telling.specs.Verdicts.{shown_verdict}
use Rattle.telling.specs.Told.{Begins, Follows}
use Rattle.telling.proofs.Shows.{line_shown, line_short}

-- what stands behind a line's number, of an answer with this number, forecast and table
pub record Tells (number : ℕ) (f : Forecast) (cells : List ℤ) (field : List ℕ) (time : Option ℕ)
    (says : Result Verdict ℕ) : Type 0 where
  pub timed : shown_time time ≡ field
  pub said : fields (shown_says shown_verdict says ∷ []) ≡ fields (answer_fields number f cells)
  pub short_time : length (shown_time time) ≤ 20
  pub short : length (shown_says shown_verdict says) ≤ 48

module _ (s : List ℕ) (cells : List ℤ) (time : Option ℕ) (says : Result Verdict ℕ) where
  pub begins : (a : StartAnswer) → a ≡ start_of s cells
      → Tells a.number a.forecast a.table (start_time s a.number) time says
      → is_some time ≡ eqb a.number 0
      → Begins s cells a.table (record { number = 0; time = time; says = says })
  unfolding start_line
  begins a is told goes = record {
    line = line_shown 0 (shown_says shown_verdict says) (answer_fields a.number a.forecast a.table) told.timed told.said
        ∙ ap (start_line s) is;
    table = ap (λ x. x.table) is;
    goes = goes ∙ ap (λ x. eqb x.number 0) is;
    room = line_short 0 (shown_time time) (shown_says shown_verdict says) (omega arith) told.short_time told.short;
  }

  pub follows : (n : ℕ) → n < 2 ^ 64 → (b : List ℕ) (a : ReadingAnswer) → a ≡ reading_of s cells b
      → Tells a.number a.forecast a.table (reading_time b a.number) time says
      → is_some time ≡ not (eqb a.number 8)
      → Follows s cells a.table n b (record { number = n; time = time; says = says })
  unfolding reading_line
  follows n fits b a is told goes = record {
    line = line_shown n (shown_says shown_verdict says) (answer_fields a.number a.forecast a.table) told.timed told.said
        ∙ ap (reading_line n b) is;
    table = ap (λ x. x.table) is;
    goes = goes ∙ ap (λ x. not (eqb x.number 8)) is;
    room = line_short n (shown_time time) (shown_says shown_verdict says) fits told.short_time told.short;
  }
