-- What the line of a start and of a reading promises.
use Rattle.std.specs.Prelude.{◌≡◌, not, List, ℕ, ◌≤◌, eqb, ℤ, length, is_some}
use Rattle.csl.specs.Entries.{start_of, reading_of}
use Rattle.lines.specs.Lines.{start_line, reading_line}
use Rattle.lines.specs.declared.Line.{Line}
use Rattle.telling.specs.declared.Verdict.{Verdict}
use Rattle.telling.specs.Verdicts.{text_of}

-- no line is longer
abbrev pub line_room : ℕ
line_room = 96

-- ---- a start: its line, the table is the answer's, and only an accepted one has a time
pub record Begins (s : List ℕ) (cells cells₂ : List ℤ) (l : Line Verdict) : Type 0 where
  pub line : text_of l ≡ start_line s (start_of s cells)
  pub table : cells₂ ≡ (start_of s cells).table
  pub goes : is_some l.time ≡ eqb (start_of s cells).number 0
  pub room : length (text_of l) ≤ line_room

-- ---- a reading b at line n: only one refused with 8 has no time
pub record Follows (s : List ℕ) (cells cells₂ : List ℤ) (n : ℕ) (b : List ℕ) (l : Line Verdict) : Type 0 where
  pub line : text_of l ≡ reading_line n b (reading_of s cells b)
  pub table : cells₂ ≡ (reading_of s cells b).table
  pub goes : is_some l.time ≡ not (eqb (reading_of s cells b).number 8)
  pub room : length (text_of l) ≤ line_room
