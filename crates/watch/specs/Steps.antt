-- What the steps of the program promise.
use Rattle.std.specs.Prelude.{◌≡◌, Bool, true, false, List, [], ◌++◌, ℕ, ◌+◌, ◌≤◌, ◌<◌, eqb, ℤ, length}
use Rattle.stream.specs.Records.{is_whole, records_of}
use Rattle.csl.specs.Entries.{start_of}
use Rattle.lines.specs.Lines.{start_line, reading_lines}
use Rattle.watch.specs.declared.Stage.{Stage}
use Rattle.watch.specs.declared.Stage.TheVariants.{Ready, Waiting, Over}
use Rattle.watch.specs.declared.Run.{Run}

abbrev pub stage_after : Bool → Stage
stage_after true = Ready
stage_after false = Over

-- ---- what is left to write, from line n on, of the bytes that are still to be taken
abbrev pub left : Stage → List ℕ → List ℤ → ℕ → List ℕ → List ℕ
left Ready s cells n rest = reading_lines s cells n (records_of rest)
left Waiting s cells n rest = reading_lines s cells n (records_of rest)
left Over s cells n rest = []

-- nothing comes after an input that has ended
abbrev pub Comes : Bool → List ℕ → Type 0
Comes ended more = ended ≡ true → more ≡ []

-- the agreement and the buffers stay
pub record Kept (run run₂ : Run) : Type 0 where
  pub agreement : run₂.agreement.now ≡ run.agreement.now
  pub hand : run₂.hand.capacity ≡ run.hand.capacity
  pub page : run₂.page.capacity ≡ run.page.capacity

-- ---- a start: its line is put, the table is the answer's, and only an accepted one goes on
pub record Starts (run run₂ : Run) (go : Bool) : Type 0 where
  pub line : run₂.page.text ≡ run.page.text ++ start_line run.agreement.now (start_of run.agreement.now run.table)
  pub table : run₂.table ≡ (start_of run.agreement.now run.table).table
  pub goes : go ≡ eqb (start_of run.agreement.now run.table).number 0
  pub kept : Kept run run₂
  pub hand : run₂.hand ≡ run.hand
  pub next : run₂.line ≡ run.line

-- ---- readings taken from the bytes at hand: whatever comes after them, what is put and what is left to write,
-- together, stay the same; and where more input is waited for, no whole record is left
pub record Turns (run run₂ : Run) (stage : Stage) : Type 0 where
  pub same : (more : List ℕ) → Comes run.hand.ended more
      → run.page.text ++ left Ready run.agreement.now run.table run.line (run.hand.bytes ++ more)
      ≡ run₂.page.text ++ left stage run.agreement.now run₂.table run₂.line (run₂.hand.bytes ++ more)
  pub waits : stage ≡ Waiting → (is_whole run₂.hand.bytes ≡ false) × (run₂.hand.ended ≡ false)
      × (length run₂.hand.bytes < 65_535)
  pub ended : run₂.hand.ended ≡ run.hand.ended
  pub bounded : length run₂.hand.bytes ≤ length run.hand.bytes
  pub numbered : run₂.line + length run₂.hand.bytes ≤ run.line + length run.hand.bytes
  pub kept : Kept run run₂

-- a turn that goes on has taken a byte at least
abbrev pub Takes : Run → Run → Stage → Type 0
Takes run run₂ stage = stage ≡ Ready → length run₂.hand.bytes < length run.hand.bytes
