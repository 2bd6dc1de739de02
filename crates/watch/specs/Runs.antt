-- What the steps that read and write promise, where the bytes that are to come are known, and those that are written.
use Rattle.std.specs.Prelude.{◌≡◌, Bool, true, false, List, [], ◌++◌, ℕ, ◌≤◌, length, take, drop, Option, Some}
use Rattle.std.specs.Io.KnownBytes.{Appends}
use Rattle.stream.specs.Records.{records_of}
use Rattle.stream.specs.Hands.{AtHand}
use Rattle.lines.specs.Lines.{reading_lines, lines_of}
use Rattle.telling.specs.Told.{line_room}
use Rattle.watch.specs.declared.Run.{Run}
use Rattle.watch.specs.Watched.{watched, zeros}
use Rattle.watch.specs.Steps.{Comes}

-- the bytes at hand and those to come are together what they were, and none is to come where the input has ended
pub record Carries (coming : Option (List ℕ)) (ended : Bool) (before : List ℕ) (coming₂ : Option (List ℕ))
    (ended₂ : Bool) (after : List ℕ) : Type 0 where
  pub carries : (bytes : List ℕ) → coming ≡ Some bytes → Comes ended bytes
      → (more : List ℕ) × (coming₂ ≡ Some more) × Comes ended₂ more × (before ++ bytes ≡ after ++ more)

-- what is written for the whole input is what is written for its first record and the rest
pub record Opens (coming coming₂ : Option (List ℕ)) (hand : AtHand) (takes : ℕ) : Type 0 where
  pub opens : (bytes : List ℕ) → coming ≡ Some bytes
      → (more : List ℕ) × (coming₂ ≡ Some more) × Comes hand.ended more
      × (watched bytes ≡ lines_of (take takes hand.bytes) zeros (records_of (drop takes hand.bytes ++ more)))

-- what is left to write, if the run goes on
abbrev pub left_from : Bool → Run → List ℕ → List ℕ
left_from true run rest = reading_lines run.agreement.now run.table run.line (records_of rest)
left_from false run rest = []

-- nothing is put, and the buffers have room for a line and for a record
pub record Fresh (run : Run) : Type 0 where
  pub empty : run.page.text ≡ []
  pub page : line_room ≤ run.page.capacity
  pub hand : run.hand.capacity ≡ 65_536
  pub within : length run.hand.bytes ≤ 65_536

-- the run with its lines written
abbrev pub written : Run → Run
written run = record run { page = record run.page { text = [] } }

-- ---- readings from the next line on, of the bytes at hand and of those to come: what is written and what is left to
-- write, together, are all that was to be written
pub record Serves (run run₂ : Run) (coming coming₂ written written₂ : Option (List ℕ)) (goes : Bool) : Type 0 where
  pub serves : (bytes : List ℕ) → coming ≡ Some bytes → Comes run.hand.ended bytes
      → (more w : List ℕ) × (coming₂ ≡ Some more) × Comes run₂.hand.ended more × Appends written written₂ w
      × (left_from true run (run.hand.bytes ++ bytes) ≡ w ++ left_from goes run₂ (run₂.hand.bytes ++ more))

-- all that is to be written is written
pub record Writes (coming : Option (List ℕ)) (ended : Bool) (written written₂ : Option (List ℕ))
    (all : List ℕ → List ℕ) : Type 0 where
  pub writes : (bytes : List ℕ) → coming ≡ Some bytes → Comes ended bytes → Appends written written₂ (all bytes)
