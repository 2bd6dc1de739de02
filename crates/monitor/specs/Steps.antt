-- What the functions between the entries ask and promise.
use Rattle.std.specs.Prelude.{◌≡◌, Bool, true, false, List, ℕ, ◌≤◌, ℤ, pos, length, get_or, drop, Some, Result, Ok, Err}
use Rattle.std.proofs.Math.Option.{some}
use Rattle.csl.specs.Decode as decode
use Rattle.csl.specs.Check as check
use Rattle.csl.specs.Check.{checked}
use Rattle.csl.specs.Entries.{ReadAnswer, read_of, reading_of}
use Rattle.csl.specs.Early.{mark_of}
use Rattle.csl.specs.Table.{Run, table_length}
use Rattle.readings.specs.Taking.{FittingRead}
use Rattle.readings.specs.Values.{values_read}
use Rattle.readings.specs.declared.reading.Reading.{Reading}
use Rattle.readings.specs.declared.Misfit.{Misfit}
use Rattle.readings.specs.declared.Misfit.TheVariants.{Malformed, Untyped}
use Rattle.cells.specs.Across.{some_open_later}
use Rattle.cells.specs.Sights.{flat}
use Rattle.cells.specs.declared.Sight.{Sight}
use Rattle.walk.specs.Tree.{Tree}
use Rattle.state.specs.Shown.{Shows, run_in}
use Rattle.state.specs.declared.State.{State}
use Rattle.monitor.specs.declared.Lent.{Lent}
use Rattle.monitor.specs.declared.Refusal.{Refusal}
use Rattle.monitor.specs.declared.Refusal.TheVariants.{ReadingForm, ReadingTyping}
use Rattle.monitor.specs.declared.Refused.{Refused}
use Rattle.monitor.specs.declared.Followed.{Followed}
use Rattle.settling.specs.Before.{on_copy, Untouched}
use Rattle.monitor.specs.Answers.{number_of, TakenOrRefused, taken_answer}

-- ---- what a reading does, without the forecast
abbrev pub read_answer : Result Followed Refused → List ℤ → ReadAnswer
read_answer (Ok a) table = record { number = 0; early = mark_of a.early; cost = a.cost; table = table }
read_answer (Err r) table = record { number = number_of r.why; early = 0; cost = r.cost; table = table }

-- a table shows a run
abbrev pub Shown : List ℕ → List ℤ → Type 0
Shown s us = (q : Run) × (run_in s us ≡ some q)

-- ---- what is lent
-- 1 and 2: the agreement in the bytes, which are as long as they say and well formed
pub record Formed (s : List ℕ) : Type 0 where
  pub length_ok : decode.length_ok s ≡ true
  pub formed : decode.well_formed s ≡ true

abbrev pub Read : List ℕ → Result (List ℕ) Refusal → Type 0
Read s (Ok agreement) = (agreement ≡ s) × Formed s
Read s (Err r) = checked s ≡ check.refused (number_of r)

-- 1 to 5: the agreement in the bytes, which is accepted
abbrev pub Verified : List ℕ → Result (List ℕ) Refusal → Type 0
Verified s (Ok agreement) = (agreement ≡ s) × check.Accepted s
Verified s (Err r) = checked s ≡ check.refused (number_of r)

-- a reading is refused with r
abbrev pub Refuses : List ℕ → List ℤ → Refusal → Type 0
Refuses s us r = (bytes : List ℕ) → taken_answer (Err (record { why = r; cost = 0 })) us ≡ reading_of s us bytes

-- an accepted agreement, and the state that a table's cells show
pub record Opened (s : List ℕ) (us : List ℤ) (sights : List Sight) (state : State) : Type 0 where
  pub accepted : check.Accepted s
  pub cells : length us ≡ table_length
  pub shows : Shows (run_in s us) us sights (Some state)

-- 7
abbrev pub Opens : List ℕ → List ℤ → Result Lent Refusal → Type 0
Opens s us (Ok lent) = (lent.agreement ≡ s) × Opened s us lent.sights.now lent.state
Opens s us (Err r) = Refuses s us r

-- ---- a reading
-- why a reading that does not fit is refused
abbrev pub why_misfit : Misfit → Refusal
why_misfit Malformed = ReadingForm
why_misfit Untyped = ReadingTyping

-- the bytes are a reading that fits, not earlier than the last one
pub record Fitted (s bytes : List ℕ) (us : List ℤ) (r : Reading) : Type 0 where
  pub fits : FittingRead s bytes r
  pub in_order : (now : ℕ) → get_or us 1 (pos 0) ≡ pos now → now ≤ r.time

-- some bytes are it
abbrev pub SomeReading : List ℕ → List ℤ → Reading → Type 0
SomeReading s us r = (bytes : List ℕ) × Fitted s bytes us r

-- of all bytes that are the reading r the answer is that of the table us, and what it leaves of a copy of us stands in
-- what was lent; a refusal leaves that as it was
pub record ReadAs (s : List ℕ) (us lent : List ℤ) (r : Reading) (answer : Result Followed Refused) (left : List ℤ)
    : Type 0 where
  pub is : (bytes : List ℕ) → Fitted s bytes us r → read_answer answer (on_copy answer us left) ≡ read_of s us bytes
  pub untouched : Untouched answer lent left

-- the same of bytes that may be no reading, with the forecast
pub record ReadsOn (s : List ℕ) (us lent : List ℤ) (bytes : List ℕ) (answer : TakenOrRefused) (left : List ℤ) : Type
    0 where
  pub is : taken_answer answer (on_copy answer us left) ≡ reading_of s us bytes
  pub untouched : Untouched answer lent left

-- some unit opens later than the reading, which it waits for
abbrev pub some_later : List ℕ → ℕ → List Sight → List ℤ → Reading → Bool
some_later s n sights us r = some_open_later r.time r.tag (values_read r) s n (flat sights) (drop 8 us)

-- what is asked of a table that a step has left as it was: it has the n units, and a mark waits for none of them
pub record Judged (s : List ℕ) (sights : List Sight) (us : List ℤ) (n : ℕ) (r : Reading) : Type 0 where
  pub tree : Tree (length s) sights (drop 8 us) n
  pub marks : r.tag ≡ 0 → some_later s n sights us r ≡ false
