-- What the code answers for a reading's bytes, by csl's functions. The cases exclude one another, so each answer is
-- given just where its case holds.
use Rattle.std.specs.Prelude.{◌≡◌, Bool, true, false, List, ℕ, ◌≤◌, ◌<◌, ◌-◌, ◌/◌, ℤ, length, Option, Some, None}
use Rattle.std.specs.Prelude.{Result, Ok, Err}
use Rattle.std.proofs.Math.Option.{Option as Math, none, some}
use Rattle.csl.specs.Decode.{agreement_of}
use Rattle.csl.specs.Rules.{Reading}
use Rattle.csl.specs.Run as run
use Rattle.csl.specs.Run.{raw_reading, typed_reading}
use Rattle.csl.specs.Table.{cells_of}
use Rattle.readings.specs.declared.reading.Reading.{Reading as Read}
use Rattle.readings.specs.Values.{values_read}
use Rattle.readings.specs.declared.Misfit.{Misfit}
use Rattle.readings.specs.declared.Misfit.TheVariants.{Malformed, Untyped}

-- whether there is one
unfoldable pub given : {A : Type 0} → Math A → Bool
given none = false
given (some a) = true

-- ---- refusal 8
-- the bytes are a reading of so many values
abbrev pub CountIs : List ℕ → Option ℕ → Type 0
CountIs bytes None = given (raw_reading bytes) ≡ false
CountIs bytes (Some n) = (given (raw_reading bytes) ≡ true) × (n ≡ (length bytes - 9) / 4) × (n ≤ 4)

-- the bytes are the reading r
pub record RawRead (bytes : List ℕ) (r : Read) : Type 0 where
  pub raw : run.Raw
  pub is : raw_reading bytes ≡ some raw
  pub time : r.time ≡ raw.time
  pub type : r.tag ≡ raw.type
  pub numbers : values_read r ≡ raw.numbers
  pub few : length (values_read r) ≤ 4
  pub small : r.time < 4_294_967_296

abbrev pub RawIs : List ℕ → Option Read → Type 0
RawIs bytes None = raw_reading bytes ≡ none
RawIs bytes (Some r) = RawRead bytes r

-- ---- refusal 9
-- whether numbers zs are a reading of type k, whatever its time
pub record TypedIs (s : List ℕ) (k : ℕ) (zs : List ℤ) (r : Bool) : Type 0 where
  pub is : (w : run.Raw) → k ≡ w.type → zs ≡ w.numbers → r ≡ given (typed_reading (agreement_of s) w)

pub record UntypedRead (s bytes : List ℕ) : Type 0 where
  pub raw : run.Raw
  pub is : raw_reading bytes ≡ some raw
  pub untyped : typed_reading (agreement_of s) raw ≡ none

-- the reading r fits, and its values are the cells of those of a reading
pub record FittingRead (s bytes : List ℕ) (r : Read) : Type 0 where
  pub raw : run.Raw
  pub reading : Reading
  pub is : raw_reading bytes ≡ some raw
  pub typed : typed_reading (agreement_of s) raw ≡ some reading
  pub time : r.time ≡ reading.time
  pub type : r.tag ≡ reading.type
  pub count : length (values_read r) ≡ length reading.values
  pub cells : values_read r ≡ cells_of reading.values
  pub few : length (values_read r) ≤ 4
  pub small : r.time < 4_294_967_296

abbrev pub TakenIs : List ℕ → List ℕ → Result Read Misfit → Type 0
TakenIs s bytes (Err Malformed) = raw_reading bytes ≡ none
TakenIs s bytes (Err Untyped) = UntypedRead s bytes
TakenIs s bytes (Ok r) = FittingRead s bytes r
