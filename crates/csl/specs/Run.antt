-- Paper 01, "The run by the rules", and refusals 8 to 11: fed the agreement and the readings' bytes,
-- nothing from a table. Paper 02, No. 1: when it last moved, "judged by its own tables before and after".
use Rattle.std.specs.Prelude.{Bool, true, false, not, ◌&&◌, List, [], ◌∷◌, ℕ, zero, suc, ◌+◌, ◌-◌, ◌/◌, ◌%◌, ltb, eqb}
use Rattle.std.specs.Prelude.{ℤ, length, take, drop}
use Rattle.std.proofs.Math.Option.{Option, none, some}
use Rattle.csl.specs.Lists.{◌>>=◌, need, at}
use Rattle.csl.specs.Numbers.{eq_z}
use Rattle.csl.specs.Bytes.{byte, le32, signed32, is_record, kind_number}
use Rattle.csl.specs.Syntax.{Ty, Agreement}
use Rattle.csl.specs.Decode.{between}
use Rattle.csl.specs.Values.{values_of}
use Rattle.csl.specs.Outcomes.{units, Outcome, done, breach, running, stuck}
use Rattle.csl.specs.Rules.{Reading, activate, follow}
use Rattle.csl.specs.Table.{Run, table_of}

-- ---- a reading's bytes
pub record Raw : Type 0 where
  pub time : ℕ
  pub type : ℕ
  pub numbers : List ℤ

unfoldable pub numbers_from : ℕ → List ℕ → ℕ → List ℤ
numbers_from zero s i = []
numbers_from (suc n) s i = signed32 s i ∷ numbers_from n s (i + 4)

-- "one whole record of kind 64: time (4 bytes), type (1), 0 to 4 values of 4 bytes, signed":
-- refusal 8 where this is none
unfoldable pub raw_reading : List ℕ → Option Raw
raw_reading s = do
  _ ← need (is_record s && eqb (kind_number s) 64)
  _ ← need (between 9 25 (length s) && eqb ((length s - 9) % 4) 0)
  some (record { time = le32 s 4; type = byte s 8; numbers = numbers_from ((length s - 9) / 4) s 9 })

-- "Reading type 0 is a time mark without values"
unfoldable pub values_wanted : Agreement → ℕ → Option (List Ty)
values_wanted a zero = some []
values_wanted a (suc k) = at a.readings k

-- "type over the reading count, wrong value count, or value not of its type or out of its range":
-- refusal 9 where this is none
unfoldable pub typed_reading : Agreement → Raw → Option Reading
typed_reading a r = do
  ts ← values_wanted a r.type
  _ ← need (eqb (length ts) (length r.numbers))
  vs ← values_of a.parties ts r.numbers
  some (record { time = r.time; type = r.type; values = vs.0 })

-- the lowest of 8, 9 and 10 that applies, or the reading
pub data Fit : Type 0 where
  unfit : ℕ → Fit
  fit : Reading → Fit

unfoldable pub fit_of : Agreement → ℕ → List ℕ → Fit
fit_of a now bytes = elim (raw_reading bytes) [
  | none ↦ unfit 8
  | some r ↦ elim (typed_reading a r) [
    | none ↦ unfit 9
    | some d ↦ elim (ltb d.time now) [ true ↦ unfit 10 | false ↦ fit d ]
  ]
]

-- ---- when a run last moved
unfoldable pub same_numbers : List ℤ → List ℤ → Bool
same_numbers [] [] = true
same_numbers [] (y ∷ ys) = false
same_numbers (x ∷ xs) [] = false
same_numbers (x ∷ xs) (y ∷ ys) = eq_z x y && same_numbers xs ys

-- "Altered means that a unit cell or the state cell holds another number afterwards.": the tables before and after,
-- whose state cell is the first and whose unit cells stand behind a head of 8
unfoldable pub altered : List ℤ → List ℤ → Bool
altered before after = not (same_numbers (take 1 before) (take 1 after) && same_numbers (drop 8 before) (drop 8 after))

-- "the time of the last reading that altered a unit or the state": this one's, or as it was
unfoldable pub moved_by : Run → Run → ℕ
moved_by before after = elim (altered (table_of before) (table_of after)) [
  | true ↦ after.last_time
  | false ↦ before.last_moved
]

-- the run that a reading at `time` leads to, with this outcome; no cell that is judged tells when it last moved
unfoldable pub read_at : Run → ℕ → Outcome → Run
read_at r time o =
    let after : Run = record { last_time = time; last_moved = r.last_moved; outcome = o } in
    record { last_time = time; last_moved = moved_by r after; outcome = o }

-- ---- the run
-- "Over 128 units is 11"
unfoldable pub too_many : Outcome → Bool
too_many done = false
too_many (breach t ps) = false
too_many (running r) = ltb 128 (units r)
too_many stuck = false

-- a number, and the run after it
pub record Stepped : Type 0 where
  pub number : ℕ
  pub run : Run

-- "over 128 units it is 11 and nothing changes, otherwise 0"
unfoldable pub kept : Run → Run → Stepped
kept before next = elim (too_many next.outcome) [
  | true ↦ record { number = 11; run = before }
  | false ↦ record { number = 0; run = next }
]

-- "the main clause is activated at the start time, which is the last reading time at first"; paper 02, No. 1: "It
-- begins as the start time"
unfoldable pub started : Agreement → Stepped
started a =
    let o = activate a.templates a.main (record { params = []; values = [] }) a.start in
    let r : Run = record { last_time = a.start; last_moved = a.start; outcome = o } in
    kept r r

-- "Else, once breached, it is 0 and nothing changes. Else it is followed"
unfoldable pub followed : Agreement → Run → Reading → Stepped
followed a r d = elim r.outcome [
  | done ↦ record { number = 0; run = read_at r d.time done }
  | breach t ps ↦ record { number = 0; run = r }
  | running res ↦ kept r (read_at r d.time (follow a d res))
  | stuck ↦ record { number = 0; run = r }
]

-- "if 8, 9 or 10 applies, the lowest is its number and nothing changes"
unfoldable pub step : Agreement → Run → List ℕ → Stepped
step a r bytes = elim (fit_of a r.last_time bytes) [
  | unfit n ↦ record { number = n; run = r }
  | fit d ↦ followed a r d
]

-- what a proof by computation unfolds
unfoldable pub computes : Unit {0}
unfolding numbers_from raw_reading values_wanted typed_reading fit_of same_numbers altered moved_by read_at too_many
    kept started followed step
computes = tt
