-- Where records end: within the bytes, and not before they begin.
use mathlib.Core.List.{List}
use Prim.Native.Nat.{ℕ, zero, suc, ◌+◌, ◌≤◌, min}
use native.Mathlib.Omega.{arith}
use lib.ListN.{length}
use Rattle.csl.specs.Bytes.{record_end}
use Rattle.csl.specs.Decode.{records_end, wait_end}

module _ (s : List ℕ) where
  -- ---- a record
  pub record_end_within : (a : ℕ) → record_end s a ≤ length s
  unfolding record_end
  record_end_within a = omega arith

  pub record_end_from : (a : ℕ) → min a (length s) ≤ record_end s a
  unfolding record_end
  record_end_from a = omega arith

  pub record_end_after : (a : ℕ) → a ≤ length s → a ≤ record_end s a
  unfolding record_end
  record_end_after a h = omega arith

  -- ---- what a waiting clause asks
  pub wait_within : (i : ℕ) → wait_end s i ≤ length s
  unfolding wait_end
  wait_within i = record_end_within (record_end s (record_end s (i + 1)))

  pub wait_from : (i : ℕ) → min (i + 1) (length s) ≤ wait_end s i
  unfolding wait_end
  wait_from i =
      let a = record_end s (i + 1) in
      let b = record_end s a in
      omega (
        arith,
        record_end_from (i + 1),
        record_end_from a,
        record_end_from b,
        record_end_within (i + 1),
        record_end_within a,
      )

-- ---- n records in a row
pub pieces_within : (n : ℕ) (s : List ℕ) (i : ℕ) → i ≤ length s → records_end n s i ≤ length s
unfolding records_end
pieces_within zero s i l = l
pieces_within (suc n) s i l = pieces_within n s (record_end s i) (record_end_within s i)

pub some_within : (n : ℕ) (s : List ℕ) (i : ℕ) → 1 ≤ n → records_end n s i ≤ length s
unfolding records_end
some_within zero s i l = absurd (omega arith)
some_within (suc n) s i l = pieces_within n s (record_end s i) (record_end_within s i)
