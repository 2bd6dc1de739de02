-- Laws for a reading's bytes: when they are a reading, and its numbers as they are stored.
use mathlib.Core.Path.{◌≡◌, refl, sym, ap, ◌∙◌}
use mathlib.Core.Bool.{Bool, true, false, ◌&&◌}
use mathlib.Core.List.{List, [], ◌∷◌, ◌++◌}
use mathlib.Core.Option.{none}
use Prim.Native.Nat.{ℕ, zero, suc, ◌+◌, ◌-◌, ◌*◌, ◌/◌, ◌%◌, ◌≤◌, ◌<◌}
use native.Mathlib.Decide.{dec_le}
use native.Mathlib.Numerals.{add-one, unary_clauses}
use native.Mathlib.Omega.{arith}
use borrow.Author.Tests.{le-leb, lt-leb, eq-eqb, ne_eqb}
use lib.Dec.{leb, eqb, leb→le, eqb→eq}
use lib.IntN.{ℤ}
use lib.ListN.{length, take, set}
use lib.Seq.{take-suc-set}
use Rattle.csl.specs.Bytes.{byte, le32, signed32, is_record, kind_number}
use Rattle.csl.specs.Decode.{between}
use Rattle.csl.specs.Run as run
use Rattle.csl.specs.Run.{raw_reading, numbers_from}
use Rattle.laws.proofs.Bools.{both_true, T→true, true→T, refused}
use Rattle.readings.specs.declared.reading.Reading.{Reading as Read}
use Rattle.readings.specs.Values.{values_read}
use Rattle.std.specs.Prelude.{Option, Some}
use Rattle.std.specs.Bool.{then_some}
use Rattle.readings.specs.Taking.{given, CountIs, RawRead}
use Rattle.readings.proofs.Options.{given_none, given_needs, some_needs}

-- ---- the bytes are a reading, but that its values may be too many, and cut short
pub record Holds (s : List ℕ) : Type 0 where
  pub is_one : is_record s ≡ true
  pub kind : kind_number s ≡ 64
  pub long : 9 ≤ length s

module _ (s : List ℕ) where
  abbrev is_kind : Bool
  is_kind = is_record s && eqb (kind_number s) 64

  abbrev in_length : Bool
  in_length = between 9 25 (length s) && eqb ((length s - 9) % 4) 0

  abbrev raw_of : run.Raw
  raw_of = record { time = le32 s 4; type = byte s 8; numbers = numbers_from ((length s - 9) / 4) s 9 }

  tests : given (raw_reading s) ≡ is_kind && in_length
  unfolding raw_reading
  tests = given_needs is_kind in_length raw_of

  holds : {C : Type 0} → given (raw_reading s) ≡ true → (Holds s → length s ≤ 25 → C) → C
  unfolding between
  holds e k =
      both_true is_kind in_length (true→T (sym tests ∙ e)) λ t₁ t₂.
      both_true (is_record s) (eqb (kind_number s) 64) t₁ λ h₁ h₂.
      both_true (between 9 25 (length s)) _ t₂ λ t₃ h₅.
      both_true (leb 9 (length s)) (leb (length s) 25) t₃ λ h₃ h₄.
      k
      record {
        is_one = T→true (is_record s) h₁;
        kind = eqb→eq (kind_number s) 64 h₂;
        long = leb→le 9 (length s) h₃;
      }
      (leb→le (length s) 25 h₄)

  pub raw_none : (is_record s ≡ true → kind_number s ≡ 64 → 9 ≤ length s → length s ≤ 25 → ⊥)
      → given (raw_reading s) ≡ false
  raw_none f = sym (refused (given (raw_reading s)) λ t. holds (T→true _ t) λ h l. f h.is_one h.kind h.long l)

  -- where there is no room for a fifth value, the last test asks that there are at most four
  last : length s < 29 → leb (length s) 25 && eqb ((length s - 9) % 4) 0 ≡ eqb ((length s - 9) % 4) 0
  last l = go (dec_le (length s) 25)
    where
      go : Dec (length s ≤ 25) → leb (length s) 25 && eqb ((length s - 9) % 4) 0 ≡ eqb ((length s - 9) % 4) 0
      go (yes h) = rw (le-leb (length s) 25 h) refl
      go (no h) = rw (lt-leb (length s) 25 (omega arith), ne_eqb ((length s - 9) % 4) 0 (λ e. omega arith)) refl

  -- what it says is then whether they are a reading
  raw_last : Holds s → length s < 29 → given (raw_reading s) ≡ eqb ((length s - 9) % 4) 0
  unfolding between
  raw_last h l = tests
      ∙ rw (h.is_one, eq-eqb (kind_number s) 64 h.kind, le-leb 9 (length s) h.long) (last l)

  pub raw_count : is_record s ≡ true → kind_number s ≡ 64 → 9 ≤ length s → length s < 29 → {o : Option ℕ}
      → o ≡ then_some (eqb ((length s - 9) % 4) 0) ((length s - 9) / 4) → CountIs s o
  raw_count r k m l p = rw p (go (eqb ((length s - 9) % 4) 0)
      (raw_last (record { is_one = r; kind = k; long = m }) l))
    where
      go : (b : Bool) → given (raw_reading s) ≡ b → CountIs s (then_some b ((length s - 9) / 4))
      go true q = (q, refl, omega (arith, l))
      go false q = q

-- ---- its numbers
numbers_length : (n : ℕ) (s : List ℕ) (i : ℕ) → length (numbers_from n s i) ≡ n
unfolding numbers_from
numbers_length zero s i = refl
numbers_length (suc n) s i = ap suc (numbers_length n s (i + 4))

numbers_suc : (n : ℕ) (s : List ℕ) (i : ℕ) → numbers_from (suc n) s i ≡ numbers_from n s i
    ++ (signed32 s (i + 4 * n) ∷ [])
unfolding numbers_from
numbers_suc zero s i = simp unary_clauses refl
numbers_suc (suc n) s i =
    let k : i + 4 + 4 * n ≡ i + 4 * suc n = omega arith in
    ap (λ (t : List ℤ). signed32 s i ∷ t) (rw k at (numbers_suc n s (i + 4)))

-- one number more, read at a
pub numbers_more : (s : List ℕ) (vs : List ℤ) (i : ℕ) {a : ℕ} {z : ℤ} → take i vs ≡ numbers_from i s 9
    → a ≡ 9 + 4 * i → z ≡ signed32 s a → i < length vs → take (i + 1) (set vs i z) ≡ numbers_from (i + 1) s 9
numbers_more s vs i {z = z} h p q l = rw (add-one i, take-suc-set vs i z l, h, q, p) (sym (numbers_suc i s 9))

pub numbers_none : (s : List ℕ) → [] ≡ numbers_from 0 s 9
unfolding numbers_from
numbers_none s = refl

-- ---- n is how many there are
pub raw_bad : (s : List ℕ) → given (raw_reading s) ≡ false → raw_reading s ≡ none
raw_bad s e = given_none (raw_reading s) e

pub raw_read : (s : List ℕ) (r : Read) → CountIs s (Some r.count) → take r.count r.cells ≡ numbers_from r.count s 9
    → r.time ≡ le32 s 4 → r.time < 4_294_967_296 → r.tag ≡ byte s 8 → RawRead s r
unfolding raw_reading values_read
raw_read s r y q g l h = record {
  raw = raw_of s;
  is = some_needs (is_kind s) (in_length s) (raw_of s) y.0;
  time = g;
  type = h;
  numbers = q ∙ ap (λ i. numbers_from i s 9) y.1;
  few = omega (arith, ap length q, numbers_length r.count s 9, y.2);
  small = l;
}
