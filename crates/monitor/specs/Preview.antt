-- Paper 02, No. 6, one claim about a call of `preview`; proofs/Copies.antt proves it (`previews_claim`).
-- "A preview takes agreement, table and reading, and writes the outcome into a second table of the same length. It
-- answers as the reading itself would on a copy, refusals included, and the first table is only read. On a refusal the
-- second table is untouched. A second table of wrong length counts under 6."
-- The first table is lent as `&`, so that no call can write it.
use Rattle.std.specs.Prelude.{◌≡◌, ◌≢◌, List, ℕ, ℤ, length}
use Rattle.csl.specs.Syntax.{Agreement}
use Rattle.csl.specs.Check.{accepted, checked, refused}
use Rattle.csl.specs.Table.{table_length}
use Rattle.csl.specs.Entries as entries
use Rattle.csl.specs.Entries.{ReadingAnswer, reading_of}
use Rattle.csl.specs.Preview.{preview_of}
use Rattle.monitor.specs.Answers.{TakenOrRefused, taken_answer}
use Rattle.monitor.specs.Calls.{Call, cost_in, early_in, forecast_in, number_in}

-- one call: the reading's bytes, what the second table held, the answer, and what the second table was left with
pub record Preview : Type 0 where
  pub bytes : List ℕ
  pub second : List ℤ
  pub answer : TakenOrRefused
  pub left : List ℤ

unfoldable pub answer_in : Preview → ReadingAnswer
answer_in p = taken_answer p.answer p.left

-- it meets the contract of `preview`, for agreement s and the first table us
unfoldable pub Previews : List ℕ → List ℤ → Preview → Type 0
Previews s us p = answer_in p ≡ preview_of s us p.second p.bytes

-- a preview beside a reading of the same bytes on a copy of the first table, of which it leaves `one.left`
pub record AsOnACopy (p : Preview) (one : Call) : Type 0 where
  -- "It answers as the reading itself would on a copy, refusals included"
  pub number : (answer_in p).number ≡ number_in one
  pub forecast : (answer_in p).forecast ≡ forecast_in one
  pub early : (answer_in p).early ≡ early_in one
  -- No. 9: "on 11 it is the refused reading's, and not zero, [..] (in a preview too)"
  pub cost : (answer_in p).cost ≡ cost_in one
  -- it "writes the outcome into a second table", cell for cell what the reading leaves
  pub outcome : number_in one ≡ 0 → p.left ≡ one.left
  -- "On a refusal the second table is untouched."
  pub untouched : number_in one ≢ 0 → p.left ≡ p.second

-- "A second table of wrong length counts under 6.", which comes after 1 to 5 and 15: its other results are zero
pub record UnderSix (s : List ℕ) (p : Preview) : Type 0 where
  pub by_check : (n : ℕ) → checked s ≡ refused n → (answer_in p).number ≡ n
  pub six : (a : Agreement) (mains : List ℕ) → checked s ≡ accepted a mains → (answer_in p).number ≡ 6
  pub untold : (answer_in p).forecast ≡ entries.untold
  pub early : (answer_in p).early ≡ 0
  pub cost : (answer_in p).cost ≡ 0
  pub untouched : p.left ≡ p.second

-- whatever is lent; both calls are what their contracts say of them
unfoldable pub PreviewClaim : Type 0
PreviewClaim =
    (s : List ℕ) (us : List ℤ) (p : Preview) → Previews s us p
    → (length p.second ≡ table_length → (one : Call) → one.bytes ≡ p.bytes
    → taken_answer one.answer one.left ≡ reading_of s us one.bytes → AsOnACopy p one)
    × ((length p.second ≡ table_length → ⊥) → UnderSix s p)
