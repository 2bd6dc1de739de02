-- Paper 02, No. 9, one claim about a call of `reading`; proofs/Cost.antt proves it (`cost_claim`).
-- "On a fulfilled or breached table, and on a refusal other than 11, the count is 0; on 11 it is the refused reading's,
-- and not zero [..]. The count equals the one in the definitions. It is at most 65,792 for each unit read, so at most
-- 8,421,376 a reading."
use Rattle.std.specs.Prelude.{◌≡◌, ◌≢◌, List, ℕ, ◌*◌, ◌≤◌, ℤ, pos, length}
use Rattle.std.proofs.Math.Option.{some}
use Rattle.csl.specs.Lists.{at}
use Rattle.csl.specs.Syntax.{Agreement}
use Rattle.csl.specs.Check.{checked, accepted}
use Rattle.csl.specs.Table.{Run, run_of, table_length}
use Rattle.csl.specs.Cost.{cost_of}
use Rattle.csl.specs.Entries.{reading_of}
use Rattle.monitor.specs.Answers.{taken_answer}
use Rattle.monitor.specs.Calls.{Call, number_in, cost_in}

-- of agreement s and table us, of which head cell 0 is the state and head cell 4 the number of units in use
pub record Costs (s : List ℕ) (us : List ℤ) (one : Call) : Type 0 where
  -- "The count equals the one in the definitions."
  pub equals : (a : Agreement) (mains : List ℕ) (run : Run) → checked s ≡ accepted a mains → length us ≡ table_length
      → run_of a mains us ≡ some run → cost_in one ≡ cost_of a run one.bytes
  -- "On a fulfilled or breached table [..] the count is 0"
  pub not_running : at us 0 ≢ some (pos 1) → cost_in one ≡ 0
  -- "and on a refusal other than 11"
  pub refused : number_in one ≢ 0 → number_in one ≢ 11 → cost_in one ≡ 0
  -- "on 11 it is the refused reading's, and not zero"
  pub not_zero : number_in one ≡ 11 → cost_in one ≢ 0
  -- "It is at most 65,792 for each unit read, so at most 8,421,376 a reading."
  pub each_unit : (used : ℕ) → at us 4 ≡ some (pos used) → cost_in one ≤ 65_792 * used
  pub at_most : cost_in one ≤ 8_421_376

-- whatever is lent; the call is what its contract says of it
unfoldable pub CostClaim : Type 0
CostClaim =
    (s : List ℕ) (us : List ℤ) (one : Call) → taken_answer one.answer one.left ≡ reading_of s us one.bytes
    → Costs s us one
