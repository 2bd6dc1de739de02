-- Paper 02, No. 9, spelled out: what a reading's answer says of its cost, whatever is lent, and how the cost is
-- counted.
use mathlib.Core.Path.{◌≡◌}
use mathlib.Core.Logic.{◌≢◌}
use mathlib.Core.List.{List}
use mathlib.Core.Option.{some}
use Prim.Native.Nat.{ℕ, ◌+◌, ◌*◌, ◌≤◌}
use lib.IntN.{ℤ, pos}
use lib.ListN.{length}
use Rattle.csl.specs.Lists.{at}
use Rattle.csl.specs.Syntax.{Ty, Clause, Agreement}
use Rattle.csl.specs.Typing.{names_of, type_clause}
use Rattle.csl.specs.Check.{checked, accepted}
use Rattle.csl.specs.Outcomes.{Sight, Residue, units}
use Rattle.csl.specs.Rules.{Reading, activate, during, following}
use Rattle.csl.specs.Reckoning as Open
use Rattle.csl.specs.Table.{Run, run_of, table_length}
use Rattle.csl.specs.Cost.{cost_from, cost_of, follow_cost, tallies, total}
use Rattle.csl.specs.Entries.{reading_of}
use Rattle.csl.specs.Demand3.{needed, reached}
use Rattle.soundness.proofs.Good.{Ok, Placed, SightOk}
use Rattle.soundness.proofs.Walks.{Fair}
use Rattle.soundness.proofs.Following.{ReadingOk}
use Rattle.soundness.proofs.CostUnits.{units_cost, units_read}
use Rattle.soundness.proofs.CostElse.{else_cost}
use Rattle.monitor.specs.Answers.{taken_answer}
use Rattle.monitor.specs.Calls.{Call, cost_in, number_in}
use Rattle.monitor.specs.Cost.{CostClaim, Costs}
use Rattle.monitor.proofs.Cost.{cost_claim}

-- ---- whatever is lent to `reading`
module _ (s : List ℕ) (us : List ℤ) (one : Call)
    (meets : taken_answer one.answer one.left ≡ reading_of s us one.bytes) where
  claim : Costs s us one
  unfolding CostClaim
  claim = cost_claim s us one meets

  -- "The count equals the one in the definitions."
  equals : (a : Agreement) (mains : List ℕ) (run : Run) → checked s ≡ accepted a mains → length us ≡ table_length
      → run_of a mains us ≡ some run → cost_in one ≡ cost_of a run one.bytes
  equals = claim.equals

  -- "On a fulfilled or breached table, and on a refusal other than 11, the count is 0"
  not_running_lem : at us 0 ≢ some (pos 1) → cost_in one ≡ 0
  not_running_lem = claim.not_running

  refused : number_in one ≢ 0 → number_in one ≢ 11 → cost_in one ≡ 0
  refused = claim.refused

  -- "on 11 it is the refused reading's, and not zero"
  not_zero_lem : number_in one ≡ 11 → cost_in one ≢ 0
  not_zero_lem = claim.not_zero

  -- "It is at most 65,792 for each unit read, so at most 8,421,376 a reading."
  each_unit_lem : (used : ℕ) → at us 4 ≡ some (pos used) → cost_in one ≤ 65_792 * used
  each_unit_lem = claim.each_unit

  at_most_lem : cost_in one ≤ 8_421_376
  at_most_lem = claim.at_most

-- ---- how it is counted: "one for each unit of the table read, which is every unit in use"
module _ (a : Agreement) (d : Reading) (W : ℕ → Type 0) (res : Residue) (ps : List ℕ) (ok : Ok a W res ps) where
  each_unit_read : (Open.follow tallies a d res).activated ≡ units res
  each_unit_read = units_read a d W res ps ok

  no_less : units res ≤ follow_cost a d res
  no_less = units_cost a d W res ps ok

-- "A choice activates its else at that time, and the else follows this same reading.": a clause c that does so, as a
-- whole first activated and then followed by what waits. "an else that follows the same reading is not counted again
-- for that": its cost is what is activated with it and what following costs, less the units that follow
module _ (a : Agreement) (mains : List ℕ) (fair : Fair a mains) (d : Reading) (ok : ReadingOk a d) where
  in_two_stages : (c : Clause) (n : ℕ) (env : List Ty) (e : Sight) (v : ℕ) (bs : List ℕ) → SightOk a n env e
      → (a.start ≤ v) × (v ≤ d.time) → type_clause (names_of a n) env c ≡ some bs → Placed a n env c
      → (during (following a.templates d) a.templates c e v ≡ reached a (activate a.templates c e v) d)
      × (total (Open.during tallies (Open.following tallies a.templates d) a.templates c e v)
      + needed (activate a.templates c e v) ≡ (Open.activate tallies a.templates c e v).activated
      + cost_from a (activate a.templates c e v) d)
  in_two_stages = else_cost a mains fair d ok
