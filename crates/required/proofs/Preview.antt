-- Paper 02, No. 6, spelled out: a preview beside a reading of a copy, whatever is lent; each is what `monitor`'s
-- theorem says.
use mathlib.Core.Path.{◌≡◌}
use mathlib.Core.Logic.{◌≢◌}
use mathlib.Core.List.{List}
use Prim.Native.Nat.{ℕ}
use lib.IntN.{ℤ}
use lib.ListN.{length}
use Rattle.csl.specs.Syntax.{Agreement}
use Rattle.csl.specs.Check.{accepted, checked, refused}
use Rattle.csl.specs.Entries.{reading_of, untold}
use Rattle.csl.specs.Preview.{preview_of}
use Rattle.monitor.specs.Answers.{taken_answer}
use Rattle.monitor.specs.Calls.{Call, cost_in, early_in, forecast_in, number_in}
use Rattle.monitor.specs.Preview.{AsOnACopy, Preview, PreviewClaim, Previews, UnderSix, answer_in}
use Rattle.monitor.proofs.Copies.{previews_claim}

module _ (s : List ℕ) (us : List ℤ) (p : Preview)
    (asked : taken_answer p.answer p.left ≡ preview_of s us p.second p.bytes) where
  claim : (length p.second ≡ 3080 → (one : Call) → one.bytes ≡ p.bytes
      → taken_answer one.answer one.left ≡ reading_of s us one.bytes → AsOnACopy p one)
      × ((length p.second ≡ 3080 → ⊥) → UnderSix s p)
  unfolding PreviewClaim Previews answer_in
  claim = previews_claim s us p asked

  -- a second table of the same length, and a reading of a copy
  module _ (long : length p.second ≡ 3080) (one : Call) (same : one.bytes ≡ p.bytes)
      (made : taken_answer one.answer one.left ≡ reading_of s us one.bytes) where
    copy : AsOnACopy p one
    copy = claim.0 long one same made

    same_number : (taken_answer p.answer p.left).number ≡ (taken_answer one.answer one.left).number
    unfolding number_in answer_in
    same_number = copy.number

    same_forecast : (taken_answer p.answer p.left).forecast ≡ (taken_answer one.answer one.left).forecast
    unfolding forecast_in answer_in
    same_forecast = copy.forecast

    same_mark : (taken_answer p.answer p.left).early ≡ (taken_answer one.answer one.left).early
    unfolding early_in answer_in
    same_mark = copy.early

    same_cost : (taken_answer p.answer p.left).cost ≡ (taken_answer one.answer one.left).cost
    unfolding cost_in answer_in
    same_cost = copy.cost

    cell_for_cell : (taken_answer one.answer one.left).number ≡ 0 → p.left ≡ one.left
    unfolding number_in
    cell_for_cell = copy.outcome

    untouched : (taken_answer one.answer one.left).number ≢ 0 → p.left ≡ p.second
    unfolding number_in
    untouched = copy.untouched

  -- a second table of another length
  module _ (short : length p.second ≡ 3080 → ⊥) where
    under : UnderSix s p
    under = claim.1 short

    by_check : (n : ℕ) → checked s ≡ refused n → (taken_answer p.answer p.left).number ≡ n
    unfolding answer_in
    by_check = under.by_check

    six : (a : Agreement) (mains : List ℕ) → checked s ≡ accepted a mains
        → (taken_answer p.answer p.left).number ≡ 6
    unfolding answer_in
    six = under.six

    zeros : ((taken_answer p.answer p.left).forecast ≡ untold)
        × ((taken_answer p.answer p.left).early ≡ 0)
        × ((taken_answer p.answer p.left).cost ≡ 0)
    unfolding answer_in
    zeros = (under.untold, under.early, under.cost)

    stays : p.left ≡ p.second
    stays = under.untouched
