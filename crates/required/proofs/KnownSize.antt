-- Paper 02, No. 7, spelled out: from a sized agreement's start no residue passes the main clause's need, and 11 never
-- occurs; each is what `monitor`'s theorem says.
use mathlib.Core.Path.{◌≡◌}
use mathlib.Core.Bool.{true}
use mathlib.Core.List.{List, [], ◌∷◌, ◌++◌}
use mathlib.Core.Logic.{◌≢◌}
use mathlib.Core.Option.{some}
use Prim.Native.Nat.{ℕ, ◌≤◌}
use lib.IntN.{ℤ, pos}
use lib.ListN.{length}
use Rattle.csl.specs.Lists.{at}
use Rattle.csl.specs.Syntax.{Agreement}
use Rattle.csl.specs.Sizes.{main_need, sized}
use Rattle.csl.specs.Check.{accepted, checked}
use Rattle.csl.specs.Needs.{outcome_need}
use Rattle.csl.specs.Run.{started}
use Rattle.csl.specs.Entries.{start_of}
use Rattle.csl.specs.Preview.{preview_of}
use Rattle.csl.specs.Demand3.{AllBytes, Bytes, needed, run_after}
use Rattle.monitor.specs.Answers.{Started, start_answer, taken_answer}
use Rattle.monitor.specs.Calls.{Call, Calls, last_table, number_in, readings_in}
use Rattle.monitor.specs.Demand3.{run_by}
use Rattle.monitor.specs.KnownSize.{KnownSize, StartsBelow, WithinNeed}
use Rattle.monitor.specs.Preview.{Preview, Previews, answer_in}
use Rattle.monitor.proofs.KnownSize.{known_size, starts_below}

module _ (s : List ℕ) (a : Agreement) (mains : List ℕ) (ck : checked s ≡ accepted a mains) (sz : sized a ≡ true)
    (lent : List ℤ) (r : Started) (us : List ℤ) (start : start_answer r us ≡ start_of s lent) where
  -- whatever is lent
  start_below : (start_answer r us).number ≢ 11
  unfolding StartsBelow
  start_below = starts_below s lent a mains r us ck sz start

  module _ (l : length lent ≡ 3080) (hs : Bytes s) (calls : List Call) (hr : AllBytes (readings_in calls))
      (cs : Calls s us calls) where
    claim : WithinNeed s a r us calls
    unfolding KnownSize
    claim = known_size s lent a mains r us calls hs hr ck sz l start cs

    begun : (start_answer r us).number ≡ 0
    begun = claim.begun

    never_eleven : (before : List Call) (one : Call) (later : List Call) → calls ≡ before ++ (one ∷ later)
        → (taken_answer one.answer one.left).number ≢ 11
    unfolding number_in
    never_eleven = claim.never_eleven

    never_foreseen : (before later : List Call) → calls ≡ before ++ later → (p : Preview) → Bytes p.bytes
        → taken_answer p.answer p.left ≡ preview_of s (last_table us before) p.second p.bytes
        → (taken_answer p.answer p.left).number ≢ 11
    unfolding Previews answer_in
    never_foreseen = claim.foreseen

    need : (before later : List Call) → calls ≡ before ++ later
        → outcome_need a (run_after a (started a).run (readings_in before)).outcome ≤ main_need a
    unfolding run_by
    need = claim.need

    room : main_need a ≤ 128
    room = claim.room

    falls : (before : List Call) (one : Call) (later : List Call) → calls ≡ before ++ (one ∷ later)
        → outcome_need a (run_after a (started a).run (readings_in (before ++ (one ∷ [])))).outcome
        ≤ outcome_need a (run_after a (started a).run (readings_in before)).outcome
    unfolding run_by
    falls = claim.falls

    units : (before later : List Call) → calls ≡ before ++ later
        → needed (run_after a (started a).run (readings_in before)).outcome
        ≤ outcome_need a (run_after a (started a).run (readings_in before)).outcome
    unfolding run_by
    units = claim.units

    in_use : (before later : List Call) → calls ≡ before ++ later → (n : ℕ)
        → at (last_table us before) 4 ≡ some (pos n) → n ≤ main_need a
    in_use = claim.in_use
