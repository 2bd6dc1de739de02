-- Paper 02, No. 8, spelled out: "A reading answer gains a mark 'early', 1 or 0. It is 1 if and only if the reading is
-- accepted, the table was running and no unit or state altered, and at least one waiting unit wants this type, finds
-- `where` true, and has a first later than the reading."; and "the window test must tell early from late".
use mathlib.Core.Path.{◌≡◌}
use mathlib.Core.Bool.{true, false}
use mathlib.Core.List.{List, ◌++◌}
use mathlib.Core.Logic.{◌⊎◌, ◌↔◌}
use mathlib.Core.Option.{some}
use Prim.Native.Nat.{ℕ}
use lib.IntN.{ℤ, pos}
use lib.ListN.{drop}
use lib.Signed.{lt_z, ◌<ℤ◌}
use Rattle.csl.specs.Lists.{at}
use Rattle.csl.specs.Syntax.{Agreement, Wait}
use Rattle.csl.specs.Check.{checked, accepted}
use Rattle.csl.specs.Values.{eval_bool}
use Rattle.csl.specs.Outcomes.{Residue, Sight, Sort, both, running, unit}
use Rattle.csl.specs.Syntax.{Join}
use Rattle.csl.specs.Places.{Found, clause_at}
use Rattle.csl.specs.Rules.{Reading, Window, early, late, on_time, timing, window}
use Rattle.csl.specs.Table.{Run, run_of}
use Rattle.csl.specs.Entries.{reading_of}
use Rattle.csl.specs.Early.{Awaits, SomeUnit, wait_in}
use Rattle.csl.specs.Demand3.{Unaltered, fitting}
use Rattle.laws.proofs.Timings.{timing_early, timing_late, timing_on_time}
use Rattle.monitor.specs.Answers.{taken_answer}
use Rattle.monitor.specs.Calls.{Call, number_in, early_in}
use Rattle.monitor.specs.Early.{CameEarly, EarlyClaim}
use Rattle.monitor.proofs.Early as claims

-- ---- the window test: late comes first, and the two others are told apart
is_late : (v : Window) (t : ℕ) → lt_z v.last (pos t) ≡ true → timing v t ≡ late
is_late = timing_late

is_early : (v : Window) (t : ℕ) → lt_z v.last (pos t) ≡ false → lt_z (pos t) v.first ≡ true → timing v t ≡ early
is_early = timing_early

is_on_time : (v : Window) (t : ℕ) → lt_z v.last (pos t) ≡ false → lt_z (pos t) v.first ≡ false
    → timing v t ≡ on_time
is_on_time = timing_on_time

-- ---- the words
some_unit : (P : ℕ → ℕ → Sight → Type 0) (k : Sort) (p t : ℕ) (e : Sight) → P p t e → SomeUnit P (unit k p t e)
unfolding SomeUnit
some_unit P k p t e h = h

some_side : (P : ℕ → ℕ → Sight → Type 0) (j : Join) (l r : Residue) → SomeUnit P l ⊎ SomeUnit P r
    → SomeUnit P (both j l r)
unfolding SomeUnit
some_side P j l r h = h

awaits : (a : Agreement) (d : Reading) (p t : ℕ) (e : Sight) (f : Found) (w : Wait) (v : Window)
    → clause_at a p ≡ some f → wait_in f.clause ≡ some w → w.wanted ≡ d.type
    → eval_bool (e.values ++ d.values) w.condition ≡ some true → window e t w ≡ some v
    → pos d.time <ℤ v.first → Awaits a d p t e
awaits a d p t e f w v is_at waits wants finds is_opens later = record {
  found = f;
  is_at = is_at;
  wait = w;
  waits = waits;
  wants = wants;
  finds = finds;
  opens = v;
  is_opens = is_opens;
  later = later;
}

-- ---- whatever is lent to `reading`
module _ (s : List ℕ) (us : List ℤ) (one : Call)
    (meets : taken_answer one.answer one.left ≡ reading_of s us one.bytes) where
  claim : ((early_in one ≡ 1) ⊎ (early_in one ≡ 0)) × ((early_in one ≡ 1) ↔ CameEarly s us one)
  unfolding EarlyClaim
  claim = claims.early s us one meets

  one_or_zero : (early_in one ≡ 1) ⊎ (early_in one ≡ 0)
  one_or_zero = claim.0

  module _ (e : early_in one ≡ 1) where
    came : CameEarly s us one
    came = claim.1.0 e

    of_an_agreement : checked s ≡ accepted came.agreement came.mains
    of_an_agreement = came.is_agreement

    of_its_table : run_of came.agreement came.mains us ≡ some came.run
    of_its_table = came.is_run

    was_accepted : number_in one ≡ 0
    was_accepted = came.too_early.is_accepted

    was_running_lem : at us 0 ≡ some (pos 1)
    was_running_lem = came.too_early.was_running

    was_unaltered : (at us 0 ≡ at one.left 0) × (drop 8 us ≡ drop 8 one.left)
    unfolding Unaltered
    was_unaltered = came.too_early.unaltered

    some_awaits : (d : Reading) × (res : Residue) × (fitting came.agreement one.bytes ≡ some d)
        × (came.run.outcome ≡ running res) × SomeUnit (Awaits came.agreement d) res
    some_awaits = let x = came.too_early in (x.reading, x.residue, x.says, x.waits, x.awaits)

  -- and the other way round
  is_one : (a : Agreement) (mains : List ℕ) (q : Run) (d : Reading) (res : Residue) → checked s ≡ accepted a mains
      → run_of a mains us ≡ some q → number_in one ≡ 0 → at us 0 ≡ some (pos 1) → Unaltered us one.left
      → fitting a one.bytes ≡ some d → q.outcome ≡ running res → SomeUnit (Awaits a d) res → early_in one ≡ 1
  is_one a mains q d res ck is zero runs same says waits some_unit = claim.1.1 (record {
    agreement = a;
    mains = mains;
    run = q;
    is_agreement = ck;
    is_run = is;
    too_early = record {
      is_accepted = zero;
      was_running = runs;
      unaltered = same;
      reading = d;
      says = says;
      residue = res;
      waits = waits;
      awaits = some_unit;
    };
  })
