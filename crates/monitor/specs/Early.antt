-- Paper 02, No. 8, of every call of `reading`; proofs/Early.antt proves it (`early`).
-- "A reading answer gains a mark 'early', 1 or 0. It is 1 if and only if the reading is accepted, the table was running
-- and no unit or state altered, and at least one waiting unit wants this type, finds `where` true, and has a first
-- later than the reading."
use Rattle.std.specs.Prelude.{◌≡◌, ◌⊎◌, ◌↔◌, List, ℕ, ℤ, pos}
use Rattle.std.proofs.Math.Option.{some}
use Rattle.csl.specs.Lists.{at}
use Rattle.csl.specs.Syntax.{Agreement}
use Rattle.csl.specs.Check.{checked, accepted}
use Rattle.csl.specs.Outcomes.{Residue, running}
use Rattle.csl.specs.Rules.{Reading}
use Rattle.csl.specs.Table.{Run, run_of}
use Rattle.csl.specs.Entries.{reading_of}
use Rattle.csl.specs.Early.{Awaits, SomeUnit}
use Rattle.csl.specs.Demand3.{Unaltered, fitting}
use Rattle.monitor.specs.Answers.{taken_answer}
use Rattle.monitor.specs.Calls.{Call, number_in, early_in}

-- of agreement a, and the run that the table us shows
pub record TooEarly (a : Agreement) (run : Run) (us : List ℤ) (one : Call) : Type 0 where
  -- "the reading is accepted"
  pub is_accepted : number_in one ≡ 0
  -- "the table was running"
  pub was_running : at us 0 ≡ some (pos 1)
  -- "and no unit or state altered"
  pub unaltered : Unaltered us one.left
  -- "at least one waiting unit wants this type, finds `where` true, and has a first later than the reading"
  pub reading : Reading
  pub says : fitting a one.bytes ≡ some reading
  pub residue : Residue
  pub waits : run.outcome ≡ running residue
  pub awaits : SomeUnit (Awaits a reading) residue

-- what is lent is an accepted agreement and a table that shows a run of it
pub record CameEarly (s : List ℕ) (us : List ℤ) (one : Call) : Type 0 where
  pub agreement : Agreement
  pub mains : List ℕ
  pub run : Run
  pub is_agreement : checked s ≡ accepted agreement mains
  pub is_run : run_of agreement mains us ≡ some run
  pub too_early : TooEarly agreement run us one

-- whatever is lent; the call is what its contract says of it
unfoldable pub EarlyClaim : Type 0
EarlyClaim =
    (s : List ℕ) (us : List ℤ) (one : Call) → taken_answer one.answer one.left ≡ reading_of s us one.bytes
    → ((early_in one ≡ 1) ⊎ (early_in one ≡ 0)) × ((early_in one ≡ 1) ↔ CameEarly s us one)
