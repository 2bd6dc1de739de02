-- What the program writes for an input, and which tables are well typed.
use mathlib.Core.Path.{◌≡◌}
use mathlib.Core.Logic.{◌↔◌}
use mathlib.Core.Bool.{Bool, true, false}
use mathlib.Core.List.{List, [], ◌∷◌, ◌++◌, map}
use mathlib.Core.Option.{some}
use Prim.Native.Nat.{ℕ}
use lib.IntN.{ℤ}
use lib.ListN.{length}
use Rattle.csl.specs.Syntax.{Agreement}
use Rattle.csl.specs.Table.{Run, run_of, table_of}
use Rattle.soundness.proofs.Walks.{Fair}
use Rattle.soundness.proofs.Runs.{Inv}
use Rattle.soundness.proofs.ReadBack.{well_typed}
use Rattle.stream.specs.Records.{records_of}
use Rattle.watch.specs.Steps.{Comes}
use Rattle.watch.specs.Watched.{watched, zeros}
use Rattle.watch.proofs.Session.{BeginCall, Session, watched_is}
use Rattle.watch.specs.Trials.{trials, trials_pass}

-- the start's line and then, call by call, all that is put: the bytes that are defined for the input, however it came
lines_are : (whole s : List ℕ) (cells₂ : List ℤ) (page : List ℕ) (go : Bool) (input : List ℕ) (ended : Bool)
    (more w : List ℕ)
    → records_of whole ≡ s ∷ records_of (input ++ more) → BeginCall s zeros cells₂ page go → Comes ended more
    → (go ≡ true → Session s cells₂ 1 input ended more w) → (go ≡ false → w ≡ [])
    → page ++ w ≡ watched whole
lines_are = watched_is

-- the paper's transcript and more, byte for byte
lines_tried : map (λ t. watched t.input) trials ≡ map (λ t. t.written) trials
lines_tried = trials_pass

-- 7 does not apply to 3,080 cells if and only if they are the table of a well-typed run
tables_typed : (a : Agreement) (mains : List ℕ) (cells : List ℤ) → Fair a mains → length cells ≡ 3080
    → ((q : Run) × (run_of a mains cells ≡ some q))
    ↔ ((q : Run) × Inv a mains q.last_time q.last_moved q.outcome × (cells ≡ table_of q))
tables_typed = well_typed
