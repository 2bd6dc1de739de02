-- The contracts of the public entries, spelled out: the answer and the table left are the defined ones, whatever is
-- lent.
-- A contract that says less, or asks something of its caller, breaks this file.
use mathlib.Core.Path.{◌≡◌}
use mathlib.Core.List.{List}
use Prim.Native.Nat.{ℕ}
use lib.IntN.{ℤ}
use contract.Lifetimes.{Lfts}
use borrow.Fn.Kinds.{Dens, ended_of}
use denote.Triple.Clauses.{AtExit}
use Rattle.csl.specs.Check.{check_of}
use Rattle.csl.specs.Entries.{reading_of, start_of}
use Rattle.csl.specs.Preview.{preview_of}
use Rattle.monitor.specs.Answers.{Checked, Started, TakenOrRefused, check_answer, start_answer, taken_answer}
use Rattle.csl.specs.Demand3.{Bytes}
use Rattle.givuntha.specs.Numbers.{reading_numbers, start_numbers}
use Rattle.givuntha.proofs.Apart.{previews_apart, readings_apart, starts_apart}
use Rattle.monitor.proofs.Calls.{reading_call, start_call}
use Rattle.monitor.proofs.Copies.{preview_call}
use Rattle.monitor.proofs.check.Kinds as check-kinds
use Rattle.monitor.proofs.check.Reads as check
use Rattle.monitor.proofs.start.Kinds as start-kinds
use Rattle.monitor.proofs.start.Reads as start
use Rattle.monitor.proofs.reading.Kinds as reading-kinds
use Rattle.monitor.proofs.reading.Reads as reading
use Rattle.monitor.proofs.preview.Kinds as preview-kinds
use Rattle.monitor.proofs.preview.Reads as preview

checks : (κs : Lfts 1) (given : Dens {n = 1} κs check-kinds.ps) (r : Checked)
    (left : AtExit (ended_of 1 check-kinds.ps check-kinds.r) κs)
    → check.Post κs given r left → check_answer r ≡ check_of given.0.now
checks κs given r left meets = meets

starts : (κs : Lfts 2) (given : Dens {n = 2} κs start-kinds.ps) (r : Started)
    (left : AtExit (ended_of 2 start-kinds.ps start-kinds.r) κs)
    → start.Post κs given r left → start_answer r left.1.0.now ≡ start_of given.0.now given.1.0.now
starts = start_call

reads : (κs : Lfts 3) (given : Dens {n = 3} κs reading-kinds.ps) (r : TakenOrRefused)
    (left : AtExit (ended_of 3 reading-kinds.ps reading-kinds.r) κs)
    → reading.Post κs given r left
    → taken_answer r left.1.0.now ≡ reading_of given.0.now given.1.0.now given.1.1.0.now
reads = reading_call

-- the second table is the last that is lent, the first is lent for reading
previews : (κs : Lfts 4) (given : Dens {n = 4} κs preview-kinds.ps) (r : TakenOrRefused)
    (left : AtExit (ended_of 4 preview-kinds.ps preview-kinds.r) κs)
    → preview.Post κs given r left
    → taken_answer r left.1.1.1.0.now
    ≡ preview_of given.0.now given.1.0.now given.1.1.1.0.now given.1.1.0.now
previews = preview_call

-- no two answers of a start, of a reading or of a preview have the same numbers for a caller in C
starts_told_apart : (s s' : List ℕ) (us us' : List ℤ) → Bytes s → Bytes s'
    → start_numbers (start_of s us) ≡ start_numbers (start_of s' us') → start_of s us ≡ start_of s' us'
starts_told_apart = starts_apart

readings_told_apart : (s s' : List ℕ) (us us' : List ℤ) (b b' : List ℕ) → Bytes b → Bytes b'
    → reading_numbers (reading_of s us b) ≡ reading_numbers (reading_of s' us' b')
    → reading_of s us b ≡ reading_of s' us' b'
readings_told_apart = readings_apart

previews_told_apart : (s s' : List ℕ) (us us' vs vs' : List ℤ) (b b' : List ℕ) → Bytes b → Bytes b'
    → reading_numbers (preview_of s us vs b) ≡ reading_numbers (preview_of s' us' vs' b')
    → preview_of s us vs b ≡ preview_of s' us' vs' b'
previews_told_apart = previews_apart
