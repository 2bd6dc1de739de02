-- Laws for what is lent: which of refusals 1 to 7 applies, or the state that the table shows; and what the entries
-- answer of it.
use mathlib.Core.Path.{◌≡◌, refl, sym, ap, subst, ◌∙◌}
use mathlib.Core.List.{List}
use mathlib.Core.Logic.{inl, inr, ◌≢◌, ◌⊎◌}
use mathlib.Core.Option.{Option, none, some}
use Prim.Native.Nat.{ℕ, ◌≤◌, ◌<◌}
use native.Mathlib.Omega.{arith}
use borrow.Author.Tests.{eqb-true, eqb-false}
use lib.Dec.{eqb}
use lib.IntN.{ℤ}
use lib.ListN.{length}
use Rattle.std.specs.Prelude.{None, Ok, Err}
use Rattle.csl.specs.Decode.{agreement_of}
use Rattle.csl.specs.Check.{Accepted, accepted, checked, refused, mains_of}
use Rattle.csl.specs.Table.{Run, run_of, table_length}
use Rattle.csl.specs.Entries.{answered, begun_of, read_of, reading_of, start_of}
use Rattle.laws.proofs.Bools.{by_test}
use Rattle.bridge.proofs.Refusals.{start_refused_lem, reading_refused, start_six, reading_six, reading_seven}
use Rattle.bridge.proofs.Refusals.{answer, unread, check_numbers, from_check}
use Rattle.cells.specs.declared.Sight.{Sight}
use Rattle.state.specs.Shown.{Shows, run_in}
use Rattle.state.specs.declared.State.{State}
use Rattle.monitor.specs.declared.Refusal.{Refusal}
use Rattle.monitor.specs.declared.Refusal.TheVariants.{TableLength, TableContent}
use Rattle.monitor.specs.Answers.{TakenOrRefused, number_of, start_answer, taken_answer}
use Rattle.monitor.specs.Steps.{Refuses, Opened, ReadsOn}
use Rattle.monitor.proofs.Joined.{reading_err, start_err}

module _ (s : List ℕ) (us : List ℤ) where
  -- ---- 1 to 5
  module _ (r : Refusal) (w : checked s ≡ refused (number_of r)) where
    pub start_no : start_answer (Err r) us ≡ start_of s us
    start_no = start_err s us us r (sym (start_refused_lem us s (number_of r) w))

    pub reading_no : (bytes : List ℕ) → taken_answer (Err (record { why = r; cost = 0 })) us ≡ reading_of s us bytes
    unfolding answered
    reading_no bytes = reading_err s us us bytes (record { why = r; cost = 0 })
        (sym (reading_refused us s (number_of r) w bytes))

  module _ (ok : Accepted s) where
    -- ---- 6
    module _ (h : length us ≡ table_length → ⊥) where
      pub start_short : start_answer (Err TableLength) us ≡ start_of s us
      start_short = start_err s us us TableLength (sym (start_six us s (agreement_of s) (mains_of s) ok.is h))

      pub reading_short : (bytes : List ℕ)
          → taken_answer (Err (record { why = TableLength; cost = 0 })) us ≡ reading_of s us bytes
      unfolding answered
      reading_short bytes = reading_err s us us bytes (record { why = TableLength; cost = 0 })
          (sym (reading_six us s (agreement_of s) (mains_of s) ok.is h bytes))

    -- ---- 7
    pub open_damaged : (sights : List Sight) → length us ≡ table_length → Shows (run_in s us) us sights None
        → Refuses s us TableContent
    unfolding Shows answered
    open_damaged sights l damaged bytes = reading_err s us us bytes (record { why = TableContent; cost = 0 })
        (sym (reading_seven us s (agreement_of s) (mains_of s) ok.is l bytes damaged))

-- ---- what is opened, by its case
module _ {s : List ℕ} {us : List ℤ} {sights : List Sight} {state : State} (o : Opened s us sights state) where
  pub opened_as : {q : State} → state ≡ q → Opened s us sights q
  opened_as e = subst (Opened s us sights) e o

-- ---- a reading of a table, and what is left in what was lent
module _ {s : List ℕ} {us : List ℤ} where
  -- 7 leaves it
  pub run_no : {r : Refusal} → Refuses s us r → {lent : List ℤ} (bytes : List ℕ)
      → ReadsOn s us lent bytes (Err (record { why = r; cost = 0 })) lent
  run_no w bytes = record { is = w bytes; untouched = refl }

  -- the very table was lent
  pub own_table : {bytes : List ℕ} {r : TakenOrRefused} {left : List ℤ} → ReadsOn s us us bytes r left
      → taken_answer r left ≡ reading_of s us bytes
  own_table {r = Ok a} w = w.is
  own_table {r = Err e} w = ap (taken_answer (Err e)) w.untouched ∙ w.is

-- ---- whatever is lent
-- a start and a reading refuse it with n
pub record Unstarted (s : List ℕ) (us : List ℤ) (n : ℕ) : Type 0 where
  pub start : begun_of s us ≡ answer n us
  pub reading : (bytes : List ℕ) → read_of s us bytes ≡ unread n us

module _ {C : Type 0} (s : List ℕ) (us : List ℤ) where
  -- refused with 1 to 6 or 15, or an accepted agreement and a table's cells
  pub by_table : ((n : ℕ) → 0 < n → n ≢ 11 → Unstarted s us n → C)
      → ((mains : List ℕ) → checked s ≡ accepted (agreement_of s) mains → length us ≡ table_length → C) → C
  by_table refuse taken = from_check s
      (λ n more ck _. refuse n more (λ e. of_check n e (check_numbers s n ck)) (record {
        start = start_refused_lem us s n ck;
        reading = reading_refused us s n ck;
      }))
      (λ mains ck _. by_test (eqb (length us) table_length)
      (λ e. taken mains ck (eqb-true (length us) table_length e))
      (λ e. let h = eqb-false (length us) table_length e in
      refuse 6 (omega arith) (λ e. omega arith) (record {
        start = start_six us s (agreement_of s) mains ck h;
        reading = reading_six us s (agreement_of s) mains ck h;
      })))
    where
      of_check : (n : ℕ) → n ≡ 11 → (n ≤ 5) ⊎ (n ≡ 15) → ⊥
      of_check n e (inl few) = omega arith
      of_check n e (inr size) = omega arith

  -- a reading is refused with 1 to 7 or 15, or the table shows a run
  pub by_run : ((n : ℕ) → 0 < n → n ≢ 11 → ((bytes : List ℕ) → read_of s us bytes ≡ unread n us) → C)
      → ((mains : List ℕ) (q : Run) → checked s ≡ accepted (agreement_of s) mains → length us ≡ table_length
      → run_of (agreement_of s) mains us ≡ some q → C) → C
  by_run refuse shown = by_table (λ n more other x. refuse n more other x.reading)
      (λ mains ck l. go mains ck l (run_of (agreement_of s) mains us) refl)
    where
      go : (mains : List ℕ) → checked s ≡ accepted (agreement_of s) mains → length us ≡ table_length
          → (o : Option Run) → run_of (agreement_of s) mains us ≡ o → C
      go mains ck l none e = refuse 7 (omega arith) (λ h. omega arith)
          (λ bytes. reading_seven us s (agreement_of s) mains ck l bytes e)
      go mains ck l (some q) e = shown mains q ck l e

pub ruleset starting = (start_no, start_short)

pub ruleset opening = (run_no)

pub ruleset taking = (reading_no, reading_short, own_table)
