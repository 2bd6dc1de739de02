-- Laws for a preview: it asks what check says and the second table's length, and then answers as a reading of a copy
-- does; what that leaves stands in the second table, which a refusal leaves.
use mathlib.Core.Path.{◌≡◌, refl, sym, ap, ◌∙◌}
use mathlib.Core.List.{List}
use Prim.Native.Nat.{ℕ, zero, suc, ◌<◌}
use native.Mathlib.Omega.{arith}
use borrow.Author.Tests.{eqb-true, eqb-false}
use lib.Dec.{eqb}
use lib.IntN.{ℤ}
use lib.ListN.{length}
use Rattle.std.specs.Prelude.{Ok, Err}
use Rattle.csl.specs.Syntax.{Agreement}
use Rattle.csl.specs.Check.{Accepted, accepted, checked, refused, mains_of}
use Rattle.csl.specs.Decode.{agreement_of}
use Rattle.csl.specs.Table.{table_length}
use Rattle.csl.specs.Entries.{ReadingAnswer, answered, reading_of, told_of}
use Rattle.csl.specs.Preview.{no_outcome, left_in, onto, preview_of}
use Rattle.laws.proofs.Bools.{by_test}
use Rattle.bridge.proofs.Refusals.{asked, asked_on, asked_six, from_check, reading_refused}
use Rattle.monitor.specs.declared.Refusal.{Refusal}
use Rattle.monitor.specs.declared.Refusal.TheVariants.{TableLength}
use Rattle.settling.specs.Before.{Untouched, on_copy}
use Rattle.monitor.specs.Answers.{TakenOrRefused, number_of, taken_answer}
use Rattle.monitor.specs.Steps.{ReadsOn}
use Rattle.monitor.proofs.Joined.{some_number}
use Rattle.monitor.proofs.Opens.{reading_short}

-- what was lent holds what the reading would leave of a copy, or after a refusal what it held
told_onto : (us vs : List ℤ) (r : TakenOrRefused) (left : List ℤ) → Untouched r vs left
    → taken_answer r left ≡ onto vs (taken_answer r (on_copy r us left))
unfolding onto left_in
told_onto us vs (Ok a) left u = refl
told_onto us vs (Err e) left u = ap (taken_answer (Err e)) u ∙ rw (some_number e.why).1 refl

module _ (s : List ℕ) (us vs : List ℤ) (bytes : List ℕ) where
  refuse : ℕ → ReadingAnswer
  refuse n = no_outcome n vs

  on : Agreement → List ℕ → ReadingAnswer
  on a mains = onto vs (reading_of s us bytes)

  preview_asks : preview_of s us vs bytes ≡ asked vs refuse on (checked s)
  unfolding preview_of asked refuse on
  preview_asks = refl

  -- ---- 1 to 5
  pub preview_refused : (n : ℕ) → checked s ≡ refused n → preview_of s us vs bytes ≡ no_outcome n vs
  unfolding asked refuse
  preview_refused n ck = preview_asks ∙ ap (asked vs refuse on) ck

  pub preview_no : (r : Refusal) → checked s ≡ refused (number_of r)
      → taken_answer (Err (record { why = r; cost = 0 })) vs ≡ preview_of s us vs bytes
  unfolding no_outcome
  preview_no r ck = sym (preview_refused (number_of r) ck)

  module _ (a : Agreement) (mains : List ℕ) (ck : checked s ≡ accepted a mains) where
    -- ---- 6
    pub preview_six : (length vs ≡ table_length → ⊥) → preview_of s us vs bytes ≡ no_outcome 6 vs
    unfolding refuse
    preview_six h = preview_asks ∙ asked_six vs refuse on s a mains ck h

    -- ---- a second table that is one
    pub preview_onto : length vs ≡ table_length → preview_of s us vs bytes ≡ onto vs (reading_of s us bytes)
    unfolding on
    preview_onto l = preview_asks ∙ asked_on vs refuse on s a mains ck l

  -- ---- whatever the agreement is
  -- a reading that is refused with 1 to 5 leaves its copy too
  refused_onto : (n : ℕ) → 0 < n → checked s ≡ refused n → no_outcome n vs ≡ onto vs (reading_of s us bytes)
  unfolding no_outcome onto left_in reading_of told_of answered
  refused_onto zero more ck = absurd (omega (arith, more))
  refused_onto (suc n) more ck = rw (reading_refused us s (suc n) ck bytes) refl

  pub onto_reading : length vs ≡ table_length → preview_of s us vs bytes ≡ onto vs (reading_of s us bytes)
  onto_reading l = from_check s (λ n more ck _. preview_refused n ck ∙ refused_onto n more ck)
      (λ mains ck _. preview_onto _ mains ck l)

  pub by_second : {C : Type 0} → ((n : ℕ) → 0 < n → preview_of s us vs bytes ≡ no_outcome n vs → C)
      → (length vs ≡ table_length → preview_of s us vs bytes ≡ onto vs (reading_of s us bytes) → C) → C
  by_second refuse read = by_test (eqb (length vs) table_length)
      (λ e. let l = eqb-true (length vs) table_length e in read l (onto_reading l))
      (λ e. from_check s (λ n more ck _. refuse n more (preview_refused n ck))
      (λ mains ck _. refuse 6 (omega arith) (preview_six _ mains ck (eqb-false (length vs) table_length e))))

  -- ---- of an accepted agreement
  module _ (ok : Accepted s) where
    pub second_short : (length vs ≡ table_length → ⊥)
        → taken_answer (Err (record { why = TableLength; cost = 0 })) vs ≡ preview_of s us vs bytes
    unfolding no_outcome
    second_short h = sym (preview_six (agreement_of s) (mains_of s) ok.is h)

    pub onto_second : length vs ≡ table_length → {r : TakenOrRefused} {left : List ℤ} → ReadsOn s us vs bytes r left
        → taken_answer r left ≡ preview_of s us vs bytes
    onto_second l {r = r} {left = left} w = told_onto us vs r left w.untouched ∙ ap (onto vs) w.is
        ∙ sym (preview_onto (agreement_of s) (mains_of s) ok.is l)

    -- 6 of the first, whatever the second is
    pub first_short : (length us ≡ table_length → ⊥)
        → taken_answer (Err (record { why = TableLength; cost = 0 })) vs ≡ preview_of s us vs bytes
    first_short h = by_test (eqb (length vs) table_length)
        (λ e. onto_second (eqb-true (length vs) table_length e) {r = Err (record { why = TableLength; cost = 0 })}
        {left = vs} (record { is = reading_short s us ok h bytes; untouched = refl }))
        (λ e. second_short (eqb-false (length vs) table_length e))

pub ruleset previewing = (preview_no, first_short, second_short, onto_second)
