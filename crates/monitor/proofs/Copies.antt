-- A preview answers as a reading of a copy of the first table does, and its second table is left as the copy, or
-- untouched: so what is said of readings is said of previews.
use mathlib.Core.Path.{◌≡◌, refl, sym, ap, ◌∙◌}
use mathlib.Core.Logic.{◌≢◌}
use mathlib.Core.List.{List}
use Prim.Native.Nat.{ℕ, zero, suc}
use native.Mathlib.Omega.{arith}
use contract.Lifetimes.{Lfts}
use borrow.Fn.Kinds.{Dens, ended_of}
use denote.Triple.Clauses.{AtExit}
use lib.IntN.{ℤ}
use lib.ListN.{length}
use Rattle.std.specs.Prelude.{Ok, Err}
use Rattle.csl.specs.Syntax.{Agreement}
use Rattle.csl.specs.Check.{accepted, checked, refused}
use Rattle.csl.specs.Table.{Run, table_length, table_of}
use Rattle.csl.specs.Entries.{ReadingAnswer, reading_of}
use Rattle.csl.specs.Preview.{no_outcome, left_in, onto, preview_of}
use Rattle.csl.specs.Demand3.{Bytes}
use Rattle.bridge.proofs.Refusals.{from_check}
use Rattle.monitor.specs.Answers.{TakenOrRefused, taken_answer}
use Rattle.monitor.specs.Calls.{Call, cost_in, early_in, forecast_in, number_in}
use Rattle.monitor.specs.Preview.{AsOnACopy, Preview, PreviewClaim, Previews, UnderSix, answer_in}
use Rattle.monitor.specs.Demand3.{Foreseen}
use Rattle.monitor.proofs.Calls.{Sound, called, called_told}
use Rattle.monitor.proofs.Joined.{table_in}
use Rattle.monitor.proofs.Previews.{by_second, onto_reading, preview_refused, preview_six}
use Rattle.monitor.proofs.preview.Kinds as preview-kinds
use Rattle.monitor.proofs.preview.Reads as preview

-- the contract of the entry is the equation that specs/Preview speaks of
pub preview_call : (lifetimes : Lfts 4) (given : Dens {n = 4} lifetimes preview-kinds.ps) (r : TakenOrRefused)
    (left : AtExit (ended_of 4 preview-kinds.ps preview-kinds.r) lifetimes)
    → preview.Post lifetimes given r left
    → taken_answer r left.1.1.1.0.now
    ≡ preview_of given.0.now given.1.0.now given.1.1.1.0.now given.1.1.0.now
preview_call lifetimes given r left meets = meets

-- ---- the second table, by the number
left_zero : (second : List ℤ) (x : ReadingAnswer) → x.number ≡ 0 → left_in second x ≡ x.table
unfolding left_in
left_zero second x z = rw z refl

left_more : (second : List ℤ) (x : ReadingAnswer) → x.number ≢ 0 → left_in second x ≡ second
unfolding left_in
left_more second x = go x.number
  where
    go : (n : ℕ) → n ≢ 0 → elim n [ zero ↦ x.table | suc k ↦ second ] ≡ second
    go zero nz = absurd (nz refl)
    go (suc n) nz = refl

-- ---- a preview with a second table that is one
module _ (s : List ℕ) (us : List ℤ) (p : Preview) (meets : Previews s us p) (l : length p.second ≡ table_length) where
  abbrev x : ReadingAnswer
  x = reading_of s us p.bytes

  is_onto : answer_in p ≡ onto p.second x
  unfolding Previews
  is_onto = meets ∙ onto_reading s us p.second p.bytes l

  left_is : p.left ≡ left_in p.second x
  unfolding answer_in onto
  left_is = sym (table_in p.answer p.left) ∙ ap (λ y. y.table) is_onto

  outcome_is : x.number ≡ 0 → p.left ≡ x.table
  outcome_is z = left_is ∙ left_zero p.second x z

  untouched_is : x.number ≢ 0 → p.left ≡ p.second
  untouched_is nz = left_is ∙ left_more p.second x nz

  pub as_reading : (one : Call) → taken_answer one.answer one.left ≡ x → AsOnACopy p one
  unfolding onto number_in forecast_in early_in cost_in
  as_reading one e = record {
    number = ap (λ y. y.number) is_onto ∙ sym (ap (λ y. y.number) e);
    forecast = ap (λ y. y.forecast) is_onto ∙ sym (ap (λ y. y.forecast) e);
    early = ap (λ y. y.early) is_onto ∙ sym (ap (λ y. y.early) e);
    cost = ap (λ y. y.cost) is_onto ∙ sym (ap (λ y. y.cost) e);
    outcome = λ z. outcome_is (sym (ap (λ y. y.number) e) ∙ z) ∙ sym (ap (λ y. y.table) e)
        ∙ table_in one.answer one.left;
    untouched = λ nz. untouched_is (λ z. nz (ap (λ y. y.number) e ∙ z));
  }

  -- a reading of a copy with that answer
  abbrev pub copied : Call
  copied = record { bytes = p.bytes; answer = p.answer; left = x.table }

  with_its_table : ReadingAnswer → ReadingAnswer
  with_its_table y = record {
    number = y.number;
    forecast = y.forecast;
    early = y.early;
    cost = y.cost;
    table = x.table;
  }

  retold : (r : TakenOrRefused) (left : List ℤ) → taken_answer r left ≡ onto p.second x → taken_answer r x.table ≡ x
  unfolding onto with_its_table
  retold (Ok a) left e = ap with_its_table e
  retold (Err w) left e = ap with_its_table e

  pub copied_meets : taken_answer copied.answer copied.left ≡ reading_of s us copied.bytes
  unfolding answer_in
  copied_meets = retold p.answer p.left is_onto

-- ---- a second table that is none
module _ (s : List ℕ) (us : List ℤ) (p : Preview) (meets : Previews s us p) where
  module _ (n : ℕ) (e : preview_of s us p.second p.bytes ≡ no_outcome n p.second) where
    answers_no : answer_in p ≡ no_outcome n p.second
    unfolding Previews
    answers_no = meets ∙ e

    under : ((k : ℕ) → checked s ≡ refused k → n ≡ k)
        → ((a : Agreement) (mains : List ℕ) → checked s ≡ accepted a mains → n ≡ 6) → UnderSix s p
    unfolding no_outcome answer_in
    under five six = record {
      by_check = λ k ck. ap (λ y. y.number) answers_no ∙ five k ck;
      six = λ a mains ck. ap (λ y. y.number) answers_no ∙ six a mains ck;
      untold = ap (λ y. y.forecast) answers_no;
      early = ap (λ y. y.early) answers_no;
      cost = ap (λ y. y.cost) answers_no;
      untouched = sym (table_in p.answer p.left) ∙ ap (λ y. y.table) answers_no;
    }

  second_none : (length p.second ≡ table_length → ⊥) → UnderSix s p
  second_none h = from_check s
      (λ n more ck _. under n (preview_refused s us p.second p.bytes n ck)
      (λ k ck'. same_refusal (sym ck ∙ ck'))
      (λ a mains ck'. other (sym ck ∙ ck')))
      (λ mains ck _. under 6 (preview_six s us p.second p.bytes _ mains ck h)
      (λ k ck'. other (sym ck' ∙ ck))
      (λ a mains' ck'. refl))
    where
      same_refusal : {n k : ℕ} → refused n ≡ refused k → n ≡ k
      same_refusal e = cc

      other : {n : ℕ} {a : Agreement} {mains : List ℕ} {C : Type 0} → refused n ≡ accepted a mains → C
      other e = cc

  -- what was accepted had a second table that is one
  pub accepted_long : (answer_in p).number ≡ 0 → length p.second ≡ table_length
  unfolding Previews no_outcome
  accepted_long z = by_second s us p.second p.bytes
      (λ n more e. let zero : n ≡ 0 = sym (ap (λ y. y.number) (meets ∙ e)) ∙ z in absurd (omega (arith, more)))
      (λ l e. l)

-- The claim.
pub previews_claim : PreviewClaim
unfolding PreviewClaim
previews_claim s us p meets = (
  λ l one same e. as_reading s us p meets l one (e ∙ ap (reading_of s us) same),
  second_none s us p meets,
)

-- ---- a preview on the table of a run
pub foresees : (s : List ℕ) (a : Agreement) (mains : List ℕ) (ck : checked s ≡ accepted a mains) (q : Run) (us : List ℤ)
    (p : Preview) → us ≡ table_of q → Sound s a mains ck q → Bytes p.bytes → Previews s us p
    → length p.second ≡ table_length → Foreseen a q p
unfolding number_in forecast_in early_in cost_in answer_in
foresees s a mains ck q us p e i h meets l =
    let one = copied s us p meets l in
    let is = copied_meets s us p meets l in
    let x = called s a mains ck q us one e i is in
    let y = as_reading s us p meets l one is in
    record {
      number = y.number ∙ x.number;
      forecast = y.forecast ∙ called_told s a mains ck q us one e i h is;
      mark = y.early ∙ x.early;
      cost = y.cost ∙ x.cost;
      outcome = λ z. y.outcome (sym y.number ∙ z) ∙ x.left;
      untouched = λ nz. y.untouched (λ z. nz (y.number ∙ z));
    }
