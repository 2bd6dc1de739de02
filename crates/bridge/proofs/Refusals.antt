-- What check tells the other entries, and their refusals 1 to 7 and 15.
use mathlib.Core.Bool.{Bool, false, true}
use mathlib.Core.List.{List}
use mathlib.Core.Option.{Option, none, some}
use mathlib.Core.Logic.{inl, inr, ◌⊎◌}
use mathlib.Core.Path.{ap, refl, subst, sym, ◌∙◌, ◌≡◌}
use Prim.Native.Nat.{◌<◌, ◌≤◌, ℕ}
use native.Mathlib.Omega.{arith}
use lib.Dec.{T, eqb, eqb→eq}
use lib.IntN.{ℤ}
use lib.ListN.{length}
use Rattle.csl.specs.Parties.{bits_of}
use Rattle.csl.specs.Syntax.{Agreement}
use Rattle.csl.specs.Decode.{agreement_of, decode, length_ok}
use Rattle.csl.specs.Typing.{typed}
use Rattle.csl.specs.Guards.{guarded_from}
use Rattle.csl.specs.Widths.{narrow_all}
use Rattle.csl.specs.Sizes.{fits}
use Rattle.csl.specs.Check.{CheckResult, accepted, answer_for, check_decoded, check_narrow, check_of, check_typed}
use Rattle.csl.specs.Check.{checked, refused}
use Rattle.csl.specs.Run.{started, step}
use Rattle.csl.specs.Table.{Run, run_of}
use Rattle.csl.specs.Early.{came_early, mark_of}
use Rattle.csl.specs.Cost.{cost_of}
use Rattle.csl.specs.Entries.{Answer, ReadAnswer, answered, is_table}
use Rattle.csl.specs.Entries.{read_of}
use Rattle.csl.specs.Entries.{refusal, begun_of, written}
use Rattle.soundness.proofs.Decoding.{decode_is}
use Rattle.soundness.proofs.Checked.{passed}
use Rattle.soundness.proofs.Runs.{is_table_is}

abbrev pub answer : ℕ → List ℤ → Answer
answer n us = record { number = n; table = us }

-- a refused reading's
abbrev pub unread : ℕ → List ℤ → ReadAnswer
unread n us = answered 0 0 (answer n us)

-- ---- what check says
-- a refusal has a number, from 1 to 5 or 15
Numbered : CheckResult → Type 0
Numbered (refused n) = (0 < n) × ((n ≤ 5) ⊎ (n ≡ 15))
Numbered (accepted a ps) = Unit {0}

low : {n : ℕ} → 0 < n → n ≤ 5 → (0 < n) × ((n ≤ 5) ⊎ (n ≡ 15))
low h l = (h, inl l)

numbered : (s : List ℕ) → Numbered (checked s)
unfolding checked check_decoded check_typed check_narrow Numbered
numbered s = by_length (length_ok s)
  where
    by_size : (a : Agreement) (ps : List ℕ) (b : Bool) → Numbered (elim b [ false ↦ refused 15 | true ↦ accepted a ps ])
    by_size a ps true = tt
    by_size a ps false = (omega arith, inr refl)

    by_width : (a : Agreement) (ps : List ℕ) (b : Bool)
        → Numbered (elim b [ false ↦ refused 5 | true ↦ check_narrow a ps ])
    by_width a ps true = by_size a ps (fits a)
    by_width a ps false = low (omega arith) (omega arith)

    by_guard : (a : Agreement) (ps : List ℕ) (b : Bool)
        → Numbered (elim b [
          | false ↦ refused 4
          | true ↦ elim (narrow_all a) [ false ↦ refused 5 | true ↦ check_narrow a ps ]
        ])
    by_guard a ps true = by_width a ps (narrow_all a)
    by_guard a ps false = low (omega arith) (omega arith)

    by_type : (a : Agreement) (o : Option (List ℕ)) → Numbered
        (elim o [ none ↦ refused 3 | some ps ↦ check_typed a ps ])
    by_type a (some ps) = by_guard a ps (guarded_from 0 a.templates)
    by_type a none = low (omega arith) (omega arith)

    by_form : (o : Option Agreement) → Numbered (elim o [ none ↦ refused 2 | some a ↦ check_decoded a ])
    by_form (some a) = by_type a (typed a)
    by_form none = low (omega arith) (omega arith)

    by_length : (b : Bool) → Numbered (elim b
        [ false ↦ refused 1 | true ↦ elim (decode s) [ none ↦ refused 2 | some a ↦ check_decoded a ] ])
    by_length true = by_form (decode s)
    by_length false = low (omega arith) (omega arith)

pub check_numbers : (s : List ℕ) (n : ℕ) → checked s ≡ refused n → (n ≤ 5) ⊎ (n ≡ 15)
unfolding Numbered
check_numbers s n e = (subst Numbered e (numbered s)).1

-- refused with a number, or accepted, and then the agreement is what the bytes decode to
pub from_check : {C : Type 0} (s : List ℕ)
    → ((n : ℕ) → 0 < n → checked s ≡ refused n → check_of s ≡ record { number = n; parties = 0 } → C)
    → ((mains : List ℕ) → checked s ≡ accepted (agreement_of s) mains
    → check_of s ≡ record { number = 0; parties = bits_of mains } → C) → C
unfolding check_of answer_for Numbered
from_check {C = C} s k₁ k₂ = go (checked s) refl (numbered s)
  where
    go : (c : CheckResult) → checked s ≡ c → Numbered (checked s) → C
    go (refused n) e h = k₁ n (subst Numbered e h).0 e (ap answer_for e)
    go (accepted a ps) e h = decode_is s a (passed s a ps e).decodes λ w same. k₂ ps
        (e ∙ ap (λ a. accepted a ps) (sym same)) (ap answer_for e)

-- ---- an entry asks what check says, then the table's length; A is what it answers, `on` for a table of an accepted
-- agreement
module _ {A : Type 0} (us : List ℤ) (refuse : ℕ → A) (on : Agreement → List ℕ → A) where
  unfoldable pub asked : CheckResult → A
  asked c = elim c [ refused n ↦ refuse n | accepted a ps ↦ elim (is_table us) [ false ↦ refuse 6 | true ↦ on a ps ] ]

  module _ (s : List ℕ) (a : Agreement) (mains : List ℕ) (ck : checked s ≡ accepted a mains) where
    pub asked_six : (length us ≡ 3080 → ⊥) → asked (checked s) ≡ refuse 6
    unfolding asked is_table
    asked_six no_table = ap asked ck ∙ go (eqb (length us) 3080) (λ t. no_table (eqb→eq (length us) 3080 t))
      where
        go : (b : Bool) → (T b → ⊥) → (elim b [ false ↦ refuse 6 | true ↦ on a mains ]) ≡ refuse 6
        go true k = absurd (k tt)
        go false k = refl

    pub asked_on : length us ≡ 3080 → asked (checked s) ≡ on a mains
    unfolding asked
    asked_on l = ap asked ck ∙ ap (λ b. elim b [ false ↦ refuse 6 | true ↦ on a mains ]) (is_table_is s a mains ck us l)

module _ (us : List ℤ) where
  on_start : Agreement → List ℕ → Answer
  on_start a ps = written us (started a)

  abbrev read_by : List ℕ → Agreement → Option Run → ReadAnswer
  read_by r a o = elim o [
    | none ↦ unread 7 us
    | some q ↦ answered (mark_of (came_early a q r)) (cost_of a q r) (written us (step a q r))
  ]

  on_reading : List ℕ → Agreement → List ℕ → ReadAnswer
  on_reading r a ps = read_by r a (run_of a ps us)

  refuse : ℕ → Answer
  refuse n = answer n us

  refuse_reading : ℕ → ReadAnswer
  refuse_reading n = unread n us

  -- the numbers 1 to 5 and 15
  module _ (s : List ℕ) (n : ℕ) (ck : checked s ≡ refused n) where
    pub start_refused_lem : begun_of s us ≡ answer n us
    unfolding begun_of refusal asked on_start refuse
    start_refused_lem = ap (asked us refuse on_start) ck

    pub reading_refused : (r : List ℕ) → read_of s us r ≡ unread n us
    unfolding read_of refusal asked on_reading refuse_reading
    reading_refused r = ap (asked us refuse_reading (on_reading r)) ck

  module _ (s : List ℕ) (a : Agreement) (mains : List ℕ) (ck : checked s ≡ accepted a mains) where
    -- 6
    module _ (no_table : length us ≡ 3080 → ⊥) where
      pub start_six : begun_of s us ≡ answer 6 us
      unfolding begun_of refusal asked on_start refuse
      start_six = asked_six us refuse on_start s a mains ck no_table

      pub reading_six : (r : List ℕ) → read_of s us r ≡ unread 6 us
      unfolding read_of refusal asked on_reading refuse_reading
      reading_six r = asked_six us refuse_reading (on_reading r) s a mains ck no_table

    -- 7
    module _ (l : length us ≡ 3080) where
      pub reading_seven : (r : List ℕ) → run_of a mains us ≡ none → read_of s us r ≡ unread 7 us
      unfolding read_of refusal asked on_reading refuse_reading
      reading_seven r e = asked_on us refuse_reading (on_reading r) s a mains ck l
          ∙ ap (read_by r a) e
