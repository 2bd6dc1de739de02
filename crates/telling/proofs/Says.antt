-- What the state of a table says of its line, and what the number of a refusal says.
use mathlib.Core.Path.{◌≡◌, refl, sym, ap, ◌∙◌, subst}
use mathlib.Core.Bool.{true, false}
use mathlib.Core.List.{List, [], ◌∷◌, ◌++◌}
use Prim.Native.Nat.{ℕ, zero, suc, ◌^◌, ◌<◌}
use borrow.Author.Tests.{ne_eqb}
use lib.Dec.{eqb}
use lib.IntN.{ℤ, pos, negsuc}
use lib.ListN.{get_or}
use lib.Signed.{mag}
use Rattle.std.proofs.Common.{Option, Result, Ok, Err, unwrap_or, slice_get}
use Rattle.std.specs.Result.{result_unwrap_or}
use Rattle.arith.proofs.Ints.{seen, read}
use Rattle.kinds.specs.declared.RunState.{RunState}
use Rattle.kinds.specs.declared.RunState.TheVariants.{Running, Fulfilled, Breached}
use Rattle.kinds.specs.Kinds.{NamesState}
use Rattle.kinds.specs.declared.Unknown.{Unknown}
use Rattle.csl.specs.Numbers.{eq_z}
use Rattle.csl.specs.Bytes.{le32}
use Rattle.csl.specs.Entries.{Forecast}
use Rattle.monitor.specs.declared.Refusal.{Refusal}
use Rattle.monitor.specs.declared.Refusal.TheVariants.{AgreementLength, AgreementForm, AgreementTyping}
use Rattle.monitor.specs.declared.Refusal.TheVariants.{AgreementGuards, AgreementWidth, AgreementSize, TableLength}
use Rattle.monitor.specs.declared.Refusal.TheVariants.{TableContent, ReadingForm, ReadingTyping, ReadingTime, Units}
use Rattle.monitor.specs.Answers.{number_of}
use Rattle.lines.specs.Text.{decimal, dash, live, done, breach, fields, newline, space}
use Rattle.lines.specs.Lines.{forecast_fields, state_by, state_fields, verdict_fields, refusal_fields, answer_fields}
use Rattle.lines.specs.Lines.{time_field, reading_time}

-- ---- the first cell, and what it is not
pub first_cell : (cells : List ℤ) {first state : Option ℤ} {z : ℤ} → first ≡ slice_get cells 0 → state ≡ first
    → z ≡ unwrap_or state (pos 0) → mag z < 2 ^ 63 → seen z ≡ get_or cells 0 (pos 0)
first_cell [] {z = z} e f g h = read (record { sfits = h }) ∙ g ∙ ap (λ o. unwrap_or o (pos 0)) (f ∙ e)
first_cell (x ∷ cells) {z = z} e f g h = read (record { sfits = h }) ∙ g ∙ ap (λ o. unwrap_or o (pos 0)) (f ∙ e)

other_state : (z : ℤ) (n : ℕ) → (pos n ≡ z → ⊥) → eq_z z (pos n) ≡ false
unfolding eq_z
other_state (pos a) n f = ne_eqb a n (λ e. f (ap pos (sym e)))
other_state (negsuc a) n f = refl

-- ---- what a state says of the cell that named it; a cell that names none is taken for a breach's
abbrev Told : RunState → ℤ → Type 0
Told Fulfilled z = eq_z z (pos 2) ≡ true
Told Running z = (eq_z z (pos 2) ≡ false) × (eq_z z (pos 1) ≡ true)
Told Breached z = (eq_z z (pos 2) ≡ false) × (eq_z z (pos 1) ≡ false)

told_by : (z : ℤ) (r : Result RunState Unknown) → NamesState z r → Told (result_unwrap_or r Breached) z
unfolding eq_z
told_by z (Ok Running) e = rw (sym e) (refl, refl)
told_by z (Ok Fulfilled) e = rw (sym e) refl
told_by z (Ok Breached) e = rw (sym e) (refl, refl)
told_by z (Err u) e = (other_state z 2 (e Fulfilled), other_state z 1 (e Running))

pub told : (z : ℤ) (r : Result RunState Unknown) → NamesState z r → {s t : RunState} → s ≡ result_unwrap_or r Breached
    → s ≡ t → Told t z
told z r names e is = subst (λ s. Told s z) (sym e ∙ is) (told_by z r names)

-- ---- the verdict, by the state
module _ (f : Forecast) (cells : List ℤ) {z : ℤ} (is : z ≡ get_or cells 0 (pos 0)) where
  pub verdict_done : Told Fulfilled z → fields (done ∷ []) ≡ fields (verdict_fields f cells)
  unfolding verdict_fields state_fields state_by
  verdict_done e = rw (sym is, e) refl

  module _ (ahead : List ℕ) (shown : ahead ++ (newline ∷ []) ≡ fields (forecast_fields f)) where
    pub verdict_live : Told Running z → fields ((live ++ ahead) ∷ []) ≡ fields (verdict_fields f cells)
    unfolding verdict_fields state_fields state_by fields
    verdict_live e = rw (sym is, e.0, e.1) (ap (λ l. space ∷ (live ++ l)) shown)

    pub verdict_breach : Told Breached z → fields ((breach ++ ahead) ∷ []) ≡ fields (verdict_fields f cells)
    unfolding verdict_fields state_fields state_by fields
    verdict_breach e = rw (sym is, e.0, e.1) (ap (λ l. space ∷ (breach ++ l)) shown)

-- ---- no refusal has the number 0, and one alone has 8
pub not_zero : (why : Refusal) → eqb (number_of why) 0 ≡ false
not_zero AgreementLength = refl
not_zero AgreementForm = refl
not_zero AgreementTyping = refl
not_zero AgreementGuards = refl
not_zero AgreementWidth = refl
not_zero AgreementSize = refl
not_zero TableLength = refl
not_zero TableContent = refl
not_zero ReadingForm = refl
not_zero ReadingTyping = refl
not_zero ReadingTime = refl
not_zero Units = refl

pub not_eight : (why : Refusal) → (why ≡ ReadingForm → ⊥) → eqb (number_of why) 8 ≡ false
not_eight AgreementLength f = refl
not_eight AgreementForm f = refl
not_eight AgreementTyping f = refl
not_eight AgreementGuards f = refl
not_eight AgreementWidth f = refl
not_eight AgreementSize f = refl
not_eight TableLength f = refl
not_eight TableContent f = refl
not_eight ReadingForm f = absurd (f refl)
not_eight ReadingTyping f = refl
not_eight ReadingTime f = refl
not_eight Units f = refl

-- so that the fields of an answer are the refusal's
pub answer_refused : (why : Refusal) (f : Forecast) (cells : List ℤ)
    → refusal_fields (number_of why) ≡ answer_fields (number_of why) f cells
unfolding answer_fields
answer_refused why f cells = go (number_of why) (not_zero why)
  where
    go : (n : ℕ) → eqb n 0 ≡ false → refusal_fields n ≡ elim n
        [ zero ↦ verdict_fields f cells | suc k ↦ refusal_fields (suc k) ]
    go zero e = cc
    go (suc k) e = refl

-- ---- the time of a refused reading
pub time_dash : (b : List ℕ) → dash ≡ reading_time b 8
unfolding reading_time time_field
time_dash b = refl

pub time_told : (b : List ℕ) (why : Refusal) {t : ℕ} → t ≡ le32 b 4 → (why ≡ ReadingForm → ⊥)
    → decimal t ≡ reading_time b (number_of why)
unfolding reading_time time_field
time_told b why e f = rw (e, not_eight why f) refl
