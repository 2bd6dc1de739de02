-- In a line the text of a verdict, or of a refusal, is the fields of the answer, and no line is longer than it may be.
use mathlib.Core.Path.{◌≡◌, refl, ap}
use mathlib.Core.List.{List, [], ◌∷◌, ◌++◌, append_assoc}
use Prim.Native.Nat.{ℕ, ◌^◌, ◌≤◌, ◌<◌}
use native.Mathlib.Omega.{arith}
use lib.ListN.{length, length-append}
use Rattle.std.proofs.Common.{Option, Some, None, Err}
use Rattle.monitor.specs.Answers.{ahead_told}
use Rattle.monitor.specs.declared.BreachAhead.{BreachAhead}
use Rattle.lines.specs.Text.{decimal, fields, line, space, newline}
use Rattle.lines.specs.Lines.{forecast_fields, refusal_fields}
use Rattle.lines.specs.Shown.{shown_says}
use Rattle.lines.proofs.Decimal.{few}
use Rattle.telling.specs.Verdicts.{shown_ahead, shown_verdict}

-- ---- a forecast, and the line's end
pub ahead_shown : (o : Option BreachAhead)
    → shown_ahead o ++ (newline ∷ []) ≡ fields (forecast_fields (ahead_told o))
unfolding fields forecast_fields
ahead_shown (Some b) = append_assoc (space ∷ decimal b.time) (space ∷ decimal b.parties) (newline ∷ [])
ahead_shown None = refl

abbrev pub Fits : Option BreachAhead → Type 0
Fits o = (b : BreachAhead) → o ≡ Some b → (b.time < 2 ^ 64) × (b.parties < 2 ^ 64)

pub ahead_short : (o : Option BreachAhead) → Fits o → length (shown_ahead o) ≤ 42
ahead_short (Some b) h =
    let fits = h b refl in
    let both = length-append (space ∷ decimal b.time) (space ∷ decimal b.parties) in
    omega (arith, few b.time fits.0, few b.parties fits.1)
ahead_short None h = omega arith

-- ---- a refusal
pub refusal_shown : (number : ℕ)
    → fields (shown_says shown_verdict (Err number) ∷ []) ≡ fields (refusal_fields number)
unfolding fields refusal_fields
refusal_shown number = refl

pub refusal_short : (number : ℕ) → number < 2 ^ 64 → length (shown_says shown_verdict (Err number)) ≤ 48
refusal_short number h = omega (arith, few number h)

-- ---- the line
pub line_shown : (n : ℕ) {time field : List ℕ} (said : List ℕ) (fs : List (List ℕ)) → time ≡ field
    → fields (said ∷ []) ≡ fields fs → line n (time ∷ said ∷ []) ≡ line n (field ∷ fs)
unfolding line fields
line_shown n {field = field} said fs e f = rw e (ap (λ l. decimal n ++ (space ∷ (field ++ l))) f)

pub line_short : (n : ℕ) (time said : List ℕ) → n < 2 ^ 64 → length time ≤ 20 → length said ≤ 48
    → length (line n (time ∷ said ∷ [])) ≤ 96
unfolding line fields
line_short n time said small t v =
    let tail = length-append said (newline ∷ []) in
    let rest = length-append time (space ∷ (said ++ (newline ∷ []))) in
    let whole = length-append (decimal n) (space ∷ (time ++ (space ∷ (said ++ (newline ∷ []))))) in
    omega (arith, few n small)
