-- Fig. 8 to the letter, but that a clause stands with its values and parties in sight where CSL has put them in:
-- between paper 01's residues and the letter's texts.
use mathlib.Core.Bool.{true, false}
use mathlib.Core.List.{List, [], ◌∷◌}
use mathlib.Core.Option.{some}
use mathlib.Core.Path.{◌≡◌}
use Prim.Native.Nat.{ℕ}
use lib.IntN.{pos, ◌-ℤ◌}
use lib.Signed.{◌<ℤ◌}
use Rattle.csl.specs.Lists.{at}
use Rattle.csl.specs.Numbers.{later_of}
use Rattle.csl.specs.Syntax.{Expr, Wait, Clause, fulfilled, obligation, choice, if, Join, join, instance, Template}
use Rattle.csl.specs.Values.{Val, bool}
use Rattle.csl.specs.Outcomes.{Sight}
use Rattle.csl.specs.Rules.{Window, Reading, with_values}
use Rattle.published.specs.Fig6.{Evaluates, EvaluateAll, Due}
use Rattle.published.specs.Fig7.{Stands, StandAll}
use Rattle.published.specs.Fig8.{Matches, Waits, sight_of}
use Rattle.published.specs.Literal.{rewritten, Residual, clause, breached, Composes}

-- a clause with its values and parties; `and` or `or` of texts
pub data Text : Type 0 where
  closed : Sight → Clause → Text
  joins : Join → Text → Text → Text

-- D, τ ⊢ c –ε→ 𝐜, τ the time of the last update
module _ (D : List Template) (ε : Reading) where
  pub data Sighted : ℕ → Text → Residual Text → Type 0 where
    i_fulfilment : {τ : ℕ} {s : Sight} → Sighted τ (closed s fulfilled) (clause (closed s fulfilled))
    -- c[v/x, τ₂ − τ'/z]
    i_obligation_matched : {τ b : ℕ} {s : Sight} {w : Wait} {c : Clause} (d : Window)
        → Due s.values τ w d → Matches ε s w d
        → Sighted τ (closed s (obligation b w c))
        (clause (closed (with_values s ε.values (d.last -ℤ pos ε.time)) c))
    -- (max(τ, τ₂), {p})
    i_obligation_late : {τ b p : ℕ} {s : Sight} {w : Wait} {c : Clause} (d : Window)
        → Due s.values τ w d → d.last <ℤ pos ε.time → Stands s.params b p
        → Sighted τ (closed s (obligation b w c)) (breached (later_of τ d.last) (p ∷ []))
    -- the obligation with d' for d
    i_obligation_waiting : {τ b : ℕ} {s : Sight} {w : Wait} {c : Clause} (d : Window)
        → Due s.values τ w d → Waits ε s w d
        → Sighted τ (closed s (obligation b w c)) (clause (closed s (obligation b (rewritten w d ε.time) c)))
    i_choice_matched : {τ : ℕ} {s : Sight} {w : Wait} {c₁ c₂ : Clause} (d : Window)
        → Due s.values τ w d → Matches ε s w d
        → Sighted τ (closed s (choice w c₁ c₂))
        (clause (closed (with_values s ε.values (d.last -ℤ pos ε.time)) c₁))
    -- D, max(τ, τ₂) ⊢ c₂ –ε→ 𝐜
    i_choice_late : {τ : ℕ} {s : Sight} {w : Wait} {c₁ c₂ : Clause} {r : Residual Text} (d : Window)
        → Due s.values τ w d → d.last <ℤ pos ε.time → Sighted (later_of τ d.last) (closed s c₂) r
        → Sighted τ (closed s (choice w c₁ c₂)) r
    i_choice_waiting : {τ : ℕ} {s : Sight} {w : Wait} {c₁ c₂ : Clause} (d : Window)
        → Due s.values τ w d → Waits ε s w d
        → Sighted τ (closed s (choice w c₁ c₂)) (clause (closed s (choice (rewritten w d ε.time) c₁ c₂)))
    i_composition : {τ : ℕ} {s : Sight} {c₁ c₂ : Clause} {r₁ r₂ r : Residual Text} {j : Join}
        → Sighted τ (closed s c₁) r₁ → Sighted τ (closed s c₂) r₂ → Composes joins j r₁ r₂ r
        → Sighted τ (closed s (join j c₁ c₂)) r
    -- the same rule, its sides being texts that readings have changed
    i_joins : {τ : ℕ} {x y : Text} {r₁ r₂ r : Residual Text} {j : Join} → Sighted τ x r₁ → Sighted τ y r₂
        → Composes joins j r₁ r₂ r → Sighted τ (joins j x y) r
    i_internal_true : {τ : ℕ} {s : Sight} {e : Expr} {c₁ c₂ : Clause} {r : Residual Text}
        → Evaluates s.values e (bool true) → Sighted τ (closed s c₁) r → Sighted τ (closed s (if e c₁ c₂)) r
    i_internal_false : {τ : ℕ} {s : Sight} {e : Expr} {c₁ c₂ : Clause} {r : Residual Text}
        → Evaluates s.values e (bool false) → Sighted τ (closed s c₂) r → Sighted τ (closed s (if e c₁ c₂)) r
    i_instantiation : {τ f : ℕ} {s : Sight} {es : List Expr} {bs ps : List ℕ} {vs : List Val} {t : Template}
        {r : Residual Text}
        → EvaluateAll s.values es vs → StandAll s.params bs ps → at D f ≡ some t
        → Sighted τ (closed (sight_of ps vs) t.body) r → Sighted τ (closed s (instance f es bs)) r
