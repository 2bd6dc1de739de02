-- Fig. 8 to the letter gives a clause at most one residue, and so a list of readings at most one trace: the rules of
-- each clause exclude each other.
use mathlib.Core.List.{List, [], ◌∷◌}
use mathlib.Core.Path.{ap, ap₂, refl, subst, sym, ◌∙◌, ◌≡◌}
use Prim.Native.Nat.{ℕ}
use lib.IntN.{pos}
use lib.Signed.{◌≤ℤ◌, ◌<ℤ◌, <ℤ_irrefl, <ℤ-≤ℤ_trans}
use Rattle.csl.specs.Numbers.{later_of}
use Rattle.csl.specs.Syntax.{Clause, Join, and, or, Template, Wait, choice, join, obligation}
use Rattle.csl.specs.Outcomes.{Outcome, done, breach, running, stuck, joined}
use Rattle.csl.specs.Rules.{Reading, Window}
use Rattle.csl.specs.Demand3.{NotStuck}
use Rattle.laws.proofs.Options.{some_inj}
use Rattle.published.specs.Fig6.{Due}
use Rattle.published.specs.Verdicts.{and_first, and_second, and_same, or_first, or_second, or_same}
use Rattle.published.specs.Fig7.{put}
use Rattle.published.specs.Fig8.{sight_of}
use Rattle.published.specs.Literal.{rewritten, Residual, clause, breached, Composes, l_clauses, l_and_left}
use Rattle.published.specs.Literal.{l_and_right, l_and_first, l_and_second, l_and_same, l_or_left, l_or_right}
use Rattle.published.specs.Literal.{l_or_first, l_or_second, l_or_same, Fulfils, fulfilling, Leaves}
use Rattle.published.specs.Literal.{leaves_early, leaves_other, leaves_untrue, continuation, Literal}
use Rattle.published.specs.Literal.{l_fulfilment, l_obligation_matched, l_obligation_late, l_obligation_waiting}
use Rattle.published.specs.Literal.{l_choice_matched, l_choice_late, l_choice_waiting, l_composition}
use Rattle.published.specs.Literal.{l_internal_true, l_internal_false, l_instantiation, Trace, trace_ends}
use Rattle.published.specs.Literal.{trace_step, trace_final}
use Rattle.published.proofs.Evaluations.{all_computed, evals_computed, stands_computed}
use Rattle.published.proofs.Verdicts.{joins_computed}
use Rattle.published.proofs.Unfolding.{two_truths}
use Rattle.published.proofs.Rewriting.{one_window}

-- ---- ⊗ and ⊘ are functions
abbrev residual_of : Outcome → Residual Clause
residual_of done = breached 0 []
residual_of (breach t B) = breached t B
residual_of (running r) = breached 0 []
residual_of stuck = breached 0 []

abbrev composition : Join → Residual Clause → Residual Clause → Residual Clause
composition j (clause x) (clause y) = clause (join j x y)
composition and (clause x) (breached u C) = breached u C
composition or (clause x) (breached u C) = clause x
composition and (breached t B) (clause y) = breached t B
composition or (breached t B) (clause y) = clause y
composition j (breached t B) (breached u C) = residual_of (joined j (breach t B) (breach u C))

composes_is : {j : Join} {r₁ r₂ r : Residual Clause} → Composes join j r₁ r₂ r → r ≡ composition j r₁ r₂
unfolding NotStuck
composes_is l_clauses = refl
composes_is l_and_left = refl
composes_is l_and_right = refl
composes_is (l_and_first l) = sym (ap residual_of (joins_computed tt tt (and_first l)))
composes_is (l_and_second l) = sym (ap residual_of (joins_computed tt tt (and_second l)))
composes_is l_and_same = sym (ap residual_of (joins_computed tt tt and_same))
composes_is l_or_left = refl
composes_is l_or_right = refl
composes_is (l_or_first l) = sym (ap residual_of (joins_computed tt tt (or_first l)))
composes_is (l_or_second l) = sym (ap residual_of (joins_computed tt tt (or_second l)))
composes_is (l_or_same l) = sym (ap residual_of (joins_computed tt tt (or_same l)))

composes_once : {j : Join} {r₁ r₂ r q₁ q₂ q : Residual Clause} → Composes join j r₁ r₂ r → Composes join j q₁ q₂ q
    → r₁ ≡ q₁ → r₂ ≡ q₂ → r ≡ q
composes_once {j = j} c d e f = composes_is c ∙ ap₂ (composition j) e f ∙ sym (composes_is d)

-- ---- the three ways of a waiting clause exclude each other
module _ (ε : Reading) (τ : ℕ) (w : Wait) (d e : Window) (p : Due [] τ w d) (q : Due [] τ w e) where
  one : d ≡ e
  one = one_window (sight_of [] []) τ w d e p q

  not_late_matched : {C : Type 0} → d.last <ℤ pos ε.time → Fulfils ε w e → C
  not_late_matched l (fulfilling t c f k) = absurd
      (<ℤ_irrefl (<ℤ-≤ℤ_trans (subst (λ z. z.last <ℤ pos ε.time) one l) k))

  not_late_waiting : {C : Type 0} → d.last <ℤ pos ε.time → Leaves ε w e → C
  not_late_waiting l (leaves_early k f) = absurd
      (<ℤ_irrefl (<ℤ-≤ℤ_trans (subst (λ z. z.last <ℤ pos ε.time) one l) k))
  not_late_waiting l (leaves_other k f) = absurd
      (<ℤ_irrefl (<ℤ-≤ℤ_trans (subst (λ z. z.last <ℤ pos ε.time) one l) k))
  not_late_waiting l (leaves_untrue k f) = absurd
      (<ℤ_irrefl (<ℤ-≤ℤ_trans (subst (λ z. z.last <ℤ pos ε.time) one l) k))

  not_matched_waiting : {C : Type 0} → Fulfils ε w d → Leaves ε w e → C
  not_matched_waiting (fulfilling t c f k) (leaves_early l g) = absurd
      (<ℤ_irrefl (<ℤ-≤ℤ_trans g (subst (λ z. z.first ≤ℤ pos ε.time) one f)))
  not_matched_waiting (fulfilling t c f k) (leaves_other l g) = absurd (g t)
  not_matched_waiting (fulfilling t c f k) (leaves_untrue l g) = two_truths [] _ c g

module _ (D : List Template) (ε : Reading) where
  pub literal_once : {τ : ℕ} {c : Clause} {r q : Residual Clause} → Literal D ε τ c r → Literal D ε τ c q → r ≡ q
  literal_once l_fulfilment l_fulfilment = refl
  literal_once (l_obligation_matched {τ = τ} {w = w} {c = c} d p m) (l_obligation_matched e q n) = ap
      (λ z. clause (continuation ε z c)) (one ε τ w d e p q)
  literal_once (l_obligation_matched {τ = τ} {w = w} d p m) (l_obligation_late e q l y) = not_late_matched ε τ w e d q
      p l m
  literal_once (l_obligation_matched {τ = τ} {w = w} d p m) (l_obligation_waiting e q k) = not_matched_waiting ε τ w d
      e p q m k
  literal_once (l_obligation_late {τ = τ} {w = w} d p l y) (l_obligation_matched e q m) = not_late_matched ε τ w d e p
      q l m
  literal_once (l_obligation_late {τ = τ} {w = w} d p l y) (l_obligation_late e q k z) = ap₂
      (λ u b. breached u (b ∷ [])) (ap (λ v. later_of τ v.last) (one ε τ w d e p q))
      (some_inj (sym (stands_computed [] y) ∙ stands_computed [] z))
  literal_once (l_obligation_late {τ = τ} {w = w} d p l y) (l_obligation_waiting e q k) = not_late_waiting ε τ w d e p
      q l k
  literal_once (l_obligation_waiting {τ = τ} {w = w} d p k) (l_obligation_matched e q m) = not_matched_waiting ε τ w e
      d q p m k
  literal_once (l_obligation_waiting {τ = τ} {w = w} d p k) (l_obligation_late e q l y) = not_late_waiting ε τ w e d q
      p l k
  literal_once (l_obligation_waiting {τ = τ} {b = b} {w = w} {c = c} d p k) (l_obligation_waiting e q l) = ap
      (λ z. clause (obligation b (rewritten w z ε.time) c)) (one ε τ w d e p q)
  literal_once (l_choice_matched {τ = τ} {w = w} {c₁ = c} d p m) (l_choice_matched e q n) = ap
      (λ z. clause (continuation ε z c)) (one ε τ w d e p q)
  literal_once (l_choice_matched {τ = τ} {w = w} d p m) (l_choice_late e q l y) = not_late_matched ε τ w e d q p l m
  literal_once (l_choice_matched {τ = τ} {w = w} d p m) (l_choice_waiting e q k) = not_matched_waiting ε τ w d e p q m k
  literal_once (l_choice_late {τ = τ} {w = w} d p l y) (l_choice_matched e q m) = not_late_matched ε τ w d e p q l m
  literal_once (l_choice_late {τ = τ} {w = w} {c₂ = f} {r = r} d p l y) (l_choice_late e q k z) = literal_once
      (subst (λ v. Literal D ε (later_of τ v.last) f r) (one ε τ w d e p q) y) z
  literal_once (l_choice_late {τ = τ} {w = w} d p l y) (l_choice_waiting e q k) = not_late_waiting ε τ w d e p q l k
  literal_once (l_choice_waiting {τ = τ} {w = w} d p k) (l_choice_matched e q m) = not_matched_waiting ε τ w e d q p m k
  literal_once (l_choice_waiting {τ = τ} {w = w} d p k) (l_choice_late e q l y) = not_late_waiting ε τ w e d q p l k
  literal_once (l_choice_waiting {τ = τ} {w = w} {c₁ = c} {c₂ = f} d p k) (l_choice_waiting e q l) = ap
      (λ z. clause (choice (rewritten w z ε.time) c f)) (one ε τ w d e p q)
  literal_once (l_composition x y c) (l_composition u v d) = composes_once c d (literal_once x u) (literal_once y v)
  literal_once (l_internal_true d x) (l_internal_true e y) = literal_once x y
  literal_once (l_internal_true {e = z} d x) (l_internal_false e y) = two_truths [] z d e
  literal_once (l_internal_false {e = z} d x) (l_internal_true e y) = two_truths [] z e d
  literal_once (l_internal_false d x) (l_internal_false e y) = literal_once x y
  literal_once (l_instantiation {τ = τ} {ps = ps} {vs = vs} {t = t} {r = r} de db e x)
      (l_instantiation {ps = ps'} {vs = vs'} {t = t'} de' db' e' y) =
      let a : vs ≡ vs' = some_inj (sym (evals_computed [] de) ∙ evals_computed [] de') in
      let b : ps ≡ ps' = some_inj (sym (all_computed [] db) ∙ all_computed [] db') in
      let c : t ≡ t' = some_inj (sym e ∙ e') in
      literal_once (subst (λ z. Literal D ε τ (put vs' ps' z.body) r) c
      (subst (λ z. Literal D ε τ (put z ps' t.body) r) a
      (subst (λ z. Literal D ε τ (put vs z t.body) r) b x))) y

-- at most one trace
pub trace_once : (D : List Template) {εs : List Reading} {τ u v : ℕ} {r q q' : Residual Clause} → Trace D τ r εs u q
    → Trace D τ r εs v q' → (u ≡ v) × (q ≡ q')
trace_once D trace_ends trace_ends = (refl, refl)
trace_once D {v = v} {q' = q'} (trace_step {ε = ε} {εs = εs} le x k) (trace_step le' y m) = trace_once D k
    (subst (λ z. Trace D ε.time z εs v q') (literal_once D ε y x) m)
trace_once D trace_final trace_final = (refl, refl)
