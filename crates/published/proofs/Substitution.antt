-- Values in sight are what CSL puts in: what a clause does with values and parties in sight, it does to the letter
-- with them put in (Fig. 7).
use mathlib.Core.Bool.{Bool, true, false}
use mathlib.Core.List.{List, [], ◌∷◌, ◌++◌, append_assoc}
use mathlib.Core.Option.{Option, none, some}
use mathlib.Core.Path.{ap, ap₂, refl, subst, sym, ◌∙◌, ◌≡◌}
use Prim.Native.Nat.{ℕ, zero, suc, ◌-◌, ◌<◌}
use native.Mathlib.Omega.{arith}
use lib.Dec.{T, ltb, ltb→lt, lt→ltb}
use lib.IntN.{pos, ◌-ℤ◌}
use lib.ListN.{length, length-append}
use Rattle.csl.specs.Lists.{all, at}
use Rattle.csl.specs.Syntax.{Clause, Expr, Join, Template, Wait, bad_clause, bad_expr, binary, choice, fulfilled, if}
use Rattle.csl.specs.Syntax.{instance, join, negation, number_lit, obligation, party_lit, truth_lit, variable}
use Rattle.csl.specs.Values.{Val, bool, num, who}
use Rattle.csl.specs.Outcomes.{Sight}
use Rattle.csl.specs.Rules.{Reading, Window, with_values}
use Rattle.laws.proofs.Clash.{impossible}
use Rattle.laws.proofs.Bools.{T-both, T→true, not_T→false}
use Rattle.soundness.proofs.Members.{all_in}
use Rattle.soundness.proofs.Walks.{at_in}
use Rattle.published.specs.Fig6.{Evaluates, e_number, e_false, e_true, e_party, e_sight, e_not, e_arithmetic}
use Rattle.published.specs.Fig6.{e_and, e_less, e_equal_numbers, e_equal_truths, e_equal_parties, EvaluateAll}
use Rattle.published.specs.Fig6.{e_none, e_more, Due, due}
use Rattle.published.specs.Fig7.{Stands, a_party, a_parameter, StandAll, stand_none, stand_more, literal, put}
use Rattle.published.specs.Fig7.{put_blame, put_blames, put_expr, put_exprs, put_wait}
use Rattle.published.specs.Fig8.{Matches, matching, Waits, early, other, untrue}
use Rattle.published.specs.Literal.{Residual, clause, breached, Composes, l_clauses, l_and_left, l_and_right}
use Rattle.published.specs.Literal.{l_and_first, l_and_second, l_and_same, l_or_left, l_or_right, l_or_first}
use Rattle.published.specs.Literal.{l_or_second, l_or_same, Fulfils, fulfilling, Leaves, leaves_early}
use Rattle.published.specs.Literal.{leaves_other, leaves_untrue, continuation, Literal, l_fulfilment}
use Rattle.published.specs.Literal.{l_obligation_matched, l_obligation_late, l_obligation_waiting}
use Rattle.published.specs.Literal.{l_choice_matched, l_choice_late, l_choice_waiting, l_composition}
use Rattle.published.specs.Literal.{l_internal_true, l_internal_false, l_instantiation}
use Rattle.published.proofs.Sighted.{Text, closed, joins, Sighted, i_fulfilment, i_obligation_matched}
use Rattle.published.proofs.Sighted.{i_obligation_late, i_obligation_waiting, i_choice_matched, i_choice_late}
use Rattle.published.proofs.Sighted.{i_choice_waiting, i_composition, i_joins, i_internal_true}
use Rattle.published.proofs.Sighted.{i_internal_false, i_instantiation}

-- ---- expressions
literal_evaluates : (env : List Val) (v : Val) → Evaluates env (literal v) v
unfolding literal
literal_evaluates env (num z) = e_number
literal_evaluates env (bool false) = e_false
literal_evaluates env (bool true) = e_true
literal_evaluates env (who p) = e_party

put_found : (θ : List Val) (i : ℕ) (v : Val) → at θ i ≡ some v → put_expr θ (variable i) ≡ literal v
unfolding put_expr
put_found θ i v e = rw (e, put_expr) refl

-- e ⇓ v with θ in sight, so e[θ] ⇓ v
pub evaluates_put : (θ : List Val) {e : Expr} {v : Val} → Evaluates θ e v → Evaluates [] (put_expr θ e) v
unfolding put_expr
evaluates_put θ e_number = e_number
evaluates_put θ e_false = e_false
evaluates_put θ e_true = e_true
evaluates_put θ e_party = e_party
evaluates_put θ (e_sight {i = i} {v = v} p) = subst (λ e. Evaluates [] e v) (sym (put_found θ i v p))
    (literal_evaluates [] v)
evaluates_put θ (e_not b d) = e_not b (evaluates_put θ d)
evaluates_put θ (e_arithmetic o m n p q) = e_arithmetic o m n (evaluates_put θ p) (evaluates_put θ q)
evaluates_put θ (e_and b c p q) = e_and b c (evaluates_put θ p) (evaluates_put θ q)
evaluates_put θ (e_less m n p q) = e_less m n (evaluates_put θ p) (evaluates_put θ q)
evaluates_put θ (e_equal_numbers m n p q) = e_equal_numbers m n (evaluates_put θ p) (evaluates_put θ q)
evaluates_put θ (e_equal_truths b c p q) = e_equal_truths b c (evaluates_put θ p) (evaluates_put θ q)
evaluates_put θ (e_equal_parties m n p q) = e_equal_parties m n (evaluates_put θ p) (evaluates_put θ q)

pub all_put : (θ : List Val) {es : List Expr} {vs : List Val} → EvaluateAll θ es vs → EvaluateAll [] (put_exprs θ es) vs
unfolding put_exprs
all_put θ e_none = e_none
all_put θ (e_more d ds) = e_more (evaluates_put θ d) (all_put θ ds)

-- ---- e[θ₁][θ₂] is e[θ₁ ++ θ₂]
at_first : (θ₁ θ₂ : List Val) (i : ℕ) (v : Val) → at θ₁ i ≡ some v → at (θ₁ ++ θ₂) i ≡ some v
unfolding at
at_first [] θ₂ i v e = impossible cc
at_first (u ∷ θ₁) θ₂ zero v e = e
at_first (u ∷ θ₁) θ₂ (suc i) v e = at_first θ₁ θ₂ i v e

at_rest : (θ₁ θ₂ : List Val) (i : ℕ) → at θ₁ i ≡ none → at (θ₁ ++ θ₂) i ≡ at θ₂ (i - length θ₁)
unfolding at
at_rest [] θ₂ i e = ap (at θ₂) (omega arith)
at_rest (u ∷ θ₁) θ₂ zero e = impossible cc
at_rest (u ∷ θ₁) θ₂ (suc i) e = at_rest θ₁ θ₂ i e ∙ ap (at θ₂) (omega arith)

literal_stays : (θ : List Val) (v : Val) → put_expr θ (literal v) ≡ literal v
unfolding put_expr literal
literal_stays θ (num z) = refl
literal_stays θ (bool false) = refl
literal_stays θ (bool true) = refl
literal_stays θ (who p) = refl

abbrev found : List Val → ℕ → Option Val → Expr
found θ i o = elim o [ some v ↦ literal v | none ↦ variable (i - length θ) ]

put_variable : (θ₁ θ₂ : List Val) (i : ℕ) (o : Option Val) → at θ₁ i ≡ o
    → put_expr θ₂ (found θ₁ i o) ≡ found (θ₁ ++ θ₂) i (at (θ₁ ++ θ₂) i)
unfolding put_expr
put_variable θ₁ θ₂ i (some v) e = literal_stays θ₂ v ∙ sym (ap (found (θ₁ ++ θ₂) i) (at_first θ₁ θ₂ i v e))
put_variable θ₁ θ₂ i none e =
    ap (λ n. elim (at θ₂ (i - length θ₁)) [ some v ↦ literal v | none ↦ variable n ])
    (let l = length-append θ₁ θ₂ in omega arith)
    ∙ sym (ap (found (θ₁ ++ θ₂) i) (at_rest θ₁ θ₂ i e))

put_twice_expr : (θ₁ θ₂ : List Val) (e : Expr) → put_expr θ₂ (put_expr θ₁ e) ≡ put_expr (θ₁ ++ θ₂) e
unfolding put_expr
put_twice_expr θ₁ θ₂ (number_lit z) = refl
put_twice_expr θ₁ θ₂ (truth_lit n) = refl
put_twice_expr θ₁ θ₂ (party_lit p) = refl
put_twice_expr θ₁ θ₂ (variable i) = put_variable θ₁ θ₂ i (at θ₁ i) refl
put_twice_expr θ₁ θ₂ (negation e) = ap negation (put_twice_expr θ₁ θ₂ e)
put_twice_expr θ₁ θ₂ (binary o x y) = ap₂ (binary o) (put_twice_expr θ₁ θ₂ x) (put_twice_expr θ₁ θ₂ y)
put_twice_expr θ₁ θ₂ bad_expr = refl

put_twice_exprs : (θ₁ θ₂ : List Val) (es : List Expr) → put_exprs θ₂ (put_exprs θ₁ es) ≡ put_exprs (θ₁ ++ θ₂) es
unfolding put_exprs
put_twice_exprs θ₁ θ₂ [] = refl
put_twice_exprs θ₁ θ₂ (e ∷ es) = ap₂ (λ x xs. x ∷ xs) (put_twice_expr θ₁ θ₂ e) (put_twice_exprs θ₁ θ₂ es)

-- ---- blames
no_blame : (b : ℕ) → put_blame [] b ≡ b
unfolding put_blame at
no_blame b = go (ltb b 128)
  where
    go : (t : Bool) → ◌≡◌ {A = ℕ} (elim t [ true ↦ b | false ↦ b ]) b
    go true = refl
    go false = refl

no_blames : (bs : List ℕ) → put_blames [] bs ≡ bs
unfolding put_blames
no_blames [] = refl
no_blames (b ∷ bs) = ap₂ (λ x xs. x ∷ xs) (no_blame b) (no_blames bs)

-- ---- clauses
abbrev waits : Wait → Expr → Expr → Expr → Wait
waits w c a i = record { place = w.place; wanted = w.wanted; condition = c; after = a; within = i }

wait_twice : (θ₁ θ₂ : List Val) (w : Wait) → put_wait θ₂ (put_wait θ₁ w) ≡ put_wait (θ₁ ++ θ₂) w
wait_twice θ₁ θ₂ w =
    ap (λ e. waits w e (put_expr θ₂ (put_expr θ₁ w.after)) (put_expr θ₂ (put_expr θ₁ w.within)))
    (put_twice_expr θ₁ θ₂ w.condition)
    ∙ ap₂ (waits w (put_expr (θ₁ ++ θ₂) w.condition)) (put_twice_expr θ₁ θ₂ w.after)
    (put_twice_expr θ₁ θ₂ w.within)

-- c[θ₁]⟨ps⟩[θ₂] is c[θ₁ ++ θ₂]⟨ps⟩
put_twice : (θ₁ θ₂ : List Val) (ps : List ℕ) (c : Clause) → put θ₂ [] (put θ₁ ps c) ≡ put (θ₁ ++ θ₂) ps c
unfolding put
put_twice θ₁ θ₂ ps fulfilled = refl
put_twice θ₁ θ₂ ps (obligation b w c) = ap₂ (λ x y. obligation x y (put θ₂ [] (put θ₁ ps c)))
    (no_blame (put_blame ps b)) (wait_twice θ₁ θ₂ w)
    ∙ ap (obligation (put_blame ps b) (put_wait (θ₁ ++ θ₂) w)) (put_twice θ₁ θ₂ ps c)
put_twice θ₁ θ₂ ps (choice w c f) = ap (λ x. choice x (put θ₂ [] (put θ₁ ps c)) (put θ₂ [] (put θ₁ ps f)))
    (wait_twice θ₁ θ₂ w) ∙ ap₂ (choice (put_wait (θ₁ ++ θ₂) w)) (put_twice θ₁ θ₂ ps c) (put_twice θ₁ θ₂ ps f)
put_twice θ₁ θ₂ ps (if e c f) = ap (λ x. if x (put θ₂ [] (put θ₁ ps c)) (put θ₂ [] (put θ₁ ps f)))
    (put_twice_expr θ₁ θ₂ e) ∙ ap₂ (if (put_expr (θ₁ ++ θ₂) e)) (put_twice θ₁ θ₂ ps c) (put_twice θ₁ θ₂ ps f)
put_twice θ₁ θ₂ ps (join j c f) = ap₂ (join j) (put_twice θ₁ θ₂ ps c) (put_twice θ₁ θ₂ ps f)
put_twice θ₁ θ₂ ps (instance k es bs) = ap₂ (instance k) (put_twice_exprs θ₁ θ₂ es) (no_blames (put_blames ps bs))
put_twice θ₁ θ₂ ps bad_clause = refl

-- ---- nothing put in
nothing_expr : (e : Expr) → put_expr [] e ≡ e
unfolding put_expr at
nothing_expr (number_lit z) = refl
nothing_expr (truth_lit n) = refl
nothing_expr (party_lit p) = refl
nothing_expr (variable i) = ap variable (omega arith)
nothing_expr (negation e) = ap negation (nothing_expr e)
nothing_expr (binary o x y) = ap₂ (binary o) (nothing_expr x) (nothing_expr y)
nothing_expr bad_expr = refl

nothing_exprs : (es : List Expr) → put_exprs [] es ≡ es
unfolding put_exprs
nothing_exprs [] = refl
nothing_exprs (e ∷ es) = ap₂ (λ x xs. x ∷ xs) (nothing_expr e) (nothing_exprs es)

nothing_wait : (w : Wait) → put_wait [] w ≡ w
nothing_wait w = ap (λ e. waits w e (put_expr [] w.after) (put_expr [] w.within)) (nothing_expr w.condition)
    ∙ ap₂ (waits w w.condition) (nothing_expr w.after) (nothing_expr w.within)

pub put_nothing : (c : Clause) → put [] [] c ≡ c
unfolding put
put_nothing fulfilled = refl
put_nothing (obligation b w c) = ap₂ (λ x y. obligation x y (put [] [] c)) (no_blame b) (nothing_wait w)
    ∙ ap (obligation b w) (put_nothing c)
put_nothing (choice w c f) = ap (λ x. choice x (put [] [] c) (put [] [] f)) (nothing_wait w)
    ∙ ap₂ (choice w) (put_nothing c) (put_nothing f)
put_nothing (if e c f) = ap (λ x. if x (put [] [] c) (put [] [] f)) (nothing_expr e)
    ∙ ap₂ (if e) (put_nothing c) (put_nothing f)
put_nothing (join j c f) = ap₂ (join j) (put_nothing c) (put_nothing f)
put_nothing (instance k es bs) = ap₂ (instance k) (nothing_exprs es) (no_blames bs)
put_nothing bad_clause = refl

-- ---- parties put in: they are below 128, so they stand for themselves
abbrev pub Small : List ℕ → Type 0
Small ps = T (all (λ p. ltb p 128) ps)

blame_is : (ps : List ℕ) {b p : ℕ} → Stands ps b p → put_blame ps b ≡ p
unfolding put_blame
blame_is ps (a_party {b = b} l) = ap (λ t. elim t
    [ true ↦ b | false ↦ elim (at ps (b - 128)) [ some p ↦ p | none ↦ b ] ]) (T→true (ltb b 128) (lt→ltb b 128 l))
blame_is ps (a_parameter {b = b} l e) =
    ap (λ t. elim t [ true ↦ b | false ↦ elim (at ps (b - 128)) [ some p ↦ p | none ↦ b ] ])
    (not_T→false (ltb b 128) (λ t. let k = ltb→lt b 128 t in omega arith))
    ∙ ap (λ o. elim o [ some p ↦ p | none ↦ b ]) e

stands_small : (ps : List ℕ) {b p : ℕ} → Small ps → Stands ps b p → p < 128
stands_small ps h (a_party l) = l
stands_small ps h (a_parameter {b = b} {p = p} l e) = ltb→lt p 128
    (all_in (λ p. ltb p 128) ps h p (at_in ps (b - 128) p e))

pub stands_put : (ps : List ℕ) {b p : ℕ} → Small ps → Stands ps b p → Stands [] (put_blame ps b) p
stands_put ps {p = p} h d = subst (λ z. Stands [] z p) (sym (blame_is ps d)) (a_party (stands_small ps h d))

pub stand_all_put : (ps : List ℕ) {bs qs : List ℕ} → Small ps → StandAll ps bs qs
    → StandAll [] (put_blames ps bs) qs × Small qs
unfolding put_blames all
stand_all_put ps h stand_none = (stand_none, tt)
stand_all_put ps h (stand_more {p = p} d ds) = let r = stand_all_put ps h ds in
    (stand_more (stands_put ps h d) r.0, T-both (ltb p 128) _ (lt→ltb p 128 (stands_small ps h d)) r.1)

-- ---- a text with everything put in
abbrev pub closes : Text → Clause
closes (closed s c) = put s.values s.params c
closes (joins j x y) = join j (closes x) (closes y)

abbrev pub closes_all : Residual Text → Residual Clause
closes_all (clause x) = clause (closes x)
closes_all (breached t B) = breached t B

abbrev pub AllSmall : Text → Type 0
AllSmall (closed s c) = Small s.params
AllSmall (joins j x y) = AllSmall x × AllSmall y

composes_put : {j : Join} {r₁ r₂ r : Residual Text} → Composes joins j r₁ r₂ r
    → Composes join j (closes_all r₁) (closes_all r₂) (closes_all r)
composes_put l_clauses = l_clauses
composes_put l_and_left = l_and_left
composes_put l_and_right = l_and_right
composes_put (l_and_first l) = l_and_first l
composes_put (l_and_second l) = l_and_second l
composes_put l_and_same = l_and_same
composes_put l_or_left = l_or_left
composes_put l_or_right = l_or_right
composes_put (l_or_first l) = l_or_first l
composes_put (l_or_second l) = l_or_second l
composes_put (l_or_same l) = l_or_same l

pub due_put : (θ : List Val) {τ : ℕ} {w : Wait} {d : Window} → Due θ τ w d → Due [] τ (put_wait θ w) d
due_put θ (due n₁ n₂ p q) = due n₁ n₂ (evaluates_put θ p) (evaluates_put θ q)

module _ (ε : Reading) (s : Sight) (w : Wait) (d : Window) where
  -- e[v/x] of the condition with the values in sight put in
  asked_put : {v : Val} → Evaluates (s.values ++ ε.values) w.condition v
      → Evaluates [] (put_expr ε.values (put_expr s.values w.condition)) v
  asked_put {v} p = subst (λ e. Evaluates [] e v) (sym (put_twice_expr s.values ε.values w.condition))
      (evaluates_put (s.values ++ ε.values) p)

  matches_put : Matches ε s w d → Fulfils ε (put_wait s.values w) d
  matches_put (matching p c f l) = fulfilling p (asked_put c) f l

  waits_put : Waits ε s w d → Leaves ε (put_wait s.values w) d
  waits_put (early l f) = leaves_early l f
  waits_put (other l f) = leaves_other l f
  waits_put (untrue l c) = leaves_untrue l (asked_put c)

  continued : (c : Clause)
      → continuation ε d (put s.values s.params c) ≡ closes
      (closed (with_values s ε.values (d.last -ℤ pos ε.time)) c)
  unfolding with_values
  continued c = let rest = num (d.last -ℤ pos ε.time) ∷ [] in
      put_twice s.values (ε.values ++ rest) s.params c
      ∙ ap (λ l. put l s.params c) (sym (append_assoc s.values ε.values rest))

-- what is in sight is put in
pub to_letter : (D : List Template) (ε : Reading) {τ : ℕ} {x : Text} {r : Residual Text} → AllSmall x
    → Sighted D ε τ x r → Literal D ε τ (closes x) (closes_all r)
unfolding put put_expr
to_letter D ε h i_fulfilment = l_fulfilment
to_letter D ε h (i_obligation_matched {τ = τ} {b = b} {s = s} {w = w} {c = c} d p m) = subst
    (λ k. Literal D ε τ (closes (closed s (obligation b w c))) (clause k)) (continued ε s w d c)
    (l_obligation_matched d (due_put s.values p) (matches_put ε s w d m))
to_letter D ε h (i_obligation_late {s = s} d p l y) = l_obligation_late d (due_put s.values p) l
    (stands_put s.params h y)
to_letter D ε h (i_obligation_waiting {s = s} {w = w} d p k) = l_obligation_waiting d (due_put s.values p)
    (waits_put ε s w d k)
to_letter D ε h (i_choice_matched {τ = τ} {s = s} {w = w} {c₁ = c} {c₂ = f} d p m) = subst
    (λ k. Literal D ε τ (closes (closed s (choice w c f))) (clause k)) (continued ε s w d c)
    (l_choice_matched d (due_put s.values p) (matches_put ε s w d m))
to_letter D ε h (i_choice_late {s = s} d p l x) = l_choice_late d (due_put s.values p) l (to_letter D ε h x)
to_letter D ε h (i_choice_waiting {s = s} {w = w} d p k) = l_choice_waiting d (due_put s.values p)
    (waits_put ε s w d k)
to_letter D ε h (i_composition x y c) = l_composition (to_letter D ε h x) (to_letter D ε h y) (composes_put c)
to_letter D ε h (i_joins x y c) = l_composition (to_letter D ε h.0 x) (to_letter D ε h.1 y) (composes_put c)
to_letter D ε h (i_internal_true {s = s} e x) = l_internal_true (evaluates_put s.values e) (to_letter D ε h x)
to_letter D ε h (i_internal_false {s = s} e x) = l_internal_false (evaluates_put s.values e) (to_letter D ε h x)
to_letter D ε h (i_instantiation {s = s} de db e x) = let r = stand_all_put s.params h db in
    l_instantiation (all_put s.values de) r.0 e (to_letter D ε r.1 x)
