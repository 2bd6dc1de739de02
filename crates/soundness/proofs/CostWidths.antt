-- Refusal 5's widths: a template's is its body's, and the clause at a place is narrow, with every `then` in it.
use mathlib.Core.Bool.{◌&&◌}
use mathlib.Core.List.{List, [], ◌++◌, ◌∷◌}
use mathlib.Core.Option.{some}
use mathlib.Core.Path.{ap, ap₂, refl, subst, sym, ◌∙◌, ◌≡◌}
use Prim.Native.Nat.{◌+◌, ◌<◌, suc, zero, ℕ, ◌≤◌}
use native.Mathlib.Omega.{arith}
use lib.Dec.{T, eqb, leb, leb→le, ltb→lt}
use lib.ListN.{length, length-append}
use Rattle.csl.specs.Lists.{all, at}
use Rattle.csl.specs.Syntax.{Agreement, Clause, Template, Ty, Wait, bad_clause, choice, fulfilled, if, instance, join}
use Rattle.csl.specs.Syntax.{obligation}
use Rattle.csl.specs.Guards.{guarded_from, guarded_in}
use Rattle.csl.specs.Widths.{all_narrow, narrow, narrow_all, or_zero, thens_narrow, width, widths_from}
use Rattle.csl.specs.Places.{Found, clause_at, find, find_in}
use Rattle.laws.proofs.Bools.{T-left, T-right, from_test}
use Rattle.laws.proofs.Options.{from_or_else, none_some, some_inj}

-- ---- a template's width is its body's
at_before : (ws : List ℕ) (x k : ℕ) → k < length ws → at (ws ++ (x ∷ [])) k ≡ at ws k
unfolding at
at_before [] x k h = absurd (omega arith)
at_before (w ∷ ws) x zero h = refl
at_before (w ∷ ws) x (suc k) h = at_before ws x k (omega arith)

at_end : (ws : List ℕ) (x : ℕ) → at (ws ++ (x ∷ [])) (length ws) ≡ some x
unfolding at
at_end [] x = refl
at_end (w ∷ ws) x = at_end ws x

longer : (ws : List ℕ) (x : ℕ) → length (ws ++ (x ∷ [])) ≡ suc (length ws)
longer ws x = length-append ws (x ∷ []) ∙ omega arith

widths_before : (ws : List ℕ) (ts : List Template) (k : ℕ) → k < length ws → at (widths_from ws ts) k ≡ at ws k
unfolding widths_from
widths_before ws [] k h = refl
widths_before ws (t ∷ ts) k h =
    let x : ℕ = width ws t.body in
    widths_before (ws ++ (x ∷ [])) ts k (omega (arith, longer ws x)) ∙ at_before ws x k h

-- a guarded body's width turns only on the templates below it
width_below : (n : ℕ) (ws us : List ℕ) → ((k : ℕ) → k < n → at us k ≡ at ws k) → (c : Clause) → T (guarded_in n c)
    → width us c ≡ width ws c
unfolding width guarded_in
width_below n ws us h fulfilled g = refl
width_below n ws us h (obligation b w t) g = refl
width_below n ws us h (choice w t f) g = ap (λ x. 1 + x) (width_below n ws us h f g)
width_below n ws us h (if x t f) g = ap₂ (λ x y. 1 + x + y)
    (width_below n ws us h t (T-left (guarded_in n t) _ g)) (width_below n ws us h f (T-right (guarded_in n t) _ g))
width_below n ws us h (join j t f) g = ap₂ (λ x y. 1 + x + y)
    (width_below n ws us h t (T-left (guarded_in n t) _ g)) (width_below n ws us h f (T-right (guarded_in n t) _ g))
width_below n ws us h (instance k es bs) g = ap (λ o. 1 + or_zero o) (h k (ltb→lt k n g))
width_below n ws us h bad_clause g = refl

widths_at : (ws : List ℕ) (ts : List Template) (k : ℕ) (t : Template) → T (guarded_from (length ws) ts)
    → at ts k ≡ some t → at (widths_from ws ts) (length ws + k) ≡ some (width (widths_from ws ts) t.body)
unfolding widths_from guarded_from at
widths_at ws [] k t g e = none_some e
widths_at ws (s ∷ ts) zero t g e =
    let x : ℕ = width ws s.body in
    let us : List ℕ = widths_from (ws ++ (x ∷ [])) ts in
    let l : length (ws ++ (x ∷ [])) ≡ suc (length ws) = longer ws x in
    let same : width us s.body ≡ x = width_below (length ws) ws us
    (λ k h. widths_before (ws ++ (x ∷ [])) ts k (omega arith) ∙ at_before ws x k h) s.body
    (T-left (guarded_in (length ws) s.body) _ g) in
    subst (λ i. at us i ≡ some (width us t.body)) (omega arith)
    (widths_before (ws ++ (x ∷ [])) ts (length ws) (omega arith) ∙ at_end ws x ∙ ap some (sym same)
    ∙ ap (λ z. some (width us z.body)) (some_inj e))
widths_at ws (s ∷ ts) (suc k) t g e =
    let x : ℕ = width ws s.body in
    let l : length (ws ++ (x ∷ [])) ≡ suc (length ws) = longer ws x in
    let us : List ℕ = widths_from (ws ++ (x ∷ [])) ts in
    subst (λ i. at us i ≡ some (width us t.body)) (omega arith)
    (widths_at (ws ++ (x ∷ [])) ts k t
    (subst (λ n. T (guarded_from n ts)) (sym l) (T-right (guarded_in (length ws) s.body) _ g)) e)

pub body_width : (ts : List Template) (k : ℕ) (t : Template) → T (guarded_from 0 ts) → at ts k ≡ some t
    → or_zero (at (widths_from [] ts) k) ≡ width (widths_from [] ts) t.body
unfolding or_zero
body_width ts k t g e =
    let z : k ≡ 0 + k = omega arith in
    ap (λ i. or_zero (at (widths_from [] ts) i)) z ∙ ap or_zero (widths_at [] ts k t g e)

-- ---- narrow clauses
module _ (ws : List ℕ) where
  pub record Narrow (c : Clause) : Type 0 where
    pub wide : width ws c ≤ 256
    pub thens : T (thens_narrow ws c)

  narrow_is : (c : Clause) → T (all_narrow ws c) → Narrow c
  unfolding all_narrow narrow
  narrow_is c h = record {
    wide = leb→le (width ws c) 256 (T-left (leb (width ws c) 256) _ h);
    thens = T-right (leb (width ws c) 256) _ h;
  }

  -- of both sides of an `if` and of a join
  pub sides_narrow : (t f : Clause) → 1 + width ws t + width ws f ≤ 256 → T (thens_narrow ws t && thens_narrow ws f)
      → Narrow t × Narrow f
  sides_narrow t f h k = (
    record { wide = omega arith; thens = T-left (thens_narrow ws t) _ k },
    record { wide = omega arith; thens = T-right (thens_narrow ws t) _ k },
  )

  pub owed_narrow : (b : ℕ) (w : Wait) (t : Clause) → Narrow (obligation b w t) → Narrow t
  unfolding thens_narrow all_narrow
  owed_narrow b w t n = narrow_is t n.thens

  pub chosen_narrow : (w : Wait) (t f : Clause) → Narrow (choice w t f) → Narrow t × Narrow f
  unfolding width thens_narrow all_narrow
  chosen_narrow w t f n = (
    narrow_is t (T-left (narrow ws t && thens_narrow ws t) _ n.thens),
    record { wide = omega (arith, n.wide); thens = T-right (narrow ws t && thens_narrow ws t) _ n.thens },
  )

  -- ---- the clause at a place
  module _ (rs : List (List Ty)) (p : ℕ) (f : Found) where
    find_narrow : (n : ℕ) (c : Clause) (env : List Ty) → Narrow c → find rs n p c env ≡ some f → Narrow f.clause
    unfolding find width thens_narrow
    find_narrow n fulfilled env h e = none_some e
    find_narrow n (obligation b w t) env h e = from_test (eqb p w.place) _ _ e
        (λ _ q. subst (λ z. Narrow z.clause) (some_inj q) h) (find_narrow n t _ (owed_narrow b w t h))
    find_narrow n (choice w t u) env h e =
        let s = chosen_narrow w t u h in
        from_test (eqb p w.place) _ _ e (λ _ q. subst (λ z. Narrow z.clause) (some_inj q) h)
        (λ q. from_or_else _ _ f q (find_narrow n t _ s.0) (find_narrow n u env s.1))
    find_narrow n (if x t u) env h e =
        let s = sides_narrow t u h.wide h.thens in
        from_or_else _ _ f e (find_narrow n t env s.0) (find_narrow n u env s.1)
    find_narrow n (join j t u) env h e =
        let s = sides_narrow t u h.wide h.thens in
        from_or_else _ _ f e (find_narrow n t env s.0) (find_narrow n u env s.1)
    find_narrow n (instance k es bs) env h e = none_some e
    find_narrow n bad_clause env h e = none_some e

    find_in_narrow : (ts : List Template) → T (all (λ t. all_narrow ws t.body) ts) → find_in rs p ts ≡ some f
        → Narrow f.clause
    unfolding find_in all
    find_in_narrow [] h e = none_some e
    find_in_narrow (t ∷ ts) h e = from_or_else _ _ f e
        (find_narrow t.head.params t.body t.head.values
        (narrow_is t.body (T-left (all_narrow ws t.body) _ h)))
        (find_in_narrow ts (T-right (all_narrow ws t.body) _ h))

  pub template_narrow : (ts : List Template) (k : ℕ) (t : Template) → T (all (λ t. all_narrow ws t.body) ts)
      → at ts k ≡ some t → Narrow t.body
  unfolding all at
  template_narrow [] k t h e = none_some e
  template_narrow (s ∷ ts) zero t h e = subst (λ z. Narrow z.body) (some_inj e)
      (narrow_is s.body (T-left (all_narrow ws s.body) _ h))
  template_narrow (s ∷ ts) (suc k) t h e = template_narrow ts k t (T-right (all_narrow ws s.body) _ h) e

-- ---- of an agreement
module _ (a : Agreement) (nw : T (narrow_all a)) where
  abbrev pub widths : List ℕ
  widths = widths_from [] a.templates

  pub bodies_narrow : (k : ℕ) (t : Template) → at a.templates k ≡ some t → Narrow widths t.body
  unfolding narrow_all
  bodies_narrow k t e = template_narrow widths a.templates k t (T-right (all_narrow widths a.main) _ nw) e

  pub at_narrow : (p : ℕ) (f : Found) → clause_at a p ≡ some f → Narrow widths f.clause
  unfolding narrow_all clause_at
  at_narrow p f e = from_or_else _ _ f e
      (find_narrow widths a.readings p f 0 a.main []
      (narrow_is widths a.main (T-left (all_narrow widths a.main) _ nw)))
      (find_in_narrow widths a.readings p f a.templates (T-right (all_narrow widths a.main) _ nw))
