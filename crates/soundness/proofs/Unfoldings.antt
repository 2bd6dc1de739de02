-- A guarded clause is walked alike with more unfoldings of instances, whatever is reckoned.
use mathlib.Core.Bool.{Bool, false, true}
use mathlib.Core.List.{List}
use mathlib.Core.Option.{Option, none, some}
use mathlib.Core.Path.{ap, ap₂, fun_ext, refl, ◌≡◌}
use Prim.Native.Nat.{◌<◌, suc, zero, ℕ, ◌≤◌}
use native.Mathlib.Omega.{arith}
use lib.Dec.{T, ltb→lt}
use Rattle.csl.specs.Lists.{◌>>=◌, at}
use Rattle.csl.specs.Syntax.{Clause, Template, bad_clause, choice, fulfilled, if, instance, join, obligation}
use Rattle.csl.specs.Guards.{guarded_in}
use Rattle.csl.specs.Values.{Val, eval_bool, evals}
use Rattle.csl.specs.Outcomes.{Sight}
use Rattle.csl.specs.Rules.{blamed_all}
use Rattle.csl.specs.Reckoning.{Reckoning, StepOf, or_stops, walk, walk_in}
use Rattle.laws.proofs.Bools.{T-left, T-right}
use Rattle.soundness.proofs.Activation.{guarded_mono}

module _ {A : Type 0} (g : Reckoning A) (s : StepOf A) where
  bind_alike : {X : Type 0} (m : Option X) (f h : X → Option A)
      → ((x : X) → m ≡ some x → or_stops g (f x) ≡ or_stops g (h x)) → or_stops g (m >>= f) ≡ or_stops g (m >>= h)
  unfolding ◌>>=◌ or_stops
  bind_alike none f h k = refl
  bind_alike (some x) f h k = k x refl

  module _ (n : ℕ) (un vn : ℕ → List Val → List ℕ → ℕ → A)
      (uv : (k : ℕ) (vs : List Val) (ps : List ℕ) (u : ℕ) → k < n → un k vs ps u ≡ vn k vs ps u) where
    walk_alike : (c : Clause) (e : Sight) (a : ℕ) → T (guarded_in n c) → walk g s un c e a ≡ walk g s vn c e a
    unfolding walk guarded_in or_stops
    walk_alike fulfilled e a gd = refl
    walk_alike (obligation b w t) e a gd = refl
    walk_alike (choice w t f) e a gd = ap (λ z. g.reaches (s.on_choice e a w t z))
        (fun_ext (λ u. walk_alike f e u gd))
    walk_alike (if x t f) e a gd = ap g.reaches (bind_alike (eval_bool e.values x) _ _ (λ b _. pick b
        (walk_alike t e a (T-left (guarded_in n t) _ gd)) (walk_alike f e a (T-right (guarded_in n t) _ gd))))
      where
        pick : (b : Bool) → walk g s un t e a ≡ walk g s vn t e a → walk g s un f e a ≡ walk g s vn f e a
            → or_stops g (elim b [ true ↦ some (walk g s un t e a) | false ↦ some (walk g s un f e a) ])
            ≡ or_stops g (elim b [ true ↦ some (walk g s vn t e a) | false ↦ some (walk g s vn f e a) ])
        pick true p q = p
        pick false p q = q
    walk_alike (join j t f) e a gd = ap₂ (λ x y. g.reaches (g.joins j x y))
        (walk_alike t e a (T-left (guarded_in n t) _ gd)) (walk_alike f e a (T-right (guarded_in n t) _ gd))
    walk_alike (instance k es bs) e a gd = ap g.reaches (bind_alike (evals e.values es) _ _ λ vs _.
        bind_alike (blamed_all e.params bs) _ _ λ ps _. uv k vs ps a (ltb→lt k n gd))
    walk_alike bad_clause e a gd = refl

  pub more_unfoldings : (ts : List Template)
      → ((k : ℕ) (t : Template) → at ts k ≡ some t → T (guarded_in k t.body)) → (m n : ℕ) → m ≤ n
      → (c : Clause) (e : Sight) (a : ℕ) → T (guarded_in m c) → walk_in g s ts m c e a ≡ walk_in g s ts n c e a
  unfolding walk_in or_stops
  more_unfoldings ts low zero zero le = λ c e a gd. refl
  more_unfoldings ts low zero (suc n) le = walk_alike 0 _ _ (λ k vs ps u lt. absurd (omega arith))
  more_unfoldings ts low (suc m) zero le = absurd (omega arith)
  more_unfoldings ts low (suc m) (suc n) le = walk_alike (suc m) _ _ (λ k vs ps u lt.
      bind_alike (at ts k) _ _ λ t q. more_unfoldings ts low m n (omega arith) t.body
      (record { params = ps; values = vs }) u (guarded_mono k m t.body (omega arith) (low k t q)))
