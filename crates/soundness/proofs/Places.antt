-- Every wait of a decoded agreement is found at its place.
use mathlib.Core.List.{List}
use mathlib.Core.Logic.{inl, inr, ◌⊎◌}
use mathlib.Core.Option.{Option, none, some}
use mathlib.Core.Path.{refl, ◌∙◌, ◌≡◌}
use Prim.Native.Nat.{◌<◌, ℕ, ◌≤◌}
use native.Mathlib.Omega.{arith}
use borrow.Author.Tests.{ne_eqb}
use lib.Dec.{eqb, eqb_refl}
use Rattle.csl.specs.Lists.{or_else}
use Rattle.csl.specs.Syntax.{Agreement, Clause, Ty, bad_clause, choice, fulfilled, if, instance, join, obligation}
use Rattle.csl.specs.Places.{clause_at, find}
use Rattle.laws.proofs.Bools.{T→true, elim_true, elim_false}
use Rattle.soundness.proofs.Good.{Placed}

-- ---- places lie in a range, in order
unfoldable pub Ranged : ℕ → ℕ → Clause → Type 0
Ranged lo hi fulfilled = lo ≤ hi
Ranged lo hi (obligation b w t) = (m : ℕ) × (lo ≤ w.place) × (w.place < m) × Ranged m hi t
Ranged lo hi (choice w t f) = (m : ℕ) × (k : ℕ) × (lo ≤ w.place) × (w.place < m) × Ranged m k t × Ranged k hi f
Ranged lo hi (if e t f) = (k : ℕ) × Ranged lo k t × Ranged k hi f
Ranged lo hi (join j t f) = (k : ℕ) × Ranged lo k t × Ranged k hi f
Ranged lo hi (instance k es bs) = lo ≤ hi
Ranged lo hi bad_clause = lo ≤ hi

pub ranged_le : (lo hi : ℕ) (c : Clause) → Ranged lo hi c → lo ≤ hi
unfolding Ranged
ranged_le lo hi fulfilled h = h
ranged_le lo hi (obligation b w t) h = omega (arith, h.1, h.2, ranged_le h.0 hi t h.3)
ranged_le lo hi (choice w t f) h = omega
    (arith, h.2, h.3, ranged_le h.0 h.1 t h.4, ranged_le h.1 hi f h.5)
ranged_le lo hi (if e t f) h = omega (arith, ranged_le lo h.0 t h.1, ranged_le h.0 hi f h.2)
ranged_le lo hi (join j t f) h = omega (arith, ranged_le lo h.0 t h.1, ranged_le h.0 hi f h.2)
ranged_le lo hi (instance k es bs) h = h
ranged_le lo hi bad_clause h = h

pub ranged_wider : (lo lo' hi hi' : ℕ) (c : Clause) → lo' ≤ lo → hi ≤ hi' → Ranged lo hi c → Ranged lo' hi' c
unfolding Ranged
ranged_wider lo lo' hi hi' fulfilled a b h = omega arith
ranged_wider lo lo' hi hi' (obligation _ w t) a b
    h = (h.0, omega (arith, h.1), h.2, ranged_wider h.0 h.0 hi hi' t (omega arith) b h.3)
ranged_wider lo lo' hi hi' (choice w t f) a b
    h = (h.0, h.1, omega (arith, h.2), h.3, h.4, ranged_wider h.1 h.1 hi hi' f (omega arith) b h.5)
ranged_wider lo lo' hi hi' (if e t f) a b
    h = (
      h.0,
      ranged_wider lo lo' h.0 h.0 t a (omega arith) h.1,
      ranged_wider h.0 h.0 hi hi' f (omega arith) b h.2,
    )
ranged_wider lo lo' hi hi' (join j t f) a b
    h = (
      h.0,
      ranged_wider lo lo' h.0 h.0 t a (omega arith) h.1,
      ranged_wider h.0 h.0 hi hi' f (omega arith) b h.2,
    )
ranged_wider lo lo' hi hi' (instance k es bs) a b h = omega arith
ranged_wider lo lo' hi hi' bad_clause a b h = omega arith

-- ---- finding
unfoldable pub Out : ℕ → ℕ → ℕ → Type 0
Out p lo hi = (p < lo) ⊎ (hi ≤ p)

pub out_in : (p lo hi lo' hi' : ℕ) → lo ≤ lo' → hi' ≤ hi → Out p lo hi → Out p lo' hi'
unfolding Out
out_in p lo hi lo' hi' a b (inl h) = inl (omega arith)
out_in p lo hi lo' hi' a b (inr h) = inr (omega arith)

out_ne : (p q lo hi : ℕ) → lo ≤ q → q < hi → Out p lo hi → p ≡ q → ⊥
unfolding Out
out_ne p q lo hi a b (inl h) e = omega arith
out_ne p q lo hi a b (inr h) e = omega arith

pub or_else_none : {A : Type 0} (m o : Option A) → m ≡ none → or_else m o ≡ o
unfolding or_else
or_else_none m o e = rw e refl

pub none_or_else : {A : Type 0} (m o : Option A) → o ≡ none → or_else m o ≡ m
unfolding or_else
none_or_else none o e = e
none_or_else (some a) o e = refl

module _ (rs : List (List Ty)) (n p : ℕ) where
  -- a place outside a clause's range is no place in it: places are unique
  pub find_none : (lo hi : ℕ) (c : Clause) (env : List Ty) → Ranged lo hi c → Out p lo hi → find rs n p c env ≡ none
  unfolding find Ranged
  find_none lo hi fulfilled env h o = refl
  find_none lo hi (obligation b w t) env h o = elim_false (eqb p w.place) _ _
      (ne_eqb p w.place (out_ne p w.place lo hi h.1 (omega (arith, h.2, ranged_le h.0 hi t h.3)) o))
      ∙ (find_none h.0 hi t _ h.3 (out_in p lo hi h.0 hi (omega (arith, h.1, h.2)) (omega arith) o))
  find_none lo hi (choice w t f) env h o =
      elim_false (eqb p w.place) _ _ (ne_eqb p w.place
      (out_ne p w.place lo hi h.2 (omega
      (arith, h.3, ranged_le h.0 h.1 t h.4, ranged_le h.1 hi f h.5)) o))
      ∙ (or_else_none _ _ (find_none h.0 h.1 t _ h.4
      (out_in p lo hi h.0 h.1 (omega (arith, h.2, h.3)) (ranged_le h.1 hi f h.5) o))
      ∙ find_none h.1 hi f env h.5 (out_in p lo hi h.1 hi
      (omega (arith, h.2, h.3, ranged_le h.0 h.1 t h.4)) (omega arith) o))
  find_none lo hi (if e t f) env h o = or_else_none _ _
      (find_none lo h.0 t env h.1 (out_in p lo hi lo h.0 (omega arith) (ranged_le h.0 hi f h.2) o))
      ∙ find_none h.0 hi f env h.2 (out_in p lo hi h.0 hi (ranged_le lo h.0 t h.1) (omega arith) o)
  find_none lo hi (join j t f) env h o = or_else_none _ _
      (find_none lo h.0 t env h.1 (out_in p lo hi lo h.0 (omega arith) (ranged_le h.0 hi f h.2) o))
      ∙ find_none h.0 hi f env h.2 (out_in p lo hi h.0 hi (ranged_le lo h.0 t h.1) (omega arith) o)
  find_none lo hi (instance k es bs) env h o = refl
  find_none lo hi bad_clause env h o = refl

-- where the agreement's finder finds in a clause's range what the clause's own finder does, each of its waits is placed
pub placed_in : (ag : Agreement) (n lo hi : ℕ) (c : Clause) (env : List Ty) → Ranged lo hi c
    → ((p : ℕ) → lo ≤ p → p < hi → clause_at ag p ≡ find ag.readings n p c env) → Placed ag n env c
unfolding Placed find Ranged Out
placed_in ag n lo hi fulfilled env h k = tt
placed_in ag n lo hi (obligation b w t) env h k = (
  k w.place h.1 (omega (arith, h.2, ranged_le h.0 hi t h.3))
      ∙ elim_true (eqb w.place w.place) _ _ (T→true (eqb w.place w.place) (eqb_refl w.place)),
  placed_in ag n h.0 hi t _ h.3 (λ p a c. k p (omega (arith, h.1, h.2)) c
      ∙ elim_false (eqb p w.place) _ _ (ne_eqb p w.place (λ e. omega (arith, h.2)))),
)
placed_in ag n lo hi (choice w t f) env h k = (
  k w.place h.2 (omega (arith, h.3, ranged_le h.0 h.1 t h.4, ranged_le h.1 hi f h.5))
      ∙ elim_true (eqb w.place w.place) _ _ (T→true (eqb w.place w.place) (eqb_refl w.place)),
  placed_in ag n h.0 h.1 t _ h.4
      (λ p a c. k p (omega (arith, h.2, h.3)) (omega (arith, ranged_le h.1 hi f h.5))
      ∙ elim_false (eqb p w.place) _ _ (ne_eqb p w.place (λ e. omega (arith, h.3)))
      ∙ (none_or_else _ _ (find_none ag.readings n p h.1 hi f env h.5 (inl c)))),
  placed_in ag n h.1 hi f env h.5 (λ p a c. k p (omega (arith, h.2, h.3, ranged_le h.0 h.1 t h.4)) c
      ∙ elim_false (eqb p w.place) _ _ (ne_eqb p w.place
      (λ e. omega (arith, h.3, ranged_le h.0 h.1 t h.4)))
      ∙ (or_else_none _ _ (find_none ag.readings n p h.0 h.1 t _ h.4 (inr a)))),
)
placed_in ag n lo hi (if e t f) env h k = (
  placed_in ag n lo h.0 t env h.1 (λ p a c. k p a (omega (arith, ranged_le h.0 hi f h.2))
      ∙ none_or_else _ _ (find_none ag.readings n p h.0 hi f env h.2 (inl c))),
  placed_in ag n h.0 hi f env h.2 (λ p a c. k p (omega (arith, ranged_le lo h.0 t h.1)) c
      ∙ or_else_none _ _ (find_none ag.readings n p lo h.0 t env h.1 (inr a))),
)
placed_in ag n lo hi (join j t f) env h k = (
  placed_in ag n lo h.0 t env h.1 (λ p a c. k p a (omega (arith, ranged_le h.0 hi f h.2))
      ∙ none_or_else _ _ (find_none ag.readings n p h.0 hi f env h.2 (inl c))),
  placed_in ag n h.0 hi f env h.2 (λ p a c. k p (omega (arith, ranged_le lo h.0 t h.1)) c
      ∙ or_else_none _ _ (find_none ag.readings n p lo h.0 t env h.1 (inr a))),
)
placed_in ag n lo hi (instance m es bs) env h k = tt
placed_in ag n lo hi bad_clause env h k = tt
