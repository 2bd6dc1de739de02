-- Evaluation is type sound (CSL Lemma 8): a typed expression has a value, of its type and in its range.
use mathlib.Core.Bool.{◌&&◌, Bool, cond, false, not, true}
use mathlib.Core.List.{◌++◌, List, [], ◌∷◌}
use mathlib.Core.Option.{Option, some}
use mathlib.Core.Path.{refl, subst, sym, ◌∙◌, ◌≡◌}
use Prim.Native.Nat.{◌-◌, suc, zero, ℕ}
use native.Mathlib.Omega.{arith}
use lib.Dec.{T, eqb, leb, leb→le, le→leb, ltb, nltb→le}
use lib.IntN.{◌*ℤ◌, ◌+ℤ◌, ◌-ℤ◌, nat_abs, negsuc, pos, ℤ}
use lib.Signed.{lt_z}
use Rattle.csl.specs.Lists.{◌>>=◌, at}
use Rattle.csl.specs.Numbers.{Arithmetic, bottom, calculate, eq_z, held, in_range, limit, minus, plus, quot, quotient}
use Rattle.csl.specs.Numbers.{times, top}
use Rattle.csl.specs.Syntax.{Expr, Op, Ty, arithmetic, bad_expr, binary, conj, equal, less, negation, number}
use Rattle.csl.specs.Syntax.{number_lit, party, party_lit, truth, truth_lit, variable}
use Rattle.csl.specs.Typing.{operand, result, same_ty, type_expr}
use Rattle.csl.specs.Values.{Val, apply, as_bool, as_num, as_truth, bool, eval, num, on_bools, on_nums, same_bool}
use Rattle.csl.specs.Values.{same_val}
use Rattle.csl.specs.Values.{who}
use Rattle.laws.proofs.Bools.{both_true}
use Rattle.laws.proofs.Options.{from_bind, from_need, some_bind, some_inj}
use Rattle.laws.proofs.Clash.{impossible}
use Rattle.laws.proofs.Quotients.{quotient_size}

pub same_ty→eq : (s t : Ty) → T (same_ty s t) → s ≡ t
unfolding same_ty
same_ty→eq number number h = refl
same_ty→eq number truth h = absurd h
same_ty→eq number party h = absurd h
same_ty→eq truth number h = absurd h
same_ty→eq truth truth h = refl
same_ty→eq truth party h = absurd h
same_ty→eq party number h = absurd h
same_ty→eq party truth h = absurd h
same_ty→eq party party h = refl

-- ---- a value has a type, in its range
unfoldable pub HasTy : ℕ → Ty → Val → Type 0
HasTy ps number (num z) = T (in_range z)
HasTy ps number (bool b) = ⊥
HasTy ps number (who p) = ⊥
HasTy ps truth (num z) = ⊥
HasTy ps truth (bool b) = Unit {0}
HasTy ps truth (who p) = ⊥
HasTy ps party (num z) = ⊥
HasTy ps party (bool b) = ⊥
HasTy ps party (who p) = T (ltb p ps)

unfoldable pub HaveTy : ℕ → List Ty → List Val → Type 0
HaveTy ps [] [] = Unit {0}
HaveTy ps [] (v ∷ vs) = ⊥
HaveTy ps (t ∷ ts) [] = ⊥
HaveTy ps (t ∷ ts) (v ∷ vs) = HasTy ps t v × HaveTy ps ts vs

pub HaveTy-++ : (ps : ℕ) (ts us : List Ty) (vs ws : List Val) → HaveTy ps ts vs → HaveTy ps us ws
    → HaveTy ps (ts ++ us) (vs ++ ws)
unfolding HaveTy
HaveTy-++ ps [] us [] ws h k = k
HaveTy-++ ps [] us (v ∷ vs) ws h k = absurd h
HaveTy-++ ps (t ∷ ts) us [] ws h k = absurd h
HaveTy-++ ps (t ∷ ts) us (v ∷ vs) ws h k = (h.0, HaveTy-++ ps ts us vs ws h.1 k)

pub at_typed : (ps : ℕ) (ts : List Ty) (vs : List Val) (i : ℕ) (t : Ty) → HaveTy ps ts vs → at ts i ≡ some t
    → (v : Val) × (at vs i ≡ some v) × HasTy ps t v
unfolding HaveTy at
at_typed ps [] [] i t h e = impossible cc
at_typed ps [] (v ∷ vs) i t h e = absurd h
at_typed ps (s ∷ ts) [] i t h e = absurd h
at_typed ps (s ∷ ts) (v ∷ vs) zero t h e = let p : s ≡ t = cc in (v, refl, subst (λ x. HasTy ps x v) p h.0)
at_typed ps (s ∷ ts) (v ∷ vs) (suc i) t h e = at_typed ps ts vs i t h.1 e

-- ---- the language's numbers stay in their range
held_range : (z : ℤ) → T (in_range (held z))
unfolding held in_range
held_range (pos n) = go (ltb limit n) refl
  where
    go : (b : Bool) → ltb limit n ≡ b → T (leb (nat_abs (cond b top (cond (lt_z (pos n) bottom) bottom (pos n)))) limit)
    go true e = tt
    go false e = le→leb n limit (nltb→le limit n (subst (λ b. T (not b)) (sym e) tt))
held_range (negsuc n) = go (lt_z (negsuc n) bottom) refl
  where
    go : (b : Bool) → ltb (limit - 1) n ≡ b → T (leb (nat_abs (cond b bottom (negsuc n))) limit)
    go true e = tt
    go false e = le→leb (suc n) limit (omega (arith, nltb→le (limit - 1) n (subst (λ b. T (not b)) (sym e) tt)))

quotient_range : (x y : ℤ) → T (in_range x) → T (in_range (quotient x y))
unfolding in_range
quotient_range x y h =
    le→leb (nat_abs (quotient x y)) limit (omega (arith, quotient_size x y, leb→le (nat_abs x) limit h))

-- a number in range stays in range under every operator: "a sum, difference or product beyond an end is held at that
-- end"
pub calculate_range : (o : Arithmetic) (x y : ℤ) → T (in_range x) → T (in_range (calculate o x y))
unfolding calculate
calculate_range plus x y h = held_range (x +ℤ y)
calculate_range minus x y h = held_range (x -ℤ y)
calculate_range times x y h = held_range (x *ℤ y)
calculate_range quot x y h = quotient_range x y h

pub num_of : (ps : ℕ) (u : Val) → HasTy ps number u → (z : ℤ) × (u ≡ num z) × T (in_range z)
unfolding HasTy
num_of ps (num z) h = (z, refl, h)
num_of ps (bool b) h = absurd h
num_of ps (who p) h = absurd h

pub bool_of : (ps : ℕ) (u : Val) → HasTy ps truth u → (b : Bool) × (u ≡ bool b)
unfolding HasTy
bool_of ps (num z) h = absurd h
bool_of ps (bool b) h = (b, refl)
bool_of ps (who p) h = absurd h

pub who_of : (ps : ℕ) (u : Val) → HasTy ps party u → (p : ℕ) × (u ≡ who p) × T (ltb p ps)
unfolding HasTy
who_of ps (num z) h = absurd h
who_of ps (bool b) h = absurd h
who_of ps (who p) h = (p, refl, h)

-- ---- operators, the operator as a parameter
abbrev pub Applied : ℕ → Ty → Option Val → Type 0
Applied ps t o = (w : Val) × (o ≡ some w) × HasTy ps t w

on_nums_typed : (ps : ℕ) (t : Ty) (f : ℤ → ℤ → Val) (u v : Val) → ((x y : ℤ) → T (in_range x) → HasTy ps t (f x y))
    → HasTy ps number u → HasTy ps number v → Applied ps t (on_nums f u v)
unfolding on_nums as_num ◌>>=◌
on_nums_typed ps t f u v g h k = let a = num_of ps u h in let b = num_of ps v k in
    rw (a.1, b.1) (f a.0 b.0, refl, g a.0 b.0 a.2)

on_bools_typed : (ps : ℕ) (t : Ty) (f : Bool → Bool → Val) (u v : Val) → ((x y : Bool) → HasTy ps t (f x y))
    → HasTy ps truth u → HasTy ps truth v → Applied ps t (on_bools f u v)
unfolding on_bools as_bool ◌>>=◌
on_bools_typed ps t f u v g h k = let a = bool_of ps u h in let b = bool_of ps v k in
    rw (a.1, b.1) (f a.0 b.0, refl, g a.0 b.0)

same_val_typed : (ps : ℕ) (s : Ty) (u v : Val) → HasTy ps s u → HasTy ps s v → Applied ps truth (same_val u v)
unfolding same_val HasTy
same_val_typed ps number u v h k = let a = num_of ps u h in let b = num_of ps v k in
    rw (a.1, b.1) (bool (eq_z a.0 b.0), refl, tt)
same_val_typed ps truth u v h k = let a = bool_of ps u h in let b = bool_of ps v k in
    rw (a.1, b.1) (bool (same_bool a.0 b.0), refl, tt)
same_val_typed ps party u v h k = let a = who_of ps u h in let b = who_of ps v k in
    rw (a.1, b.1) (bool (eqb a.0 b.0), refl, tt)

-- operands of the types that an operator wants give a value of its result type; the operator is a parameter
pub apply_typed : (ps : ℕ) (o : Op) (s : Ty) (u v : Val) → HasTy ps s u → HasTy ps (operand o s) v → s ≡ operand o s
    → Applied ps (result o) (apply o u v)
unfolding apply operand result HasTy
apply_typed ps (arithmetic o) s u v h k e = on_nums_typed ps number _ u v (calculate_range o) (rw e at h) k
apply_typed ps conj s u v h k e = on_bools_typed ps truth _ u v (λ x y. tt) (rw e at h) k
apply_typed ps less s u v h k e = on_nums_typed ps truth _ u v (λ x y r. tt) (rw e at h) k
apply_typed ps equal s u v h k e = same_val_typed ps s u v h k

truth_typed : (ps n : ℕ) → T (leb n 1) → Applied ps truth (as_truth n)
unfolding as_truth HasTy
truth_typed ps zero h = (bool false, refl, tt)
truth_typed ps (suc zero) h = (bool true, refl, tt)
truth_typed ps (suc (suc n)) h = absurd (omega (arith, leb→le (suc (suc n)) 1 h))

neg_typed : (ps : ℕ) (v : Val) → HasTy ps truth v → Applied ps truth (as_bool v >>= λ b. some (bool (not b)))
unfolding HasTy as_bool ◌>>=◌
neg_typed ps v h = let a = bool_of ps v h in rw a.1 (bool (not a.0), refl, tt)

-- an option that has a value with a type goes on
then_typed : (ps : ℕ) (s t : Ty) (m : Option Val) (f : Val → Option Val) → Applied ps s m
    → ((v : Val) → HasTy ps s v → Applied ps t (f v)) → Applied ps t (m >>= f)
then_typed ps s t m f a g = let b = g a.0 a.2 in (b.0, some_bind m f a.0 a.1 ∙ b.1, b.2)

retype : (ps : ℕ) (s t : Ty) (m : Option Val) → s ≡ t → Applied ps s m → Applied ps t m
retype ps s t m e a = (a.0, a.1, subst (λ x. HasTy ps x a.0) e a.2)

-- Type soundness: a typed expression, with values of the types in sight, has a value, of its type and in its range.
-- So evaluation is never stuck (CSL Lemma 8).
pub eval_typed : (ps : ℕ) (ts : List Ty) (vs : List Val) (e : Expr) (t : Ty) → HaveTy ps ts vs
    → type_expr ps ts e ≡ some t → Applied ps t (eval vs e)
unfolding eval type_expr HasTy
eval_typed ps ts vs (number_lit z) t h e = from_need (in_range z) (λ _. some number) t e
    (λ b p. retype ps number t _ (some_inj p) (num z, refl, b))
eval_typed ps ts vs (truth_lit n) t h e = from_need (leb n 1) (λ _. some truth) t e
    (λ b p. retype ps truth t _ (some_inj p) (truth_typed ps n b))
eval_typed ps ts vs (party_lit q) t h e = from_need (ltb q ps) (λ _. some party) t e
    (λ b p. retype ps party t _ (some_inj p) (who q, refl, b))
eval_typed ps ts vs (variable i) t h e = at_typed ps ts vs i t h e
eval_typed ps ts vs (negation x) t h e =
    from_bind (type_expr ps ts x) _ t e λ s p q.
    from_need (same_ty s truth) (λ _. some truth) t q λ b r.
    retype ps truth t _ (some_inj r) (then_typed ps truth truth (eval vs x) _
    (retype ps s truth _ (same_ty→eq s truth b) (eval_typed ps ts vs x s h p)) (neg_typed ps))
eval_typed ps ts vs (binary o x y) t h e =
    from_bind (type_expr ps ts x) _ t e λ s p q.
    from_bind (type_expr ps ts y) _ t q λ s' p' q'.
    from_need (same_ty s (operand o s) && same_ty s' (operand o s)) (λ _. some (result o)) t q' λ b r.
    both_true (same_ty s (operand o s)) (same_ty s' (operand o s)) b λ b₁ b₂.
    retype ps (result o) t _ (some_inj r) (then_typed ps s (result o) (eval vs x) _ (eval_typed ps ts vs x s h p)
    (λ u hu. then_typed ps (operand o s) (result o) (eval vs y) _
    (retype ps s' (operand o s) _ (same_ty→eq s' (operand o s) b₂) (eval_typed ps ts vs y s' h p'))
    (λ v hv. apply_typed ps o s u v hu hv (same_ty→eq s (operand o s) b₁))))
eval_typed ps ts vs bad_expr t h e = impossible cc
