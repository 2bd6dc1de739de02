-- Members of party sets, and the parties that blame bytes stand for.
-- ---- members
use mathlib.Core.Bool.{Bool, cond, false, true}
use mathlib.Core.List.{◌++◌, List, [], ◌∷◌}
use mathlib.Core.Logic.{inl, inr, ◌⊎◌}
use mathlib.Core.Path.{ap, refl, subst, sym, ◌∙◌, ◌≡◌}
use Prim.Native.Nat.{suc, ℕ, ◌≤◌}
use native.Mathlib.Omega.{arith}
use lib.Dec.{T, eqb, eqb_refl, eqb→eq, leb, leb→le, le→leb}
use Rattle.csl.specs.Lists.{all}
use Rattle.csl.specs.Parties.{member, member_count, subset}
use Rattle.csl.specs.Syntax.{Join, and, or}
use Rattle.csl.specs.Typing.{join_ok}
use Rattle.csl.specs.Table.{stand_for, stands_for}
use Rattle.laws.proofs.Bools.{T-both, T-left, T-or, T-right, or_left, or_right}

unfoldable pub In : ℕ → List ℕ → Type 0
In x [] = ⊥
In x (y ∷ ys) = (x ≡ y) ⊎ In x ys

unfoldable pub Sub : List ℕ → List ℕ → Type 0
Sub xs ys = (x : ℕ) → In x xs → In x ys

pub in_left : (x : ℕ) (xs ys : List ℕ) → In x xs → In x (xs ++ ys)
unfolding In
in_left x [] ys h = absurd h
in_left x (y ∷ xs) ys (inl e) = inl e
in_left x (y ∷ xs) ys (inr h) = inr (in_left x xs ys h)

pub in_right : (x : ℕ) (xs ys : List ℕ) → In x ys → In x (xs ++ ys)
unfolding In
in_right x [] ys h = h
in_right x (y ∷ xs) ys h = inr (in_right x xs ys h)

pub in_cases : {C : Type 0} (x : ℕ) (xs ys : List ℕ) → In x (xs ++ ys) → (In x xs → C) → (In x ys → C) → C
unfolding In
in_cases x [] ys h f g = g h
in_cases x (y ∷ xs) ys (inl e) f g = f (inl e)
in_cases x (y ∷ xs) ys (inr h) f g = in_cases x xs ys h (λ k. f (inr k)) g

pub sub_refl : (xs : List ℕ) → Sub xs xs
unfolding Sub
sub_refl xs x h = h

pub sub_trans : (xs ys zs : List ℕ) → Sub xs ys → Sub ys zs → Sub xs zs
unfolding Sub
sub_trans xs ys zs f g x h = g x (f x h)

pub sub_both : (xs ys us vs : List ℕ) → Sub xs us → Sub ys vs → Sub (xs ++ ys) (us ++ vs)
unfolding Sub
sub_both xs ys us vs f g x h = in_cases x xs ys h (λ k. in_left x us vs (f x k)) (λ k. in_right x us vs (g x k))

pub sub_join : (xs ys us : List ℕ) → Sub xs us → Sub ys us → Sub (xs ++ ys) us
unfolding Sub
sub_join xs ys us f g x h = in_cases x xs ys h (f x) (g x)

pub all_in : (p : ℕ → Bool) (xs : List ℕ) → T (all p xs) → (x : ℕ) → In x xs → T (p x)
unfolding In all
all_in p [] t x h = absurd h
all_in p (y ∷ ys) t x (inl e) = subst (λ z. T (p z)) (sym e) (T-left (p y) _ t)
all_in p (y ∷ ys) t x (inr h) = all_in p ys (T-right (p y) _ t) x h

pub in_all : (p : ℕ → Bool) (xs : List ℕ) → ((x : ℕ) → In x xs → T (p x)) → T (all p xs)
unfolding In all
in_all p [] h = tt
in_all p (y ∷ ys) h = T-both (p y) _ (h y (inl refl)) (in_all p ys (λ x k. h x (inr k)))

pub member→in : (x : ℕ) (xs : List ℕ) → T (member x xs) → In x xs
unfolding In member
member→in x [] t = t
member→in x (y ∷ ys) t = T-or (eqb x y) (member x ys) t (λ k. inl (eqb→eq x y k)) (λ k. inr (member→in x ys k))

pub in→member : (x : ℕ) (xs : List ℕ) → In x xs → T (member x xs)
unfolding In member
in→member x [] h = h
in→member x (y ∷ ys) (inl e) = or_left (eqb x y) _ (subst (λ z. T (eqb x z)) e (eqb_refl x))
in→member x (y ∷ ys) (inr h) = or_right (eqb x y) _ (in→member x ys h)

pub subset→sub : (xs ys : List ℕ) → T (subset xs ys) → Sub xs ys
unfolding Sub subset
subset→sub xs ys t x h = member→in x ys (all_in (λ z. member z ys) xs t x h)

pub sub→subset : (xs ys : List ℕ) → Sub xs ys → T (subset xs ys)
unfolding Sub subset
sub→subset xs ys h = in_all (λ z. member z ys) xs (λ x k. in→member x ys (h x k))

-- at most one member
unfoldable pub One : List ℕ → Type 0
One xs = (x y : ℕ) → In x xs → In y xs → x ≡ y

-- "at most one member", counted
count_some : (x : ℕ) (xs : List ℕ) → In x xs → 1 ≤ member_count xs
unfolding In member_count
count_some x [] h = absurd h
count_some x (y ∷ ys) h = go (member y ys) refl (λ i. count_some y ys i)
  where
    go : (b : Bool) → member y ys ≡ b → (In y ys → 1 ≤ member_count ys)
        → 1 ≤ cond b (member_count ys) (suc (member_count ys))
    go true e ih = ih (member→in y ys (subst T (sym e) tt))
    go false e ih = omega arith

pub few→one : (xs : List ℕ) → T (leb (member_count xs) 1) → One xs
unfolding One In member_count
few→one [] t = λ x y h k. absurd h
few→one (z ∷ zs) t = go (member z zs) refl (leb→le _ 1 t) (λ u. few→one zs (le→leb _ 1 u))
  where
    stays : (x : ℕ) → member z zs ≡ true → In x (z ∷ zs) → In x zs
    stays x e (inl p) = subst (λ w. In w zs) (sym p) (member→in z zs (subst T (sym e) tt))
    stays x e (inr i) = i

    only : (x : ℕ) → member_count zs ≤ 0 → In x (z ∷ zs) → x ≡ z
    only x l (inl p) = p
    only x l (inr i) = absurd (omega (arith, count_some x zs i))

    go : (b : Bool) → member z zs ≡ b → cond b (member_count zs) (suc (member_count zs)) ≤ 1
        → (member_count zs ≤ 1 → One zs) → One (z ∷ zs)
    go true e l ih x y h k = ih l x y (stays x e h) (stays y e k)
    go false e l ih x y h k = only x (omega arith) h ∙ sym (only y (omega arith) k)

pub one→few : (xs : List ℕ) → One xs → T (leb (member_count xs) 1)
unfolding One In member_count
one→few [] h = tt
one→few (z ∷ zs) h = le→leb _ 1 (go (member z zs) refl (leb→le _ 1 (one→few zs (λ x y i j. h x y (inr i) (inr j)))))
  where
    empty : (ws : List ℕ) → ((x : ℕ) → In x ws → x ≡ z) → member z ws ≡ false → member_count ws ≤ 0
    empty [] f e = omega arith
    empty (w ∷ ws) f e = absurd (subst T e (in→member z (w ∷ ws) (inl (sym (f w (inl refl))))))

    go : (b : Bool) → member z zs ≡ b → member_count zs ≤ 1 → cond b (member_count zs) (suc (member_count zs)) ≤ 1
    go true e l = l
    go false e l = omega (arith, empty zs (λ x i. h x z (inr i) (inl refl)) e)

pub join_ok_sub : (j : Join) (ps qs : List ℕ) → Sub ps qs → T (join_ok j qs) → T (join_ok j ps)
unfolding Sub One join_ok
join_ok_sub and ps qs h t = tt
join_ok_sub or ps qs h t = one→few ps (λ x y k l. few→one qs t x y (h x k) (h y l))

-- ---- the parties that blame bytes stand for
pub stand_in : (params : List ℕ) (bs : List ℕ) (x : ℕ) → In x (stand_for params bs) → (b : ℕ) × In b bs
    × (x ≡ stands_for params b)
unfolding In stand_for
stand_in params [] x h = absurd h
stand_in params (b ∷ bs) x (inl e) = (b, inl refl, e)
stand_in params (b ∷ bs) x (inr h) = let r = stand_in params bs x h in (r.0, inr r.1, r.2)

pub in_stand : (params : List ℕ) (bs : List ℕ) (b : ℕ) → In b bs → In (stands_for params b) (stand_for params bs)
unfolding In stand_for
in_stand params [] b h = absurd h
in_stand params (c ∷ bs) b (inl e) = inl (ap (stands_for params) e)
in_stand params (c ∷ bs) b (inr h) = inr (in_stand params bs b h)

pub stand_++ : (params : List ℕ) (bs cs : List ℕ) → stand_for params (bs ++ cs) ≡ stand_for params bs
    ++ stand_for params cs
unfolding stand_for
stand_++ params [] cs = refl
stand_++ params (b ∷ bs) cs = ap (λ l. stands_for params b ∷ l) (stand_++ params bs cs)

pub stand_sub : (params : List ℕ) (bs cs : List ℕ) → Sub bs cs → Sub (stand_for params bs) (stand_for params cs)
unfolding Sub
stand_sub params bs cs h x k = let r = stand_in params bs x k in
    subst (λ z. In z (stand_for params cs)) (sym r.2) (in_stand params cs r.0 (h r.0 r.1))

pub stand_one : (params : List ℕ) (bs : List ℕ) → One bs → One (stand_for params bs)
unfolding One
stand_one params bs h x y k l = let a = stand_in params bs x k in let b = stand_in params bs y l in
    a.2 ∙ ap (stands_for params) (h a.0 b.0 a.1 b.1) ∙ sym b.2

pub stand_join_ok : (j : Join) (params : List ℕ) (bs : List ℕ) → T (join_ok j bs) → T (join_ok j (stand_for params bs))
unfolding join_ok
stand_join_ok and params bs t = tt
stand_join_ok or params bs t = one→few (stand_for params bs) (stand_one params bs (few→one bs t))
