-- Party sets as bits, and back.
use mathlib.Core.Bool.{Bool, false, true}
use mathlib.Core.List.{List, ◌∷◌}
use mathlib.Core.Logic.{inl, inr}
use mathlib.Core.Path.{ap₂, refl, subst, sym, ◌≡◌}
use Prim.Native.Nat.{◌%◌, ◌*◌, ◌+◌, ◌/◌, ◌<◌, ◌^◌, suc, zero, ℕ, ◌≤◌}
use native.Mathlib.Decide.{dec_lt}
use native.Mathlib.Omega.{arith}
use lib.Dec.{T, eqb}
use Rattle.csl.specs.Parties.{bit, bits_from, bits_of, member, members, members_from}
use Rattle.laws.proofs.PartyBits.{bit_div, bit_mod, bits_lt, members_bits}
use Rattle.soundness.proofs.Members.{In, Sub, in→member, member→in}

members_at : (n r q k i : ℕ) → n % 2 ≡ r → n / 2 ≡ q
    → members_from (suc k) i n ≡ (elim (eqb r 1)
    [ true ↦ i ∷ members_from k (suc i) q | false ↦ members_from k (suc i) q ])
unfolding members_from
members_at n r q k i e f = subst (λ x. members_from (suc k) i
    n ≡ (elim (eqb x 1) [ true ↦ i ∷ members_from k (suc i) q | false ↦ members_from k (suc i) q ])) e
    (subst (λ y. members_from (suc k) i n ≡ (elim (eqb (n % 2) 1)
    [ true ↦ i ∷ members_from k (suc i) y | false ↦ members_from k (suc i) y ])) f refl)

pub members_step : (b : Bool) (m k i : ℕ)
    → members_from (suc k) i (bit b + 2 * m) ≡
    (elim b [ true ↦ i ∷ members_from k (suc i) m | false ↦ members_from k (suc i) m ])
unfolding bit
members_step true m k i = members_at (1 + 2 * m) 1 m k i (bit_mod true m) (bit_div true m)
members_step false m k i = members_at (0 + 2 * m) 0 m k i (bit_mod false m) (bit_div false m)

pub members_in : (k i : ℕ) (ps : List ℕ) (x : ℕ) → In x (members_from k i (bits_from k i ps)) → In x ps
unfolding bits_from In members_from
members_in zero i ps x h = absurd h
members_in (suc k) i ps x h = go (member i ps) refl
    (subst (λ l. In x l) (members_step (member i ps) (bits_from k (suc i) ps) k i) h) (members_in k (suc i) ps x)
  where
    go : (b : Bool) → member i ps ≡ b → In x
        (elim b [
          | true ↦ i ∷ members_from k (suc i) (bits_from k (suc i) ps)
          | false ↦ members_from k (suc i) (bits_from k (suc i) ps)
        ])
        → (In x (members_from k (suc i) (bits_from k (suc i) ps)) → In x ps) → In x ps
    go true e (inl q) ih = subst (λ z. In z ps) (sym q) (member→in i ps (subst T (sym e) tt))
    go true e (inr q) ih = ih q
    go false e q ih = ih q

pub bits_pos : (k i : ℕ) (ps : List ℕ) (p : ℕ) → In p ps → i ≤ p → p < i + k → 0 < bits_from k i ps
unfolding bits_from bit
bits_pos zero i ps p h lo hi = absurd (omega arith)
bits_pos (suc k) i ps p h lo hi = go (member i ps) refl (λ q. bits_pos k (suc i) ps p h q (omega arith))
  where
    go : (b : Bool) → member i ps ≡ b → (suc i ≤ p → 0 < bits_from k (suc i) ps)
        → 0 < bit b + 2 * bits_from k (suc i) ps
    go true e ih = omega arith
    go false e ih = let r = ih (differs (dec_lt i p)) in omega arith
      where
        differs : Dec (i < p) → suc i ≤ p
        differs (yes q) = q
        differs (no q) = let e₂ : i ≡ p = omega arith in
            absurd (subst T e (subst (λ z. T (member z ps)) (sym e₂) (in→member p ps h)))

-- a number below 2^k is the bits of its members
pub bits_members : (n : ℕ) → n < 2 ^ 16 → bits_of (members n) ≡ n
unfolding bits_of members
bits_members n h = members_bits 16 0 n h

-- the members of a set of bits have those bits
pub bits_back : (k i : ℕ) (ps : List ℕ) → bits_from k i (members_from k i (bits_from k i ps)) ≡ bits_from k i ps
bits_back k i ps = members_bits k i (bits_from k i ps) (bits_lt k i ps)

-- a party is a member of what its set's bits stand for
pub in_members : (k i : ℕ) (ps : List ℕ) (x : ℕ) → In x ps → i ≤ x → x < i + k
    → In x (members_from k i (bits_from k i ps))
unfolding bits_from In
in_members zero i ps x h lo hi = absurd (omega arith)
in_members (suc k) i ps x h lo hi = subst (λ l. In x l) (sym (members_step (member i ps) (bits_from k (suc i) ps) k i))
    (go (member i ps) refl (dec_lt i x) (λ q. in_members k (suc i) ps x h q (omega arith)))
  where
    go : (b : Bool) → member i ps ≡ b → Dec (i < x)
        → (suc i ≤ x → In x (members_from k (suc i) (bits_from k (suc i) ps)))
        → In x (elim b [
          | true ↦ i ∷ members_from k (suc i) (bits_from k (suc i) ps)
          | false ↦ members_from k (suc i) (bits_from k (suc i) ps)
        ])
    go true e (yes q) ih = inr (ih q)
    go true e (no q) ih = inl (omega arith)
    go false e (yes q) ih = ih q
    go false e (no q) ih = let s : i ≡ x = omega arith in
        absurd (subst T e (subst (λ z. T (member z ps)) (sym s) (in→member x ps h)))

-- the same set has the same bits
pub same_bits : (k i : ℕ) (ps qs : List ℕ) → Sub ps qs → Sub qs ps → bits_from k i ps ≡ bits_from k i qs
unfolding bits_from Sub
same_bits zero i ps qs h g = refl
same_bits (suc k) i ps qs h g = ap₂ (λ b n. bit b + 2 * n) (go (member i ps) (member i qs) refl refl)
    (same_bits k (suc i) ps qs h g)
  where
    go : (b c : Bool) → member i ps ≡ b → member i qs ≡ c → b ≡ c
    go true true p q = refl
    go false false p q = refl
    go true false p q = absurd (subst T q (in→member i qs (h i (member→in i ps (subst T (sym p) tt)))))
    go false true p q = absurd (subst T p (in→member i ps (g i (member→in i qs (subst T (sym q) tt)))))
