-- Lists of members, and their bits `bits_from k i`: bit j for the member i + j, below k.
use mathlib.Core.Bool.{Bool, true, false, ◌&&◌, ◌||◌, or-true, true≢false}
use mathlib.Core.List.{List, [], ◌∷◌}
use mathlib.Core.Path.{◌≡◌, refl, sym, ap, ◌∙◌}
use Prim.Native.Nat.{ℕ, zero, suc, ◌+◌, ◌-◌, ◌*◌, ◌/◌, ◌%◌, ◌^◌, ◌≤◌, ◌<◌}
use native.Mathlib.Nat.{pow-suc}
use native.Mathlib.Omega.{arith}
use lib.Count.{ones, ones_step}
use lib.Dec.{eqb, ltb}
use lib.Pow.{pow_pos}
use borrow.Author.Tests.{eqb-true, eqb-false, lt-ltb, le-ltb, ltb-true, ltb-false}
use Rattle.csl.specs.Lists.{all}
use Rattle.csl.specs.Parties.{member, bit, bits_from, members_from}
use Rattle.laws.proofs.Bools.{by_test}
use Rattle.laws.proofs.PartyBits.{member_self, member_other, members_within, bit_div, bit_mod, bits_same, bits_skip}

tests_same : (a b c d : ℕ) → (a < b → c < d) → (c < d → a < b) → ltb a b ≡ ltb c d
tests_same a b c d f g = by_test (ltb a b)
    (λ t. t ∙ sym (lt-ltb c d (f (ltb-true a b t))))
    (λ t. t ∙ sym (by_test (ltb c d)
    (λ u. let l = g (ltb-true c d u) in let m = ltb-false a b t in absurd (omega arith)) (λ u. u)))

-- ---- members
pub member_tail : (p q : ℕ) (ps : List ℕ) → member p ps ≡ true → member p (q ∷ ps) ≡ true
unfolding member
member_tail p q ps e = rw e (or-true (eqb p q))

-- one that is there already
pub member_again : (p q : ℕ) (ps : List ℕ) → member q ps ≡ true → member p (q ∷ ps) ≡ member p ps
member_again p q ps e = by_test (eqb p q)
    (λ h. let s : p ≡ q = eqb-true p q h in rw s (member_self q ps ∙ sym e))
    (λ h. member_other p q ps (eqb-false p q h))

pub all_each : (t : ℕ → Bool) (ps : List ℕ) → all t ps ≡ true → (p : ℕ) → member p ps ≡ true → t p ≡ true
unfolding all member
all_each t [] e p h = absurd (true≢false (sym h))
all_each t (x ∷ ps) e p h = go (t x) refl (eqb p x) refl e h (λ f. all_each t ps f p)
  where
    go : (a : Bool) → t x ≡ a → (b : Bool) → eqb p x ≡ b → (a && all t ps) ≡ true → (b || member p ps) ≡ true
        → (all t ps ≡ true → member p ps ≡ true → t p ≡ true) → t p ≡ true
    go true ta true tb f g ih = ap t (eqb-true p x tb) ∙ ta
    go true ta false tb f g ih = ih f g
    go false ta b tb f g ih = absurd (true≢false (sym f))

pub each_all : (t : ℕ → Bool) (ps : List ℕ) → ((p : ℕ) → member p ps ≡ true → t p ≡ true) → all t ps ≡ true
unfolding all
each_all t [] h = refl
each_all t (x ∷ ps) h = rw (h x (member_self x ps), each_all t ps (λ p e. h p (member_tail p x ps e)))

-- ---- one digit
bit_only : (a b : Bool) → bit a ≡ bit b → a ≡ b
unfolding bit
bit_only true true e = refl
bit_only true false e = absurd (omega arith)
bit_only false true e = absurd (omega arith)
bit_only false false e = refl

pub ones_bit : (b : Bool) (m : ℕ) → ones (bit b + 2 * m) ≡ bit b + ones m
ones_bit b m = ones_step (bit b + 2 * m) ∙ rw (bit_div b m, bit_mod b m)

-- ---- bits
pub bits_apart : (k i : ℕ) (ps qs : List ℕ) → bits_from k i ps ≡ bits_from k i qs → (j : ℕ) → i ≤ j → j < i + k
    → member j ps ≡ member j qs
unfolding bits_from
bits_apart zero i ps qs e j l u = absurd (omega arith)
bits_apart (suc k) i ps qs e j l u = by_test (eqb j i)
    (λ h. let s : j ≡ i = eqb-true j i h in
    rw s (bit_only (member i ps) (member i qs)
    (sym (bit_mod (member i ps) (bits_from k (suc i) ps)) ∙ ap (λ x. x % 2) e
    ∙ bit_mod (member i qs) (bits_from k (suc i) qs))))
    (λ h. let n : j ≡ i → ⊥ = eqb-false j i h in
    bits_apart k (suc i) ps qs (sym (bit_div (member i ps) (bits_from k (suc i) ps)) ∙ ap (λ x. x / 2) e
    ∙ bit_div (member i qs) (bits_from k (suc i) qs)) j (omega arith) (omega arith))

pub bits_nil : (k i : ℕ) → bits_from k i [] ≡ 0
unfolding bits_from member bit
bits_nil zero i = refl
bits_nil (suc k) i = rw (bits_nil k (suc i))

-- a member that is there already
pub bits_again : (k i p : ℕ) (ps : List ℕ) → member p ps ≡ true → bits_from k i (p ∷ ps) ≡ bits_from k i ps
bits_again k i p ps h = bits_same k i (p ∷ ps) ps (λ j l u. member_again j p ps h)

-- a new member
pub bits_new : (k i p : ℕ) (ps : List ℕ) → i ≤ p → p < i + k → member p ps ≡ false
    → bits_from k i (p ∷ ps) ≡ 2 ^ (p - i) + bits_from k i ps
unfolding bits_from bit
bits_new zero i p ps l u h = absurd (omega arith)
bits_new (suc k) i p ps l u h = by_test (eqb i p)
    (λ e. let s : p ≡ i = sym (eqb-true i p e) in
    let z : i - i ≡ 0 = omega arith in
    let m : member i ps ≡ false = rw s at h in
    rw (s, member_self i ps, bits_skip k (suc i) i ps (λ a b. omega arith), m, z) (omega arith))
    (λ e. let n : i ≡ p → ⊥ = eqb-false i p e in
    let z : p - i ≡ suc (p - suc i) = omega arith in
    rw (member_other i p ps n, bits_new k (suc i) p ps (omega arith) (omega arith) h, z, pow-suc 2 (p - suc i))
    (omega arith))

pub count_new : (k i p : ℕ) (ps : List ℕ) → i ≤ p → p < i + k → member p ps ≡ false
    → ones (bits_from k i (p ∷ ps)) ≡ suc (ones (bits_from k i ps))
unfolding bits_from bit
count_new zero i p ps l u h = absurd (omega arith)
count_new (suc k) i p ps l u h =
    rw (ones_bit (member i (p ∷ ps)) (bits_from k (suc i) (p ∷ ps)), ones_bit (member i ps) (bits_from k (suc i) ps))
    (by_test (eqb i p)
    (λ e. let s : p ≡ i = sym (eqb-true i p e) in
    let m : member i ps ≡ false = rw s at h in
    rw (s, member_self i ps, bits_skip k (suc i) i ps (λ a b. omega arith), m) (omega arith))
    (λ e. let n : i ≡ p → ⊥ = eqb-false i p e in
    rw (member_other i p ps n, count_new k (suc i) p ps (omega arith) (omega arith) h) (omega arith)))

-- ---- the members of a number, d of them from j on, are none of those from i on, below i + k
pub members_elsewhere : (k i d j n : ℕ) → ((p : ℕ) → j ≤ p → p < j + d → i ≤ p → p < i + k → ⊥)
    → (p : ℕ) → i ≤ p → p < i + k → member p (members_from d j n) ≡ false
members_elsewhere k i d j n apart p l u = by_test (member p (members_from d j n))
    (λ e. let r = members_within d j n p e in absurd (apart p r.0 r.1 l u))
    (λ e. e)

-- ---- the members of a number lie below j where it has no bit from there on
pub members_below : (k i j n : ℕ) → n < 2 ^ k → all (λ p. ltb p j) (members_from k i n) ≡ ltb n (2 ^ (j - i))
unfolding members_from all
members_below zero i j n h = sym (lt-ltb n (2 ^ (j - i)) (omega (arith, pow_pos (j - i))))
members_below (suc k) i j n h = go (eqb (n % 2) 1) refl (members_below k (suc i) j (n / 2) (omega (arith, pow-suc 2 k)))
  where
    rest : List ℕ
    rest = members_from k (suc i) (n / 2)

    inside : i < j → ltb (n / 2) (2 ^ (j - suc i)) ≡ ltb n (2 ^ (j - i))
    inside l = let z : j - i ≡ suc (j - suc i) = omega arith in
        rw (z, pow-suc 2 (j - suc i)) (tests_same (n / 2) (2 ^ (j - suc i)) n (2 ^ (j - suc i) * 2) (λ a. omega arith)
        (λ a. omega arith))

    outside : j ≤ i → n % 2 ≡ 0 → ltb (n / 2) (2 ^ (j - suc i)) ≡ ltb n (2 ^ (j - i))
    outside l e = let z : j - i ≡ 0 = omega arith in let y : j - suc i ≡ 0 = omega arith in
        rw (z, y) (tests_same (n / 2) 1 n 1 (λ a. omega arith) (λ a. omega arith))

    go : (b : Bool) → eqb (n % 2) 1 ≡ b → all (λ p. ltb p j) rest ≡ ltb (n / 2) (2 ^ (j - suc i))
        → all (λ p. ltb p j) (elim b [ true ↦ i ∷ rest | false ↦ rest ]) ≡ ltb n (2 ^ (j - i))
    go true e ih = by_test (ltb i j)
        (λ t. rw (t, ih) (inside (ltb-true i j t)))
        (λ t. let l = ltb-false i j t in let z : j - i ≡ 0 = omega arith in let r = eqb-true (n % 2) 1 e in
        rw (t, z) (sym (le-ltb n 1 (omega arith))))
    go false e ih = by_test (ltb i j)
        (λ t. ih ∙ inside (ltb-true i j t))
        (λ t. let r = eqb-false (n % 2) 1 e in ih ∙ outside (ltb-false i j t) (omega arith))
