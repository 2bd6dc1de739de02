-- Members of a list of parties, and their bits `bits_from k i`: bit j for the member i + j, below k.
use mathlib.Core.Bool.{Bool, true, false, ◌||◌, or_assoc, true≢false}
use mathlib.Core.List.{List, [], ◌∷◌, ◌++◌}
use mathlib.Core.Path.{◌≡◌, refl, sym, ◌∙◌}
use Prim.Native.Nat.{ℕ, zero, suc, ◌+◌, ◌*◌, ◌/◌, ◌%◌, ◌^◌, ◌≤◌, ◌<◌, max}
use native.Mathlib.Nat.{pow-suc}
use native.Mathlib.Omega.{arith}
use lib.Bits.{bit_or, or_step}
use lib.Dec.{eqb}
use borrow.Author.Tests.{eq-eqb, ne_eqb, eqb-true, eqb-false}
use Rattle.csl.specs.Parties.{member, bit, bits_from, members_from}
use Rattle.laws.proofs.Bools.{by_test}

-- ---- members
pub member_self : (p : ℕ) (ps : List ℕ) → member p (p ∷ ps) ≡ true
unfolding member
member_self p ps = rw (eq-eqb p p refl)

pub member_other : (p q : ℕ) (ps : List ℕ) → (p ≡ q → ⊥) → member p (q ∷ ps) ≡ member p ps
unfolding member
member_other p q ps n = rw (ne_eqb p q n)

pub member_append : (p : ℕ) (ps qs : List ℕ) → member p (ps ++ qs) ≡ (member p ps || member p qs)
unfolding member
member_append p [] qs = refl
member_append p (x ∷ ps) qs = rw (member_append p ps qs) (sym (or_assoc (eqb p x) (member p ps) (member p qs)))

-- ---- one digit
pub bit_div : (b : Bool) (m : ℕ) → (bit b + 2 * m) / 2 ≡ m
unfolding bit
bit_div true m = omega arith
bit_div false m = omega arith

pub bit_mod : (b : Bool) (m : ℕ) → (bit b + 2 * m) % 2 ≡ bit b
unfolding bit
bit_mod true m = omega arith
bit_mod false m = omega arith

bit_max : (a b : Bool) → max (bit a) (bit b) ≡ bit (a || b)
unfolding bit
bit_max true true = refl
bit_max true false = refl
bit_max false true = refl
bit_max false false = refl

or_of : (x y m n c d : ℕ) → x / 2 ≡ m → y / 2 ≡ n → x % 2 ≡ c → y % 2 ≡ d → bit_or x y ≡ bit_or m n * 2 + max c d
or_of x y m n c d e f g h = rw (← e, ← f, ← g, ← h) (or_step x y)

pub or_bit : (a b : Bool) (m n : ℕ) → bit_or (bit a + 2 * m) (bit b + 2 * n) ≡ bit (a || b) + 2 * bit_or m n
or_bit a b m n = or_of (bit a + 2 * m) (bit b + 2 * n) m n (bit a) (bit b) (bit_div a m) (bit_div b n) (bit_mod a m)
    (bit_mod b n) ∙ rw (bit_max a b) (omega arith)

-- ---- bits
pub bits_lt : (k i : ℕ) (ps : List ℕ) → bits_from k i ps < 2 ^ k
unfolding bits_from bit
bits_lt zero i ps = omega arith
bits_lt (suc k) i ps = go (member i ps) (bits_lt k (suc i) ps)
  where
    go : (b : Bool) → bits_from k (suc i) ps < 2 ^ k → bit b + 2 * bits_from k (suc i) ps < 2 ^ suc k
    go true h = rw (pow-suc 2 k) (omega arith)
    go false h = rw (pow-suc 2 k) (omega arith)

pub bits_same : (k i : ℕ) (ps qs : List ℕ) → ((j : ℕ) → i ≤ j → j < i + k → member j ps ≡ member j qs)
    → bits_from k i ps ≡ bits_from k i qs
unfolding bits_from
bits_same zero i ps qs h = refl
bits_same (suc k) i ps qs h = rw (
  h i (omega arith) (omega arith),
  bits_same k (suc i) ps qs (λ j l u. h j (omega arith) (omega arith)),
)

pub bits_append : (k i : ℕ) (ps qs : List ℕ) → bits_from k i (ps ++ qs) ≡ bit_or (bits_from k i ps) (bits_from k i qs)
unfolding bits_from
bits_append zero i ps qs = refl
bits_append (suc k) i ps qs = rw (member_append i ps qs, bits_append k (suc i) ps qs)
    (sym (or_bit (member i ps) (member i qs) (bits_from k (suc i) ps) (bits_from k (suc i) qs)))

-- a member that has no bit here
pub bits_skip : (k i p : ℕ) (ps : List ℕ) → (i ≤ p → p < i + k → ⊥) → bits_from k i (p ∷ ps) ≡ bits_from k i ps
bits_skip k i p ps n = bits_same k i (p ∷ ps) ps (λ j l u. member_other j p ps (λ e. n (omega arith) (omega arith)))

-- ---- the members of a number
pub members_within : (k i n p : ℕ) → member p (members_from k i n) ≡ true → (i ≤ p) × (p < i + k)
unfolding members_from member
members_within zero i n p h = absurd (true≢false (sym h))
members_within (suc k) i n p h = go (eqb (n % 2) 1) h (members_within k (suc i) (n / 2) p)
  where
    rest : List ℕ
    rest = members_from k (suc i) (n / 2)

    go : (b : Bool) → member p (elim b [ true ↦ i ∷ rest | false ↦ rest ]) ≡ true
        → (member p rest ≡ true → (suc i ≤ p) × (p < suc i + k)) → (i ≤ p) × (p < i + suc k)
    go true e ih = by_test (eqb p i)
        (λ s. let q : p ≡ i = eqb-true p i s in (omega arith, omega arith))
        (λ s. let r = ih (sym (member_other p i rest (eqb-false p i s)) ∙ e) in (omega arith, omega arith))
    go false e ih = let r = ih e in (omega arith, omega arith)

not_member : (k i n : ℕ) → member i (members_from k (suc i) n) ≡ false
not_member k i n = by_test (member i (members_from k (suc i) n))
    (λ e. let r = members_within k (suc i) n i e in absurd (omega arith)) (λ e. e)

-- a number below 2^k is the bits of its members
pub members_bits : (k i n : ℕ) → n < 2 ^ k → bits_from k i (members_from k i n) ≡ n
unfolding bits_from members_from bit
members_bits zero i n h = omega arith
members_bits (suc k) i n h = go (eqb (n % 2) 1) refl (members_bits k (suc i) (n / 2) (omega (arith, pow-suc 2 k)))
  where
    rest : List ℕ
    rest = members_from k (suc i) (n / 2)

    go : (b : Bool) → eqb (n % 2) 1 ≡ b → bits_from k (suc i) rest ≡ n / 2
        → bits_from (suc k) i (elim b [ true ↦ i ∷ rest | false ↦ rest ]) ≡ n
    go true e ih = let r = eqb-true (n % 2) 1 e in
        rw (member_self i rest, bits_skip k (suc i) i rest (λ a b. omega arith), ih) (omega arith)
    go false e ih = let r = eqb-false (n % 2) 1 e in rw (not_member k i (n / 2), ih) (omega arith)
