-- Laws of party sets by bit.
use mathlib.Core.Bool.{Bool, true, false, cond, ◌&&◌, ◌||◌, true≢false}
use mathlib.Core.List.{List, [], ◌∷◌, ◌++◌}
use mathlib.Core.Logic.{inl, inr}
use mathlib.Core.Path.{◌≡◌, refl, sym, ap, ◌∙◌}
use Prim.Native.Nat.{ℕ, suc, ◌+◌, ◌-◌, ◌*◌, ◌%◌, ◌^◌, ◌≤◌, ◌<◌}
use native.Mathlib.Omega.{arith}
use lib.Bits.{bit_or, or_block}
use lib.Count.{ones, ones_cat}
use lib.Dec.{eqb, leb, ltb}
use lib.Pow.{pow-add}
use borrow.Author.Tests.{eq-eqb, ne_eqb, lt-ltb, le-ltb, leb-true, eqb-true, ltb-true, ltb-false}
use Rattle.csl.specs.Lists.{all}
use Rattle.csl.specs.Parties.{member, subset, member_count, bits_from, bits_of, members_from, members}
use Rattle.csl.specs.Typing.{Names, blame_ok, is_constant}
use Rattle.std.proofs.lemmas.Bool.Decides.{nat_tests}
use Rattle.std.specs.Prelude.{Some, None}
use Rattle.std.specs.Ordering.{partial_le, partial_lt, as_partial_cmp, nat_cmp}
use Rattle.laws.proofs.Bools.{by_test, and_left, and_right}
use Rattle.laws.proofs.PartyBits.{member_self, member_append, bits_lt, bits_same, bits_append, bits_skip}
use Rattle.laws.proofs.PartyBits.{members_within, members_bits}
use Rattle.parties.specs.Masks.{mask_of, mask_end, HasBit, ValidMembers, may_blame}
use Rattle.parties.proofs.Members.{member_tail, all_each, each_all, bits_apart, bits_nil, bits_again, bits_new}
use Rattle.parties.proofs.Members.{count_new, members_elsewhere, members_below}

-- ---- valid members
pub valid_nil : ValidMembers []
unfolding member
valid_nil = record { each = λ p e. absurd (true≢false (sym e)) }

pub valid_append : {ps qs : List ℕ} → ValidMembers ps → ValidMembers qs → ValidMembers (ps ++ qs)
valid_append {ps} {qs} v w = record { each = λ p e. go p (member p ps) refl (sym (member_append p ps qs) ∙ e) }
  where
    go : (p : ℕ) (b : Bool) → member p ps ≡ b → (b || member p qs) ≡ true → HasBit p
    go p true h e = v.each p h
    go p false h e = w.each p e

pub valid_head : {p : ℕ} {ps : List ℕ} → ValidMembers (p ∷ ps) → HasBit p
valid_head {p} {ps} v = v.each p (member_self p ps)

pub valid_tail : {p : ℕ} {ps : List ℕ} → ValidMembers (p ∷ ps) → ValidMembers ps
valid_tail {p} {ps} v = record { each = λ q e. v.each q (member_tail q p ps e) }

-- what may be blamed is valid
may_valid : (parties params b : ℕ) → parties ≤ 16 → params ≤ 4 → may_blame parties params b ≡ true → HasBit b
may_valid parties params b l m e = go (ltb b parties) refl (leb 128 b) refl e
  where
    go : (s : Bool) → ltb b parties ≡ s → (t : Bool) → leb 128 b ≡ t → (s || (t && ltb b (128 + params))) ≡ true
        → HasBit b
    go true h t k f = let r = ltb-true b parties h in inl (omega arith)
    go false h true k f = let r = leb-true 128 b k in let u = ltb-true b (128 + params) f in
        inr (omega arith, omega arith)
    go false h false k f = absurd (true≢false (sym f))

pub valid_blamed : (n : Names) (bs : List ℕ) → n.parties ≤ 16 → n.params ≤ 4 → all (blame_ok n) bs ≡ true
    → ValidMembers bs
unfolding blame_ok
valid_blamed n bs l m e = record {
  each = λ b h. may_valid n.parties n.params b l m
      (all_each (blame_ok n) bs e b h);
}

pub valid_cons : (n : Names) (b : ℕ) {ps : List ℕ} → n.parties ≤ 16 → n.params ≤ 4 → blame_ok n b ≡ true
    → ValidMembers ps → ValidMembers (b ∷ ps)
unfolding blame_ok member
valid_cons n b {ps} l m e v = record { each = λ p h. go p (eqb p b) refl h }
  where
    go : (p : ℕ) (s : Bool) → eqb p b ≡ s → (s || member p ps) ≡ true → HasBit p
    go p true h f = may_valid n.parties n.params p l m (ap (blame_ok n) (eqb-true p b h) ∙ e)
    go p false h f = v.each p f

pub valid_members : (n : ℕ) → ValidMembers (members n)
unfolding members
valid_members n = record { each = λ p e. let r = members_within 16 0 n p e in inl (omega arith) }

-- ---- masks of lists
pub mask_nil : mask_of [] ≡ 0
unfolding mask_of bits_of
mask_nil = rw (bits_nil 16 0, bits_nil 4 128)

pub mask_lt : (ps : List ℕ) → mask_of ps < mask_end
unfolding mask_of bits_of
mask_lt ps = omega (arith, bits_lt 16 0 ps, bits_lt 4 128 ps)

swap : (ps : List ℕ) → mask_of ps ≡ bits_from 4 128 ps * 2 ^ 16 + bits_of ps
unfolding mask_of
swap ps = omega arith

pub mask_append : (ps qs : List ℕ) → mask_of (ps ++ qs) ≡ bit_or (mask_of ps) (mask_of qs)
unfolding bits_of
mask_append ps qs =
    rw (swap (ps ++ qs), bits_append 16 0 ps qs, bits_append 4 128 ps qs, swap ps, swap qs)
    (sym (or_block 16 (bits_from 4 128 ps) (bits_from 4 128 qs) (bits_from 16 0 ps) (bits_from 16 0 qs)
    (bits_lt 16 0 ps)
    (bits_lt 16 0 qs)))

pub union_is : {a b : ℕ} (ps qs : List ℕ) → a ≡ mask_of ps → b ≡ mask_of qs → bit_or a b ≡ mask_of (ps ++ qs)
union_is ps qs e f = rw (e, f) (sym (mask_append ps qs))

pub mask_constants : (ps : List ℕ) → mask_of ps % 65_536 ≡ bits_of ps
unfolding mask_of bits_of
mask_constants ps = omega (arith, bits_lt 16 0 ps)

mask_again : (p : ℕ) (ps : List ℕ) → member p ps ≡ true → mask_of (p ∷ ps) ≡ mask_of ps
unfolding mask_of bits_of
mask_again p ps e = rw (bits_again 16 0 p ps e, bits_again 4 128 p ps e)

-- the number of one bits is the number of members
mask_ones : (ps : List ℕ) → ones (mask_of ps) ≡ ones (bits_from 4 128 ps) + ones (bits_of ps)
unfolding bits_of
mask_ones ps = ap ones (swap ps) ∙ ones_cat 16 (bits_from 4 128 ps) (bits_from 16 0 ps) (bits_lt 16 0 ps)

pub mask_count : (ps : List ℕ) → ValidMembers ps → ones (mask_of ps) ≡ member_count ps
unfolding member_count bits_of ones
mask_count [] v = rw mask_nil
mask_count (p ∷ ps) v = by_test (member p ps)
    (λ e. let m : mask_of (p ∷ ps) ≡ mask_of ps = mask_again p ps e in rw (e, m) (mask_count ps (valid_tail v)))
    (λ e. rw (e, mask_ones (p ∷ ps), ← mask_count ps (valid_tail v), mask_ones ps) (new e (valid_head v)))
  where
    new : member p ps ≡ false → HasBit p → ones (bits_from 4 128 (p ∷ ps)) + ones (bits_from 16 0 (p ∷ ps)) ≡ suc
        (ones (bits_from 4 128 ps) + ones (bits_from 16 0 ps))
    new e (inl l) = rw (bits_skip 4 128 p ps (λ a b. omega arith), count_new 16 0 p ps (omega arith) (omega arith) e)
        (omega arith)
    new e (inr l) = rw (bits_skip 16 0 p ps (λ a b. omega arith), count_new 4 128 p ps (omega arith) (omega arith) e)
        (omega arith)

-- ---- within
pub bits_within : (t : ℕ → Bool) (ps qs : List ℕ) → ((p : ℕ) → member p ps ≡ true → p < 16 → t p ≡ member p qs)
    → ((p : ℕ) → member p ps ≡ true → 16 ≤ p → t p ≡ true) → eqb (bit_or (bits_of ps) (bits_of qs)) (bits_of qs) ≡ all
    t ps
unfolding bits_of
bits_within t ps qs f g = rw (← bits_append 16 0 ps qs) (by_test (all t ps)
    (λ e. rw e (eq-eqb (bits_from 16 0 (ps ++ qs)) (bits_from 16 0 qs)
    (bits_same 16 0 (ps ++ qs) qs (λ j l u. member_append j ps qs ∙ held e j (omega arith) (member j ps) refl))))
    (λ e. rw e (ne_eqb (bits_from 16 0 (ps ++ qs)) (bits_from 16 0 qs)
    (λ h. true≢false (sym (each_all t ps (λ p m. passes h p m (ltb p 16) refl)) ∙ e)))))
  where
    held : all t ps ≡ true → (j : ℕ) → j < 16 → (b : Bool) → member j ps ≡ b → (b || member j qs) ≡ member j qs
    held e j u true m = sym (sym (f j m u) ∙ all_each t ps e j m)
    held e j u false m = refl

    passes : bits_from 16 0 (ps ++ qs) ≡ bits_from 16 0 qs → (p : ℕ) → member p ps ≡ true → (b : Bool) → ltb p 16 ≡ b
        → t p ≡ true
    passes h p m true u = let l = ltb-true p 16 u in
        f p m l ∙ sym (bits_apart 16 0 (ps ++ qs) qs h p (omega arith) (omega arith)) ∙ member_append p ps qs ∙ rw m
    passes h p m false u = g p m (ltb-false p 16 u)

pub within_subset : (ps qs : List ℕ) → ((p : ℕ) → member p ps ≡ true → p < 16)
    → eqb (bit_or (bits_of ps) (bits_of qs)) (bits_of qs) ≡ subset ps qs
unfolding subset
within_subset ps qs h = bits_within (λ p. member p qs) ps qs (λ p m l. refl)
    (λ p m l. let r = h p m in absurd (omega arith))

-- ---- declared sets
pub mask_members : (n : ℕ) → n < 65_536 → mask_of (members n) ≡ n
unfolding mask_of bits_of members member
mask_members n h = rw (
  members_bits 16 0 n h,
  bits_same 4 128 (members_from 16 0 n) [] (members_elsewhere 4 128 16 0 n (λ p a b c d. omega arith)),
  bits_nil 4 128,
) (omega arith)

pub bits_members : (n : ℕ) → n < 65_536 → bits_of (members n) ≡ n
bits_members n h = sym (mask_constants (members n)) ∙ rw (mask_members n h) (omega arith)

pub declared_below : (n k : ℕ) → n < 65_536 → all (λ p. ltb p k) (members n) ≡ ltb n (2 ^ k)
unfolding members
declared_below n k h = members_below 16 0 k n h ∙ (let z : k - 0 ≡ k = omega arith in rw z)

-- "A template body's constant parties lie within its declared ones."
pub constants_declared : (n : ℕ) (qs : List ℕ) → n < 65_536 → ValidMembers qs
    → eqb (bit_or (mask_of qs % 65_536) n) n ≡ all
    (λ q. elim (is_constant q) [ true ↦ member q (members n) | false ↦ true ]) qs
unfolding is_constant
constants_declared n qs h v =
    rw (mask_constants qs) (rw (bits_members n h) at
    (bits_within (λ q. elim (is_constant q) [ true ↦ member q (members n) | false ↦ true ]) qs (members n) party
    param))
  where
    party : (p : ℕ) → member p qs ≡ true → p < 16
        → (elim (ltb p 128) [ true ↦ member p (members n) | false ↦ true ]) ≡ member p (members n)
    party p m l = rw (lt-ltb p 128 (omega arith))

    param : (p : ℕ) → member p qs ≡ true → 16 ≤ p
        → (elim (ltb p 128) [ true ↦ member p (members n) | false ↦ true ]) ≡ true
    param p m l = go (v.each p m)
      where
        go : HasBit p → (elim (ltb p 128) [ true ↦ member p (members n) | false ↦ true ]) ≡ true
        go (inl u) = absurd (omega arith)
        go (inr u) = rw (le-ltb p 128 (omega arith))

-- the same, of the masks that the code has: m of the body's parties, a of the constant ones
pub body_within : {m a n : ℕ} {r : Bool} (qs : List ℕ) → n < 65_536 → ValidMembers qs → m ≡ mask_of qs → a ≡ m % 65_536
    → r ≡ eqb (bit_or a n) n → r ≡ all (λ q. elim (is_constant q) [ true ↦ member q (members n) | false ↦ true ]) qs
body_within {n = n} qs h v e f g = g ∙ rw (f, e) (constants_declared n qs h v)

-- ---- the set of a blame byte
one_party : (b : ℕ) → b < 16 → mask_of (b ∷ []) ≡ 2 ^ b
unfolding mask_of bits_of member
one_party b l = let z : b - 0 ≡ b = omega arith in
    rw (
      bits_new 16 0 b [] (omega arith) (omega arith) refl,
      bits_skip 4 128 b [] (λ x y. omega arith),
      bits_nil 16 0,
      bits_nil 4 128,
      z,
    ) (omega arith)

one_param : (b : ℕ) → 128 ≤ b → b < 132 → mask_of (b ∷ []) ≡ 2 ^ (16 + (b - 128))
unfolding mask_of bits_of member
one_param b l u = rw (
  bits_new 4 128 b [] (omega arith) (omega arith) refl,
  bits_skip 16 0 b [] (λ x y. omega arith),
  bits_nil 16 0,
  bits_nil 4 128,
  pow-add 2 16 (b - 128),
) (omega arith)

-- r is what `bit` gave
allowed : (parties params b k : ℕ) {r : ℕ} → may_blame parties params b ≡ true → mask_of (b ∷ []) ≡ 2 ^ k → r ≡ 2 ^ k
    → Some r ≡ cond (may_blame parties params b) (Some (mask_of (b ∷ []))) None
allowed parties params b k e m g = rw (e, m, g)

pub allowed_party : (parties params b : ℕ) {r : ℕ} → parties ≤ 16 → b < parties → r ≡ 2 ^ b
    → Some r ≡ cond (may_blame parties params b) (Some (mask_of (b ∷ []))) None
allowed_party parties params b p l = allowed parties params b b (rw (lt-ltb b parties l)) (one_party b (omega arith))

-- what a range of bytes holds, as the code asks it
within : (from to b : ℕ)
    → (partial_le (as_partial_cmp nat_cmp) from b && partial_lt (as_partial_cmp nat_cmp) b to)
    ≡ (leb from b && ltb b to)
within from to b = grind (arith, nat_tests)

module _ (parties params b : ℕ) (n : parties ≤ b) {t : Bool}
    (e : t ≡ (partial_le (as_partial_cmp nat_cmp) 128 b && partial_lt (as_partial_cmp nat_cmp) b (128 + params))) where
  module _ (p : params ≤ 4) (h : t ≡ true) where
    both : (leb 128 b && ltb b (128 + params)) ≡ true
    both = sym (e ∙ within 128 (128 + params) b) ∙ h

    pub from_128 : 128 ≤ b
    from_128 = leb-true 128 b (and_left (leb 128 b) (ltb b (128 + params)) both)

    pub below_132 : b < 132
    below_132 =
        let u = ltb-true b (128 + params) (and_right (leb 128 b) (ltb b (128 + params)) both) in omega arith

    pub allowed_param : {r : ℕ} → r ≡ 2 ^ (16 + (b - 128))
        → Some r ≡ cond (may_blame parties params b) (Some (mask_of (b ∷ []))) None
    allowed_param = allowed parties params b (16 + (b - 128)) (rw (le-ltb b parties n) both)
        (one_param b from_128 below_132)

-- ---- the bit of a party, among the parties alone
pub bits_small : (ps : List ℕ) → bits_of ps < 65_536
unfolding bits_of
bits_small ps = bits_lt 16 0 ps

pub bit_party : (p : ℕ) {r : ℕ} → p < 16 → r ≡ 2 ^ p → (r ≡ bits_of (p ∷ [])) × (r < 65_536)
unfolding bits_of member
bit_party p l g =
    let z : p - 0 ≡ p = omega arith in
    let e = g ∙ sym (bits_new 16 0 p [] (omega arith) (omega arith) refl ∙ rw (bits_nil 16 0, z) (omega arith)) in
    (e, rw e (bits_small (p ∷ [])))

pub bit_none : (p : ℕ) → 16 ≤ p → (0 ≡ bits_of (p ∷ [])) × (0 < 65_536)
unfolding bits_of
bit_none p l = (sym (bits_skip 16 0 p [] (λ a b. omega arith) ∙ bits_nil 16 0), omega arith)

-- parties alone have no bits of party parameters
pub mask_bits : (ps : List ℕ) → ((q : ℕ) → member q ps ≡ true → q < 16) → mask_of ps ≡ bits_of ps
unfolding mask_of
mask_bits ps f =
    let e : bits_from 4 128 ps ≡ 0 = bits_same 4 128 ps [] (λ j l u. no_member j l (member j ps) refl)
    ∙ bits_nil 4 128 in
    omega (arith, e)
  where
    no_member : (j : ℕ) → 128 ≤ j → (b : Bool) → member j ps ≡ b → b ≡ member j []
    no_member j l true e = absurd (omega (arith, f j e))
    no_member j l false e = unfold member in refl
