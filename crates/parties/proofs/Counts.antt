-- The ones of a set's bits are its members, since each member has a bit of its own; and a number below 2^20 is the bits
-- of its lower 16 bits' parties and its upper 4 bits' party parameters.
use mathlib.Core.Bool.{false, ◌||◌, or-false}
use mathlib.Core.List.{List, ◌++◌}
use mathlib.Core.Logic.{inr}
use mathlib.Core.Path.{◌≡◌, ◌∙◌}
use Prim.Native.Nat.{ℕ, ◌+◌, ◌/◌, ◌%◌, ◌≤◌, ◌<◌}
use native.Mathlib.Omega.{arith}
use Rattle.csl.specs.Parties.{member, bits_from, bits_of, members_from, members}
use Rattle.laws.proofs.PartyBits.{member_append, members_within, members_bits, bits_same}
use Rattle.parties.specs.Masks.{mask_of, mask_end, ValidMembers}
use Rattle.parties.specs.Counts.{CountClaim}
use Rattle.parties.proofs.Members.{members_elsewhere}
use Rattle.parties.proofs.Masks.{mask_count, mask_lt, valid_append, valid_members}

-- the bits of a set in two parts
joined_bits : (k i : ℕ) (ps qs rs : List ℕ)
    → ((p : ℕ) → i ≤ p → p < i + k → (member p ps || member p qs) ≡ member p rs)
    → bits_from k i (ps ++ qs) ≡ bits_from k i rs
joined_bits k i ps qs rs same = bits_same k i (ps ++ qs) rs (λ p l u. member_append p ps qs ∙ same p l u)

-- the set whose bits a number is
abbrev lower : ℕ → List ℕ
lower n = members (n % 65_536)

abbrev upper : ℕ → List ℕ
upper n = members_from 4 128 (n / 65_536)

upper_valid : (n : ℕ) → ValidMembers (upper n)
upper_valid n = record {
  each = λ p e. let r = members_within 4 128 (n / 65_536) p e in inr (r.0, omega (arith, r.1));
}

set_bits : (n : ℕ) → n < mask_end → mask_of (lower n ++ upper n) ≡ n
unfolding mask_of bits_of members
set_bits n h = rw (
  joined_bits 16 0 (lower n) (upper n) (lower n) (λ p l u. rw (no_upper p l u) (or-false (member p (lower n)))),
  joined_bits 4 128 (lower n) (upper n) (upper n) (λ p l u. rw (no_lower p l u)),
  members_bits 16 0 (n % 65_536) (omega arith),
  members_bits 4 128 (n / 65_536) (omega arith),
) (omega arith)
  where
    no_upper : (p : ℕ) → 0 ≤ p → p < 16 → member p (upper n) ≡ false
    no_upper = members_elsewhere 16 0 4 128 (n / 65_536) (λ p a b c d. omega arith)

    no_lower : (p : ℕ) → 128 ≤ p → p < 132 → member p (lower n) ≡ false
    no_lower = members_elsewhere 4 128 16 0 (n % 65_536) (λ p a b c d. omega arith)

pub counts : CountClaim
counts = record {
  counted = mask_count;
  fits = mask_lt;
  reached = λ n h. (lower n ++ upper n, valid_append (valid_members (n % 65_536)) (upper_valid n), set_bits n h);
}
