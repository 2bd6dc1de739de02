-- Sets of parties by bit: bit n for party n, below 16, and bit 16 + n for the party parameter n, the member 128 + n.
use Rattle.std.specs.Prelude.{Bool, true, ◌&&◌, ◌||◌, List, ◌⊎◌, ◌≡◌, ℕ, ◌+◌, ◌*◌, ◌≤◌, ◌<◌, leb}
use Rattle.std.specs.Prelude.{◌++◌, ltb}
use Rattle.std.specs.Int.Bits.{bit_or}
use Rattle.csl.specs.Parties.{member, bits_from, bits_of}

unfoldable pub mask_of : List ℕ → ℕ
mask_of ps = bits_of ps + 65_536 * bits_from 4 128 ps

-- every mask is below this
abbrev pub mask_end : ℕ
mask_end = 1_048_576

-- p is a party or a party parameter
abbrev pub HasBit : ℕ → Type 0
HasBit p = (p < 16) ⊎ ((128 ≤ p) × (p < 132))

-- every member has a bit
pub record ValidMembers (ps : List ℕ) : Type 0 where
  pub each : (p : ℕ) → member p ps ≡ true → HasBit p

-- blameOk of any names with so many parties and party parameters
abbrev pub may_blame : ℕ → ℕ → ℕ → Bool
may_blame parties params b = ltb b parties || (leb 128 b && ltb b (128 + params))

-- r is the union of a and b: it stands for the members of both, and where both have 20 bits, so has it
abbrev pub Union : ℕ → ℕ → ℕ → Type 0
Union a b r = (r ≡ bit_or a b) × (a < mask_end → b < mask_end → r < mask_end)
    × ((ps qs : List ℕ) → a ≡ mask_of ps → b ≡ mask_of qs → r ≡ mask_of (ps ++ qs))
