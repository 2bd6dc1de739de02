-- Paper 02, No. 4: "use the count of ones that the language has [..] Show that for every set, parameters too, it is the
-- number of members in the definitions".
-- To the definitions a set of parties and party parameters is the list of its members, to the code it is their bits,
-- `mask_of`; `ones` is what `usize::count_ones` counts.
use Rattle.std.specs.Prelude.{List, ◌≡◌, ℕ, ◌<◌}
use Rattle.std.specs.Int.Count.{ones}
use Rattle.csl.specs.Parties.{member_count}
use Rattle.parties.specs.Masks.{mask_of, mask_end, ValidMembers}

pub record CountClaim : Type 0 where
  -- "for every set, parameters too, it is the number of members in the definitions"
  pub counted : (ps : List ℕ) → ValidMembers ps → ones (mask_of ps) ≡ member_count ps
  -- the bits of every set are below 2^20: none is lost
  pub fits : (ps : List ℕ) → mask_of ps < mask_end
  -- and every number below 2^20 is the bits of a set: nothing else is counted
  pub reached : (n : ℕ) → n < mask_end → (ps : List ℕ) × ValidMembers ps × (mask_of ps ≡ n)
